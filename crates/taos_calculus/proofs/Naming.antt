-- A node table gives each number its principal, and no principal two numbers.
use Rattle.std.proofs.Common.{◌≡◌, ℕ, zero, suc, ◌+◌, ◌<◌, List, [], ◌∷◌, ◌++◌, Some, slice_get, get_or, length, refl, sym, ◌∙◌, arith}
use Rattle.std.proofs.lemmas.List.{get_or_append_left, length-append}
use Rattle.std.proofs.Math.Seq.{get_or-append_seam}
use Rattle.std.proofs.lemmas.Option.{none-some, same_Some, slice_get-get_or, slice_get_within}
use Rattle.taos_calculus.specs.declared.line.Node.{Node}
use Rattle.prin_term.specs.Principal.{Principal, Key, Name, And, Quoting, InRole, For}
use Rattle.taos_calculus.specs.Tables.{shape, OperandsBelow, IsNodeTable, grown, principals_of, named}

-- the principal goes by the operands' principals alone
shape_same : (f g : ℕ → Principal) (n : ℕ) (node : Node) → OperandsBelow n node → ((j : ℕ) → j < n → f j ≡ g j) → shape f node ≡ shape g node
shape_same f g n (Node.Key k) h e = refl
shape_same f g n (Node.Name k) h e = refl
shape_same f g n (Node.And a b) h e = let p : f a ≡ g a = e a h.0 in let q : f b ≡ g b = e b h.1 in cc
shape_same f g n (Node.Quote a b) h e = let p : f a ≡ g a = e a h.0 in let q : f b ≡ g b = e b h.1 in cc
shape_same f g n (Node.AsRole a r) h e = let p : f a ≡ g a = e a h in cc
shape_same f g n (Node.For a b) h e = let p : f a ≡ g a = e a h.0 in let q : f b ≡ g b = e b h.1 in cc

grown_keeps : (earlier : List Principal) (nodes : List Node) (i : ℕ) → i < length earlier → get_or (grown earlier nodes) i (Key 0) ≡ get_or earlier i (Key 0)
grown_keeps earlier [] i h = refl
grown_keeps earlier (node ∷ rest) i h =
    let x : Principal = shape (λ k. get_or earlier k (Key 0)) node in
    let longer : length (earlier ++ x ∷ []) ≡ length earlier + 1 = length-append earlier (x ∷ []) in
    grown_keeps (earlier ++ x ∷ []) rest i (omega arith) ∙ get_or_append_left earlier (x ∷ []) (Key 0) i h

grown_reads : (earlier : List Principal) (nodes : List Node) (k i : ℕ) (node : Node) → slice_get nodes k ≡ Some node → i ≡ length earlier + k → OperandsBelow i node →
    get_or (grown earlier nodes) i (Key 0) ≡ shape (λ j. get_or (grown earlier nodes) j (Key 0)) node
grown_reads earlier [] k i node e at h = absurd (none-some node e)
grown_reads earlier (first ∷ rest) zero i node e at h =
    let x : Principal = shape (λ k. get_or earlier k (Key 0)) first in
    let longer : length (earlier ++ x ∷ []) ≡ length earlier + 1 = length-append earlier (x ∷ []) in
    let here : i ≡ length earlier = omega arith in
    let same_node : first ≡ node = same_Some first node e in
    let reads : get_or (grown earlier (first ∷ rest)) (length earlier) (Key 0) ≡ x
    = grown_keeps (earlier ++ x ∷ []) rest (length earlier) (omega arith) ∙ get_or-append_seam earlier x [] (Key 0) in
    let below : OperandsBelow (length earlier) first = rw same_node (rw here at h) in
    let kept : x ≡ shape (λ j. get_or (grown earlier (first ∷ rest)) j (Key 0)) first
    = shape_same (λ k. get_or earlier k (Key 0)) (λ j. get_or (grown earlier (first ∷ rest)) j (Key 0)) (length earlier) first below
    (λ j hj. sym (grown_keeps earlier (first ∷ rest) j hj)) in
    rw here (rw (← same_node) (reads ∙ kept))
grown_reads earlier (first ∷ rest) (suc k) i node e at h =
    let x : Principal = shape (λ k. get_or earlier k (Key 0)) first in
    let longer : length (earlier ++ x ∷ []) ≡ length earlier + 1 = length-append earlier (x ∷ []) in
    grown_reads (earlier ++ x ∷ []) rest k i node e (omega arith) h

length-grown : (earlier : List Principal) (nodes : List Node) → length (grown earlier nodes) ≡ length earlier + length nodes
length-grown earlier [] = omega arith
length-grown earlier (node ∷ rest) =
    let x : Principal = shape (λ k. get_or earlier k (Key 0)) node in
    let longer : length (earlier ++ x ∷ []) ≡ length earlier + 1 = length-append earlier (x ∷ []) in
    let ends : length (grown (earlier ++ x ∷ []) rest) ≡ length (earlier ++ x ∷ []) + length rest = length-grown (earlier ++ x ∷ []) rest in
    omega arith

pub length-principals_of : (nodes : List Node) → length (principals_of nodes) ≡ length nodes
length-principals_of nodes = let e : length (principals_of nodes) ≡ 0 + length nodes = length-grown [] nodes in omega arith

-- where operands come first, a number has the principal of its node
pub ordered_reads : (nodes : List Node) → ((i : ℕ) (node : Node) → slice_get nodes i ≡ Some node → OperandsBelow i node) →
    (i : ℕ) (node : Node) → slice_get nodes i ≡ Some node → named nodes i ≡ shape (named nodes) node
ordered_reads nodes ordered i node e = grown_reads [] nodes i i node e (omega arith) (ordered i node e)

module _ (nodes : List Node) (table : IsNodeTable nodes) where
  pub named_reads : (i : ℕ) (node : Node) → slice_get nodes i ≡ Some node → named nodes i ≡ shape (named nodes) node
  named_reads i node e = ordered_reads nodes table.ordered i node e

  same_node : (i j : ℕ) (a b : Node) → slice_get nodes i ≡ Some a → slice_get nodes j ≡ Some b → a ≡ b → i ≡ j
  same_node i j a b e f q = table.distinct i j a e (rw q f)

  -- one node's number, where those below it are told apart
  by_nodes : (i j : ℕ) (a b : Node) → slice_get nodes i ≡ Some a → slice_get nodes j ≡ Some b → named nodes i ≡ named nodes j →
      ((x y : ℕ) → x < i → y < length nodes → named nodes x ≡ named nodes y → x ≡ y) → i ≡ j
  by_nodes i j (Node.Key k) (Node.Key m) e f q below =
      let r : named nodes i ≡ Key k = named_reads i (Node.Key k) e in
      let t : named nodes j ≡ Key m = named_reads j (Node.Key m) f in
      let same : Key k ≡ Key m = sym r ∙ (q ∙ t) in
      let n : k ≡ m = cc in
      same_node i j (Node.Key k) (Node.Key m) e f (cc)
  by_nodes i j (Node.Name k) (Node.Name m) e f q below =
      let r : named nodes i ≡ Name k = named_reads i (Node.Name k) e in
      let t : named nodes j ≡ Name m = named_reads j (Node.Name m) f in
      let same : Name k ≡ Name m = sym r ∙ (q ∙ t) in
      let n : k ≡ m = cc in
      same_node i j (Node.Name k) (Node.Name m) e f (cc)
  by_nodes i j (Node.And a b) (Node.And c d) e f q below =
      let r : named nodes i ≡ And (named nodes a) (named nodes b) = named_reads i (Node.And a b) e in
      let t : named nodes j ≡ And (named nodes c) (named nodes d) = named_reads j (Node.And c d) f in
      let same : And (named nodes a) (named nodes b) ≡ And (named nodes c) (named nodes d) = sym r ∙ (q ∙ t) in
      let h : (a < i) × (b < i) = table.ordered i (Node.And a b) e in
      let k : (c < j) × (d < j) = table.ordered j (Node.And c d) f in
      let l : j < length nodes = slice_get_within nodes j (Node.And c d) f in
      let qa : a ≡ c = below a c h.0 (omega arith) (cc) in
      let qb : b ≡ d = below b d h.1 (omega arith) (cc) in
      same_node i j (Node.And a b) (Node.And c d) e f (cc)
  by_nodes i j (Node.Quote a b) (Node.Quote c d) e f q below =
      let r : named nodes i ≡ Quoting (named nodes a) (named nodes b) = named_reads i (Node.Quote a b) e in
      let t : named nodes j ≡ Quoting (named nodes c) (named nodes d) = named_reads j (Node.Quote c d) f in
      let same : Quoting (named nodes a) (named nodes b) ≡ Quoting (named nodes c) (named nodes d) = sym r ∙ (q ∙ t) in
      let h : (a < i) × (b < i) = table.ordered i (Node.Quote a b) e in
      let k : (c < j) × (d < j) = table.ordered j (Node.Quote c d) f in
      let l : j < length nodes = slice_get_within nodes j (Node.Quote c d) f in
      let qa : a ≡ c = below a c h.0 (omega arith) (cc) in
      let qb : b ≡ d = below b d h.1 (omega arith) (cc) in
      same_node i j (Node.Quote a b) (Node.Quote c d) e f (cc)
  by_nodes i j (Node.For a b) (Node.For c d) e f q below =
      let r : named nodes i ≡ For (named nodes a) (named nodes b) = named_reads i (Node.For a b) e in
      let t : named nodes j ≡ For (named nodes c) (named nodes d) = named_reads j (Node.For c d) f in
      let same : For (named nodes a) (named nodes b) ≡ For (named nodes c) (named nodes d) = sym r ∙ (q ∙ t) in
      let h : (a < i) × (b < i) = table.ordered i (Node.For a b) e in
      let k : (c < j) × (d < j) = table.ordered j (Node.For c d) f in
      let l : j < length nodes = slice_get_within nodes j (Node.For c d) f in
      let qa : a ≡ c = below a c h.0 (omega arith) (cc) in
      let qb : b ≡ d = below b d h.1 (omega arith) (cc) in
      same_node i j (Node.For a b) (Node.For c d) e f (cc)
  by_nodes i j (Node.AsRole a m) (Node.AsRole c n) e f q below =
      let r : named nodes i ≡ InRole (named nodes a) m = named_reads i (Node.AsRole a m) e in
      let t : named nodes j ≡ InRole (named nodes c) n = named_reads j (Node.AsRole c n) f in
      let same : InRole (named nodes a) m ≡ InRole (named nodes c) n = sym r ∙ (q ∙ t) in
      let h : a < i = table.ordered i (Node.AsRole a m) e in
      let k : c < j = table.ordered j (Node.AsRole c n) f in
      let l : j < length nodes = slice_get_within nodes j (Node.AsRole c n) f in
      let qa : a ≡ c = below a c h (omega arith) (cc) in
      let qm : m ≡ n = cc in
      same_node i j (Node.AsRole a m) (Node.AsRole c n) e f (cc)
  by_nodes i j a b e f q below =
      let r : named nodes i ≡ shape (named nodes) a = named_reads i a e in
      let t : named nodes j ≡ shape (named nodes) b = named_reads j b f in
      let same : shape (named nodes) a ≡ shape (named nodes) b = sym r ∙ (q ∙ t) in
      absurd (cc)

  same_number : (b i j : ℕ) → i < b → i < length nodes → j < length nodes → named nodes i ≡ named nodes j → i ≡ j
  same_number zero i j h hi hj e = absurd (omega arith)
  same_number (suc b) i j h hi hj e =
      by_nodes i j (get_or nodes i (Node.Key 0)) (get_or nodes j (Node.Key 0)) (slice_get-get_or nodes i (Node.Key 0) hi) (slice_get-get_or nodes j (Node.Key 0) hj) e
      (λ x y hx hy f. same_number b x y (omega arith) (omega arith) hy f)

  -- no principal has two numbers
  pub named_apart : (i j : ℕ) → i < length nodes → j < length nodes → named nodes i ≡ named nodes j → i ≡ j
  named_apart i j hi hj e = same_number (i + 1) i j (omega arith) hi hj e

-- operands below i are below n
pub operands_below : (i n : ℕ) (node : Node) → OperandsBelow i node → i < n → OperandsBelow n node
operands_below i n (Node.Key k) h l = tt
operands_below i n (Node.Name k) h l = tt
operands_below i n (Node.And a b) h l = (omega (arith, h.0), omega (arith, h.1))
operands_below i n (Node.Quote a b) h l = (omega (arith, h.0), omega (arith, h.1))
operands_below i n (Node.AsRole a r) h l = omega (arith, h)
operands_below i n (Node.For a b) h l = (omega (arith, h.0), omega (arith, h.1))
