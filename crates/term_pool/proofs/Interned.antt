-- A table of nodes with one node more, and with a principal more.
use Rattle.std.proofs.Common.{◌≡◌, ◌⊎◌, inl, inr, ℕ, zero, suc, ◌+◌, ◌<◌, ◌≤◌, true, false, List, [], ◌∷◌, ◌++◌, Some, slice_get, get_or, length, refl, sym, ap, ap₂, subst, ◌∙◌, arith}
use Rattle.std.specs.List.{list_any}
use Rattle.std.proofs.lemmas.List.{get_or_append_left, get_or_default, length-append}
use Rattle.std.proofs.lemmas.List.Folds.{list_any_at}
use Rattle.std.proofs.Math.Seq.{get_or-append_seam}
use Rattle.std.proofs.lemmas.Bool.{false_from_ne_true}
use Rattle.std.proofs.lemmas.Map.Views.{Contains-from_any}
use Rattle.std.proofs.lemmas.Option.{none-some, same_Some, slice_get-get_or, slice_get_within}
use Rattle.prin_term.specs.Kind.{Kind, And, Quoting, For, pair}
use Rattle.prin_term.specs.Principal.{Principal, Key, InRole}
use Rattle.taos_calculus.specs.declared.line.Node.{Node}
use Rattle.stmt_codec.specs.Distinct.{same_principal}
use Rattle.taos_calculus.specs.Canonical.{post_order}
use Rattle.stmt_codec.specs.Distinct.{met}
use Rattle.taos_calculus.specs.Tables.{shape, OperandsBelow, IsNodeTable, grown, principals_of, named}
use Rattle.stmt_codec.proofs.Firsts.{met-there, met-new, met-append, met-grows}
use Rattle.taos_calculus.proofs.Naming.{named_reads, named_apart, operands_below, length-principals_of}
use Rattle.stmt_codec.proofs.Same.{same_principal-true, same_principal-itself}
use Rattle.term_pool.specs.Interning.{IsRoomy, FitsIn, TakesIn, node_pair}

-- nodes of one shape are one
pub shape_apart : (nodes : List Node) (table : IsNodeTable nodes) (a b : Node) → OperandsBelow (length nodes) a → OperandsBelow (length nodes) b →
    shape (named nodes) a ≡ shape (named nodes) b → a ≡ b
shape_apart nodes table (Node.Key k) (Node.Key m) h l e = let n : k ≡ m = cc in cc
shape_apart nodes table (Node.Name k) (Node.Name m) h l e = let n : k ≡ m = cc in cc
shape_apart nodes table (Node.And a b) (Node.And c d) h l e =
    let p : a ≡ c = named_apart nodes table a c h.0 l.0 (cc) in
    let q : b ≡ d = named_apart nodes table b d h.1 l.1 (cc) in cc
shape_apart nodes table (Node.Quote a b) (Node.Quote c d) h l e =
    let p : a ≡ c = named_apart nodes table a c h.0 l.0 (cc) in
    let q : b ≡ d = named_apart nodes table b d h.1 l.1 (cc) in cc
shape_apart nodes table (Node.For a b) (Node.For c d) h l e =
    let p : a ≡ c = named_apart nodes table a c h.0 l.0 (cc) in
    let q : b ≡ d = named_apart nodes table b d h.1 l.1 (cc) in cc
shape_apart nodes table (Node.AsRole a r) (Node.AsRole c m) h l e =
    let p : a ≡ c = named_apart nodes table a c h l (cc) in
    let q : r ≡ m = cc in cc
shape_apart nodes table a b h l e = absurd (cc)

grown-push : (earlier : List Principal) (nodes : List Node) (node : Node) →
    grown earlier (nodes ++ node ∷ []) ≡ grown earlier nodes ++ shape (λ i. get_or (grown earlier nodes) i (Key 0)) node ∷ []
grown-push earlier [] node = refl
grown-push earlier (x ∷ nodes) node = grown-push (earlier ++ shape (λ i. get_or earlier i (Key 0)) x ∷ []) nodes node

pub principals_of-push : (nodes : List Node) (node : Node) → principals_of (nodes ++ node ∷ []) ≡ principals_of nodes ++ shape (named nodes) node ∷ []
principals_of-push nodes node = grown-push [] nodes node

-- a longer list with an element of the shorter one
pub pushed_at : {X : Type 0} (xs : List X) (x y : X) (i : ℕ) → slice_get (xs ++ x ∷ []) i ≡ Some y → (slice_get xs i ≡ Some y) ⊎ ((i ≡ length xs) × (x ≡ y))
pushed_at [] x y zero e = inr (refl, same_Some x y e)
pushed_at [] x y (suc i) e = absurd (none-some y e)
pushed_at (z ∷ xs) x y zero e = inl e
pushed_at {X} (z ∷ xs) x y (suc i) e = go (pushed_at xs x y i e)
  where
    go : (slice_get xs i ≡ Some y) ⊎ ((i ≡ length xs) × (x ≡ y)) → (slice_get xs i ≡ Some y) ⊎ ((suc i ≡ length (z ∷ xs)) × (x ≡ y))
    go (inl h) = inl h
    go (inr h) = inr (ap suc h.0, h.1)

module _ (nodes : List Node) (table : IsNodeTable nodes) (node : Node) (below : OperandsBelow (length nodes) node) where
  abbrev it : Principal
  it = shape (named nodes) node

  member_at : (i : ℕ) → slice_get nodes i ≡ Some node → list_any (same_principal it) (principals_of nodes) ≡ true
  member_at i e =
      let fits : i < length (principals_of nodes) = omega (arith, slice_get_within nodes i node e, length-principals_of nodes) in
      let reads : named nodes i ≡ it = named_reads nodes table i node e in
      list_any_at (same_principal it) (principals_of nodes) i (Key 0) fits (rw reads (same_principal-itself it))

  -- it is there
  pub taken_there : (i : ℕ) → slice_get nodes i ≡ Some node → TakesIn nodes nodes (it ∷ []) it i
  taken_there i e = record {
    table = table;
    grown = sym (met-there (principals_of nodes) it [] (member_at i e));
    within = slice_get_within nodes i node e;
    named_is = named_reads nodes table i node e;
  }

  module _ (none : (i : ℕ) → slice_get nodes i ≡ Some node → ⊥) where
    is_new : list_any (same_principal it) (principals_of nodes) ≡ false
    is_new = false_from_ne_true (list_any (same_principal it) (principals_of nodes)) (λ t.
        let (k, h, e) = Contains-from_any same_principal-true it (principals_of nodes) t in
        let fits : k < length nodes = omega (arith, h, length-principals_of nodes) in
        let other : Node = get_or nodes k (Node.Key 0) in
        let at : slice_get nodes k ≡ Some other = slice_get-get_or nodes k (Node.Key 0) fits in
        let reads : named nodes k ≡ shape (named nodes) other = named_reads nodes table k other at in
        let same : shape (named nodes) other ≡ it = sym reads ∙ get_or_default (principals_of nodes) k (Key 0) it h ∙ e in
        let inside : OperandsBelow (length nodes) other = operands_below k (length nodes) other (table.ordered k other at) fits in
        let is : other ≡ node = shape_apart nodes table other node inside below same in
        absurd (none k (at ∙ ap (λ (n : Node). Some n) is)))

    met_is : met (principals_of nodes) (it ∷ []) ≡ principals_of nodes ++ it ∷ []
    met_is = met-new (principals_of nodes) it [] is_new

    pub met_longer : length (met (principals_of nodes) (it ∷ [])) ≡ length nodes + 1
    met_longer = omega (arith, ap length met_is, length-append (principals_of nodes) (it ∷ []), length-principals_of nodes)

    ordered : (i : ℕ) (n : Node) → slice_get (nodes ++ node ∷ []) i ≡ Some n → OperandsBelow i n
    ordered i n e = go (pushed_at nodes node n i e)
      where
        go : (slice_get nodes i ≡ Some n) ⊎ ((i ≡ length nodes) × (node ≡ n)) → OperandsBelow i n
        go (inl h) = table.ordered i n h
        go (inr (h, q)) = rw (h, ← q) below

    distinct : (i j : ℕ) (n : Node) → slice_get (nodes ++ node ∷ []) i ≡ Some n → slice_get (nodes ++ node ∷ []) j ≡ Some n → i ≡ j
    distinct i j n e f = go (pushed_at nodes node n i e) (pushed_at nodes node n j f)
      where
        go : (slice_get nodes i ≡ Some n) ⊎ ((i ≡ length nodes) × (node ≡ n)) → (slice_get nodes j ≡ Some n) ⊎ ((j ≡ length nodes) × (node ≡ n)) → i ≡ j
        go (inl h) (inl k) = table.distinct i j n h k
        go (inl h) (inr (k, q)) = absurd (none i (h ∙ ap (λ (x : Node). Some x) (sym q)))
        go (inr (h, q)) (inl k) = absurd (none j (k ∙ ap (λ (x : Node). Some x) (sym q)))
        go (inr (h, q)) (inr (k, r)) = h ∙ sym k

    pub taken_new : TakesIn nodes (nodes ++ node ∷ []) (it ∷ []) it (length nodes)
    taken_new = record {
      table = record { ordered = ordered; distinct = distinct };
      grown = principals_of-push nodes node ∙ sym met_is;
      within = omega (arith, length-append nodes (node ∷ []));
      named_is = ap (λ (ps : List Principal). get_or ps (length nodes) (Key 0)) (principals_of-push nodes node) ∙
          (subst (λ n. get_or (principals_of nodes ++ it ∷ []) n (Key 0) ≡ it) (length-principals_of nodes) (get_or-append_seam (principals_of nodes) it [] (Key 0)));
    }

-- a table with more principals after its own keeps those of its numbers
module _ (old new : List Node) (more : List Principal) (e : principals_of new ≡ principals_of old ++ more) where
  pub longer_length : length old ≤ length new
  longer_length = omega (arith, ap length e, length-append (principals_of old) more, length-principals_of old, length-principals_of new)

  pub longer_named : (i : ℕ) → i < length old → named new i ≡ named old i
  longer_named i h =
      ap (λ (xs : List Principal). get_or xs i (Key 0)) e ∙ get_or_append_left (principals_of old) more (Key 0) i (omega (arith, h, length-principals_of old))

-- and so does one that has met principals
module _ (old new : List Node) (ps : List Principal) (e : principals_of new ≡ met (principals_of old) ps) where
  pub met_length : length old ≤ length new
  met_length = let (more, f) = met-grows (principals_of old) ps in longer_length old new more (e ∙ f)

  pub met_named : (i : ℕ) → i < length old → named new i ≡ named old i
  met_named i h = let (more, f) = met-grows (principals_of old) ps in longer_named old new more (e ∙ f) i h

-- a table that has taken principals in
module _ (old new : List Node) (ps : List Principal) (p : Principal) (id : ℕ) (t : TakesIn old new ps p id) where
  pub length_grown : length old ≤ length new
  length_grown = met_length old new ps t.grown

  pub named_stays : (i : ℕ) → i < length old → named new i ≡ named old i
  named_stays i h = met_named old new ps t.grown i h

  pub fits_next : {room : ℕ} (qs : List Principal) → FitsIn room old (ps ++ qs) → FitsIn room new qs
  fits_next {room} qs f = rw (t.grown) (subst (λ (xs : List Principal). length xs ≤ room) (met-append (principals_of old) ps qs) f)

pub fits_front : {room : ℕ} (nodes : List Node) (ps qs : List Principal) → FitsIn room nodes (ps ++ qs) → FitsIn room nodes ps
fits_front {room} nodes ps qs f =
    let (more, e) = met-grows (met (principals_of nodes) ps) qs in
    omega (arith, f, ap length (met-append (principals_of nodes) ps qs), ap length e, length-append (met (principals_of nodes) ps) more)

-- a table that fits is small already
pub fits_length : {room : ℕ} (nodes : List Node) (ps : List Principal) → FitsIn room nodes ps → length nodes ≤ room
fits_length {room} nodes ps f =
    let (more, e) = met-grows (principals_of nodes) ps in
    omega (arith, f, ap length e, length-append (principals_of nodes) more, length-principals_of nodes)

pub roomy_next : (old new : List Node) (c d : ℕ) (ps : List Principal) (p : Principal) (id : ℕ) → IsRoomy old c → TakesIn old new ps p id → c ≤ d → IsRoomy new d
roomy_next old new c d ps p id r t h = record { table = t.table; room = omega (arith, r.room, h) }

-- a compound of one
module _ (o n : List Node) (a : Principal) (r x : ℕ) (h : TakesIn o n (post_order a) a x) where
  pub role_fits : {room : ℕ} → FitsIn room o (post_order (InRole a r)) → FitsIn room n (InRole (named n x) r ∷ [])
  role_fits {room} f = rw h.named_is (fits_next o n (post_order a) a x h (InRole a r ∷ []) f)

  pub role_taken : (m : List Node) (z : ℕ) → TakesIn n m (InRole (named n x) r ∷ []) (InRole (named n x) r) z →
      TakesIn o m (post_order (InRole a r)) (InRole a r) z
  role_taken m z k =
      let same : InRole (named n x) r ≡ InRole a r = ap (λ q. InRole q r) h.named_is in
      record {
        table = k.table;
        grown = k.grown ∙ ap₂ (λ (t ps : List Principal). met t ps) h.grown (ap (λ q. q ∷ []) same) ∙ sym (met-append (principals_of o) (post_order a) (InRole a r ∷ []));
        within = k.within;
        named_is = k.named_is ∙ same;
      }

post_order-pair : (kind : Kind) (a b : Principal) → post_order (pair kind a b) ≡ (post_order a ++ post_order b) ++ pair kind a b ∷ []
post_order-pair And a b = refl
post_order-pair Quoting a b = refl
post_order-pair For a b = refl

pub shape-pair : (p : ℕ → Principal) (kind : Kind) (x y : ℕ) → shape p (node_pair kind x y) ≡ pair kind (p x) (p y)
shape-pair p And x y = refl
shape-pair p Quoting x y = refl
shape-pair p For x y = refl

pub pair_below : (kind : Kind) (n x y : ℕ) → x < n → y < n → OperandsBelow n (node_pair kind x y)
pair_below And n x y h k = (h, k)
pair_below Quoting n x y h k = (h, k)
pair_below For n x y h k = (h, k)

-- a compound of two
module _ (o m n : List Node) (kind : Kind) (a b : Principal) (x y : ℕ)
    (h : TakesIn o m (post_order a) a x) (k : TakesIn m n (post_order b) b y) where
  x_named : named n x ≡ a
  x_named = named_stays m n (post_order b) b y k x h.within ∙ h.named_is

  pub pair_is : shape (named n) (node_pair kind x y) ≡ pair kind a b
  pair_is = shape-pair (named n) kind x y ∙ ap₂ (pair kind) x_named k.named_is

  grown_both : principals_of n ≡ met (principals_of o) (post_order a ++ post_order b)
  grown_both = k.grown ∙ ap (λ (t : List Principal). met t (post_order b)) h.grown ∙ sym (met-append (principals_of o) (post_order a) (post_order b))

  pub pair_operands : OperandsBelow (length n) (node_pair kind x y)
  pair_operands = pair_below kind (length n) x y (omega (arith, h.within, length_grown m n (post_order b) b y k)) k.within

  pub pair_fits : {room : ℕ} → FitsIn room o (post_order (pair kind a b)) → FitsIn room n (shape (named n) (node_pair kind x y) ∷ [])
  pair_fits {room} f =
      rw (pair_is, grown_both) (subst (λ (ps : List Principal). length ps ≤ room)
      (ap (met (principals_of o)) (post_order-pair kind a b) ∙ met-append (principals_of o) (post_order a ++ post_order b) (pair kind a b ∷ [])) f)

  pub pair_taken : (r : List Node) (z : ℕ) → TakesIn n r (shape (named n) (node_pair kind x y) ∷ []) (shape (named n) (node_pair kind x y)) z →
      TakesIn o r (post_order (pair kind a b)) (pair kind a b) z
  pair_taken r z t = record {
    table = t.table;
    grown = t.grown ∙ ap₂ (λ (u ps : List Principal). met u ps) grown_both (ap (λ q. q ∷ []) pair_is) ∙
        sym (ap (met (principals_of o)) (post_order-pair kind a b) ∙ met-append (principals_of o) (post_order a ++ post_order b) (pair kind a b ∷ []));
    within = t.within;
    named_is = t.named_is ∙ pair_is;
  }

pub pair_first : {room : ℕ} (o : List Node) (kind : Kind) (a b : Principal) → FitsIn room o (post_order (pair kind a b)) → FitsIn room o (post_order a)
pair_first {room} o kind a b f =
    fits_front o (post_order a) (post_order b) (fits_front o (post_order a ++ post_order b) (pair kind a b ∷ [])
    (subst (λ (ps : List Principal). FitsIn room o ps) (post_order-pair kind a b) f))

pub pair_second : {room : ℕ} (o m : List Node) (kind : Kind) (a b : Principal) (x : ℕ) → TakesIn o m (post_order a) a x → FitsIn room o (post_order (pair kind a b)) → FitsIn room m (post_order b)
pair_second {room} o m kind a b x h f =
    fits_next o m (post_order a) a x h (post_order b) (fits_front o (post_order a ++ post_order b) (pair kind a b ∷ [])
    (subst (λ (ps : List Principal). FitsIn room o ps) (post_order-pair kind a b) f))
