-- Numbers of a table in the order in which lines come to them.
use Rattle.std.proofs.Common.{◌≡◌, ◌⊎◌, inl, inr, ℕ, zero, suc, ◌+◌, ◌<◌, ◌≤◌, true, false, List, [], ◌∷◌, ◌++◌, Option, Some, None, slice_get, length, map, take, get_or, refl, sym, ap, ◌∙◌, subst, arith, All, MatchOption}
use Rattle.std.specs.Prelude.{SomeIff}
use Rattle.std.specs.List.{list_any, flat_map}
use Rattle.std.proofs.lemmas.List.{append-nil, length-append, length-take-le, take_at, take-take, take_more, get_or-take, get_or_at, get_or_append_left, get_or_default, get_or-append-add, map-append}
use Rattle.std.proofs.lemmas.List.Concat.{flat_map-append}
use Rattle.std.proofs.lemmas.List.Elements.{All-nil, All-append, All-head, All-tail}
use Rattle.std.proofs.lemmas.List.Folds.{list_any_at, Any-from_list_any}
use Rattle.std.proofs.lemmas.Option.{slice_get-get_or, slice_get_within}
use Rattle.std.proofs.lemmas.Bool.{false_from_ne_true}
use Rattle.prin_term.specs.Principal.{Principal, Key, And, Quoting, InRole, For}
use Rattle.taos_calculus.specs.declared.line.Node.{Node}
use Rattle.taos_calculus.specs.Tables.{shape, OperandsBelow, IsNodeTable, principals_of, named}
use Rattle.stmt_codec.specs.Distinct.{same_principal, met}
use Rattle.taos_calculus.specs.Canonical.{post_order}
use Rattle.taos_calculus.specs.Walking.{parts_under, Reaches, Strays}
use Rattle.taos_calculus.proofs.Induction.{All-one, All-two}
use Rattle.taos_calculus.proofs.Naming.{length-principals_of, named_reads, named_apart}
use Rattle.stmt_codec.proofs.Same.{same_principal-true, same_principal-itself}
use Rattle.stmt_codec.proofs.Firsts.{met-there, met-new, met-append, met-grows}

pub All-front : {X : Type 0} (P : X → Type 0) (xs ys : List X) → All P (xs ++ ys) → All P xs
All-front P xs ys all = λ i d h. subst P (get_or_append_left xs ys d i h) (all i d (omega (arith, length-append xs ys)))

pub All-back : {X : Type 0} (P : X → Type 0) (xs ys : List X) → All P (xs ++ ys) → All P ys
All-back P xs ys all = λ i d h. subst P (get_or-append-add xs ys i d) (all (length xs + i) d (omega (arith, length-append xs ys)))

-- the numbers of a node's operands
abbrev pub node_operands : Node → List ℕ
node_operands (Node.Key k) = []
node_operands (Node.Name n) = []
node_operands (Node.And a b) = a ∷ b ∷ []
node_operands (Node.Quote a b) = a ∷ b ∷ []
node_operands (Node.AsRole a r) = a ∷ []
node_operands (Node.For a b) = a ∷ b ∷ []

pub operands_all : (n : ℕ) (node : Node) → OperandsBelow n node → All (λ j. j < n) (node_operands node)
operands_all n (Node.Key k) h = All-nil (λ j. j < n)
operands_all n (Node.Name k) h = All-nil (λ j. j < n)
operands_all n (Node.And a b) h = All-two (λ j. j < n) a b h.0 h.1
operands_all n (Node.Quote a b) h = All-two (λ j. j < n) a b h.0 h.1
operands_all n (Node.AsRole a r) h = All-one (λ j. j < n) a h
operands_all n (Node.For a b) h = All-two (λ j. j < n) a b h.0 h.1

-- a principal in post-order: what stands under its operands, then itself
two_parts : (xs ys : List Principal) (p : Principal) → (xs ++ ys) ++ p ∷ [] ≡ (xs ++ (ys ++ [])) ++ p ∷ []
two_parts xs ys p = ap (λ (l : List Principal). (xs ++ l) ++ p ∷ []) (sym (append-nil ys))

post_order-shape : (f : ℕ → Principal) (node : Node) → post_order (shape f node) ≡ flat_map post_order (map f (node_operands node)) ++ shape f node ∷ []
post_order-shape f (Node.Key k) = refl
post_order-shape f (Node.Name n) = refl
post_order-shape f (Node.And a b) = two_parts (post_order (f a)) (post_order (f b)) (And (f a) (f b))
post_order-shape f (Node.Quote a b) = two_parts (post_order (f a)) (post_order (f b)) (Quoting (f a) (f b))
post_order-shape f (Node.AsRole a r) = ap (λ (l : List Principal). l ++ InRole (f a) r ∷ []) (sym (append-nil (post_order (f a))))
post_order-shape f (Node.For a b) = two_parts (post_order (f a)) (post_order (f b)) (For (f a) (f b))

-- a front of a list that was met is itself a front
pub met_split : (xs table ps qs : List Principal) (k : ℕ) → k ≤ length xs → met table (ps ++ qs) ≡ take k xs →
    (j : ℕ) × (j ≤ k) × (met table ps ≡ take j xs) × (met (take j xs) qs ≡ take k xs)
met_split xs table ps qs k fits e =
    let (more, g) = met-grows (met table ps) qs in
    let first : List Principal = met table ps in
    let whole : first ++ more ≡ take k xs = sym g ∙ sym (met-append table ps qs) ∙ e in
    let len : length (first ++ more) ≡ length (take k xs) = ap length whole in
    let below : length first ≤ k = omega (arith, length-append first more, length-take-le k xs fits) in
    let front : first ≡ take (length first) xs = sym (take_at first more (length first) refl) ∙ ap (take (length first)) whole ∙ take-take (length first) k xs below in
    (length first, below, front, subst (λ (t : List Principal). met t qs ≡ take k xs) front (sym (met-append table ps qs) ∙ e))

module _ (nodes : List Node) (table : IsNodeTable nodes) where
  abbrev front : ℕ → List Principal
  front d = take d (principals_of nodes)

  front_length : (d : ℕ) → d ≤ length nodes → length (front d) ≡ d
  front_length d h = length-take-le d (principals_of nodes) (omega (arith, length-principals_of nodes))

  in_front : (i d : ℕ) → i < d → d ≤ length nodes → list_any (same_principal (named nodes i)) (front d) ≡ true
  in_front i d h fits =
      list_any_at (same_principal (named nodes i)) (front d) i (Key 0) (omega (arith, front_length d fits))
      (rw (get_or-take d (principals_of nodes) i (Key 0) h) (same_principal-itself (named nodes i)))

  not_in_front : (i d : ℕ) → d ≤ i → i < length nodes → list_any (same_principal (named nodes i)) (front d) ≡ false
  not_in_front i d h fits = false_from_ne_true (list_any (same_principal (named nodes i)) (front d)) (λ t.
      let (k, x, low, at, alike) = Any-from_list_any (same_principal (named nodes i)) (front d) t in
      let lt : k < d = omega (arith, front_length d (omega arith)) in
      let e : named nodes i ≡ x = same_principal-true (named nodes i) x alike in
      let inside : k < length nodes = omega arith in
      let reads : get_or (front d) k x ≡ named nodes k
      = get_or-take d (principals_of nodes) k x lt ∙ get_or_default (principals_of nodes) k x (Key 0) (omega (arith, length-principals_of nodes)) in
      let same : i ≡ k = named_apart nodes table i k fits inside (e ∙ sym at ∙ reads) in
      absurd (omega arith))

  -- the next one
  pub next_met : (d : ℕ) → d < length nodes → met (front d) (named nodes d ∷ []) ≡ front (d + 1)
  next_met d h =
      met-new (front d) (named nodes d) [] (not_in_front d d (omega arith) h) ∙ sym (take_more (principals_of nodes) d (Key 0) (omega (arith, length-principals_of nodes)))

  -- one that was met
  old_met : (i d : ℕ) → i < d → d ≤ length nodes → met (front d) (named nodes i ∷ []) ≡ front d
  old_met i d h fits = met-there (front d) (named nodes i) [] (in_front i d h fits)

  -- one that is not due
  none_met : (i d k : ℕ) → d < i → i < length nodes → k ≤ length nodes → met (front d) (named nodes i ∷ []) ≡ front k → ⊥
  none_met i d k h fits kfits e =
      let grown : front d ++ named nodes i ∷ [] ≡ front k = sym (met-new (front d) (named nodes i) [] (not_in_front i d (omega arith) fits)) ∙ e in
      let len : length (front d ++ named nodes i ∷ []) ≡ length (front k) = ap length grown in
      let is : k ≡ d + 1 = omega (arith, length-append (front d) (named nodes i ∷ []), front_length d (omega arith), front_length k kfits) in
      let at : get_or (front d ++ named nodes i ∷ []) d (Key 0) ≡ named nodes i = get_or_at (front d) (named nodes i) [] (Key 0) d (front_length d (omega arith)) in
      let at' : get_or (front k) d (Key 0) ≡ named nodes d = get_or-take k (principals_of nodes) d (Key 0) (omega arith) in
      let same : named nodes i ≡ named nodes d = sym at ∙ ap (λ (l : List Principal). get_or l d (Key 0)) grown ∙ at' in
      let equal : i ≡ d = named_apart nodes table i d fits (omega arith) same in
      absurd (omega arith)

  met_skips : (t : List Principal) (ids : List ℕ) → All (λ j. met t (post_order (named nodes j)) ≡ t) ids → met t (parts_under nodes ids) ≡ t
  met_skips t [] all = refl
  met_skips t (j ∷ ids) all =
      let here : met t (post_order (named nodes j)) ≡ t = All-head (λ i. met t (post_order (named nodes i)) ≡ t) j ids all in
      met-append t (post_order (named nodes j)) (parts_under nodes ids) ∙ ap (λ (l : List Principal). met l (parts_under nodes ids)) here ∙
      met_skips t ids (All-tail (λ i. met t (post_order (named nodes i)) ≡ t) j ids all)

  -- what stands under a number: what stands under its operands, then itself
  pub under_is : (i : ℕ) (node : Node) → slice_get nodes i ≡ Some node → post_order (named nodes i) ≡ parts_under nodes (node_operands node) ++ named nodes i ∷ []
  under_is i node e =
      let reads : named nodes i ≡ shape (named nodes) node = named_reads nodes table i node e in
      ap post_order reads ∙ post_order-shape (named nodes) node ∙ ap (λ (p : Principal). parts_under nodes (node_operands node) ++ p ∷ []) (sym reads)

  under_old : (b i d : ℕ) → i < b → i < d → d ≤ length nodes → met (front d) (post_order (named nodes i)) ≡ front d
  under_old zero i d low h fits = absurd (omega arith)
  under_old (suc b) i d low h fits =
      let node : Node = get_or nodes i (Node.Key 0) in
      let e : slice_get nodes i ≡ Some node = slice_get-get_or nodes i (Node.Key 0) (omega arith) in
      let ops : All (λ j. j < i) (node_operands node) = operands_all i node (table.ordered i node e) in
      let skip : met (front d) (parts_under nodes (node_operands node)) ≡ front d
      = met_skips (front d) (node_operands node) (λ k x lt. under_old b (get_or (node_operands node) k x) d (omega (arith, ops k x lt)) (omega (arith, ops k x lt)) fits) in
      ap (met (front d)) (under_is i node e) ∙ met-append (front d) (parts_under nodes (node_operands node)) (named nodes i ∷ []) ∙
      ap (λ (l : List Principal). met l (named nodes i ∷ [])) skip ∙ old_met i d h fits

  parts_under-one : (i : ℕ) → parts_under nodes (i ∷ []) ≡ post_order (named nodes i)
  parts_under-one i = append-nil (post_order (named nodes i))

  parts_under-append : (xs ys : List ℕ) → parts_under nodes (xs ++ ys) ≡ parts_under nodes xs ++ parts_under nodes ys
  parts_under-append xs ys = ap (flat_map post_order) (map-append (named nodes) xs ys) ∙ flat_map-append post_order (map (named nodes) xs) (map (named nodes) ys)

  -- Numbers one after another.
  pub reaches_none : (d : ℕ) → d ≤ length nodes → Reaches nodes d [] d
  reaches_none d h = record { within = h; below = All-nil (λ i. i < length nodes); front = refl }

  pub reaches_then : (d j k : ℕ) (xs ys : List ℕ) → Reaches nodes d xs j → Reaches nodes j ys k → Reaches nodes d (xs ++ ys) k
  reaches_then d j k xs ys p q = record {
    within = q.within;
    below = All-append (λ i. i < length nodes) xs ys p.below q.below;
    front = ap (met (front d)) (parts_under-append xs ys) ∙ met-append (front d) (parts_under nodes xs) (parts_under nodes ys) ∙
        ap (λ (l : List Principal). met l (parts_under nodes ys)) p.front ∙ q.front;
  }

  pub reaches_split : (d k : ℕ) (xs ys : List ℕ) → Reaches nodes d (xs ++ ys) k → (j : ℕ) × Reaches nodes d xs j × Reaches nodes j ys k
  reaches_split d k xs ys r =
      let (j, below, first, rest) = met_split (principals_of nodes) (front d) (parts_under nodes xs) (parts_under nodes ys) k
      (let h : k ≤ length nodes = r.within in omega (arith, length-principals_of nodes))
      (sym (ap (met (front d)) (parts_under-append xs ys)) ∙ r.front) in
      let h : k ≤ length nodes = r.within in (
        j,
        record { within = omega arith; below = All-front (λ i. i < length nodes) xs ys r.below; front = first },
        record { within = r.within; below = All-back (λ i. i < length nodes) xs ys r.below; front = rest },
      )

  pub reaches_one : (d j k : ℕ) (xs : List ℕ) → Reaches nodes d xs j → Reaches nodes d xs k → j ≡ k
  reaches_one d j k xs p q =
      let same : front j ≡ front k = sym p.front ∙ q.front in
      let len : length (front j) ≡ length (front k) = ap length same in
      omega (arith, front_length j p.within, front_length k q.within)

  pub strays_first : (d : ℕ) (xs ys : List ℕ) → Strays nodes d xs → Strays nodes d (xs ++ ys)
  strays_first d xs ys s k r = let (j, p, q) = reaches_split d k xs ys r in s j p

  pub strays_then : (d j : ℕ) (xs ys : List ℕ) → Reaches nodes d xs j → Strays nodes j ys → Strays nodes d (xs ++ ys)
  strays_then d j xs ys p s k r =
      let (m, q, t) = reaches_split d k xs ys r in
      s k (subst (λ (n : ℕ). Reaches nodes n ys k) (reaches_one d m j xs q p) t)

  -- One number.
  pub reaches_old : (i d : ℕ) → i < d → d ≤ length nodes → Reaches nodes d (i ∷ []) d
  reaches_old i d h fits = record {
    within = fits;
    below = All-one (λ j. j < length nodes) i (omega arith);
    front = ap (met (front d)) (parts_under-one i) ∙ under_old (i + 1) i d (omega arith) h fits;
  }

  one_front : (d i : ℕ) (node : Node) → slice_get nodes i ≡ Some node → (l : List Principal) →
      met (front d) (parts_under nodes (node_operands node) ++ named nodes i ∷ []) ≡ l → met (front d) (parts_under nodes (i ∷ [])) ≡ l
  one_front d i node e l h = ap (met (front d)) (parts_under-one i ∙ under_is i node e) ∙ h

  pub reaches_due : (d i : ℕ) (node : Node) → slice_get nodes i ≡ Some node → Reaches nodes d (node_operands node) i → Reaches nodes d (i ∷ []) (i + 1)
  reaches_due d i node e r =
      let h : i < length nodes = slice_get_within nodes i node e in
      record {
        within = omega arith;
        below = All-one (λ j. j < length nodes) i h;
        front = one_front d i node e (front (i + 1)) (met-append (front d) (parts_under nodes (node_operands node)) (named nodes i ∷ []) ∙
            ap (λ (l : List Principal). met l (named nodes i ∷ [])) r.front ∙ next_met i h);
      }

  one_split : (d i k : ℕ) (node : Node) → slice_get nodes i ≡ Some node → Reaches nodes d (i ∷ []) k →
      (j : ℕ) × Reaches nodes d (node_operands node) j × (met (front j) (named nodes i ∷ []) ≡ front k)
  one_split d i k node e r =
      let h : i < length nodes = slice_get_within nodes i node e in
      let kfits : k ≤ length nodes = r.within in
      let ops : All (λ j. j < i) (node_operands node) = operands_all i node (table.ordered i node e) in
      let (j, below, first, rest) = met_split (principals_of nodes) (front d) (parts_under nodes (node_operands node)) (named nodes i ∷ []) k
      (omega (arith, length-principals_of nodes)) (sym (ap (met (front d)) (parts_under-one i ∙ under_is i node e)) ∙ r.front) in
      (j, record { within = omega arith; below = λ n x lt. omega (arith, ops n x lt); front = first }, rest)

  pub strays_operands : (d i : ℕ) (node : Node) → slice_get nodes i ≡ Some node → Strays nodes d (node_operands node) → Strays nodes d (i ∷ [])
  strays_operands d i node e s k r = let (j, p, q) = one_split d i k node e r in s j p

  pub strays_due : (d j i : ℕ) (node : Node) → slice_get nodes i ≡ Some node → Reaches nodes d (node_operands node) j → j < i → Strays nodes d (i ∷ [])
  strays_due d j i node e p h k r =
      let (m, q, rest) = one_split d i k node e r in
      let is : m ≡ j = reaches_one d m j (node_operands node) q p in
      none_met i m k (omega arith) (slice_get_within nodes i node e) r.within rest

  -- the answer once the operands are met
  pub due_answer : (d j i : ℕ) (node : Node) (r : Option ℕ) → slice_get nodes i ≡ Some node → Reaches nodes d (node_operands node) j → j ≤ i →
      SomeIff r (i ≡ j) (i + 1) → MatchOption r (Strays nodes d (i ∷ [])) (Reaches nodes d (i ∷ []))
  due_answer d j i node None e p h s = strays_due d j i node e p (omega arith)
  due_answer d j i node (Some k) e p h s =
      subst (λ (n : ℕ). Reaches nodes d (i ∷ []) n) (sym s.1) (reaches_due d i node e (subst (λ (n : ℕ). Reaches nodes d (node_operands node) n) (sym s.0) p))

-- the node i has these operands
pub record HasOperands (nodes : List Node) (i : ℕ) (ids : List ℕ) : Type 0 where
  pub node : Node
  pub stands : slice_get nodes i ≡ Some node
  pub operands : node_operands node ≡ ids

module _ (nodes : List Node) (i : ℕ) (inside : i < length nodes) where
  at_node : (ids : List ℕ) → node_operands (get_or nodes i (Node.Key 0)) ≡ ids → HasOperands nodes i ids
  at_node ids e = record { node = get_or nodes i (Node.Key 0); stands = slice_get-get_or nodes i (Node.Key 0) inside; operands = e }

  pub no_operands : ((k : ℕ) × (get_or nodes i (Node.Key 0) ≡ Node.Key k)) ⊎ ((k : ℕ) × (get_or nodes i (Node.Key 0) ≡ Node.Name k)) → HasOperands nodes i []
  no_operands (inl (k, e)) = at_node [] (ap node_operands e)
  no_operands (inr (k, e)) = at_node [] (ap node_operands e)

  pub one_operand : (a r : ℕ) → get_or nodes i (Node.Key 0) ≡ Node.AsRole a r → HasOperands nodes i (a ∷ [])
  one_operand a r e = at_node (a ∷ []) (ap node_operands e)

  pub two_operands : (a b : ℕ) → (get_or nodes i (Node.Key 0) ≡ Node.And a b) ⊎ ((get_or nodes i (Node.Key 0) ≡ Node.Quote a b) ⊎ (get_or nodes i (Node.Key 0) ≡ Node.For a b)) →
      HasOperands nodes i (a ∷ b ∷ [])
  two_operands a b (inl e) = at_node (a ∷ b ∷ []) (ap node_operands e)
  two_operands a b (inr (inl e)) = at_node (a ∷ b ∷ []) (ap node_operands e)
  two_operands a b (inr (inr e)) = at_node (a ∷ b ∷ []) (ap node_operands e)

module _ (nodes : List Node) (table : IsNodeTable nodes) (i : ℕ) (ids : List ℕ) (has : HasOperands nodes i ids) where
  pub operands_earlier : All (λ j. j < i) ids
  operands_earlier = subst (All (λ j. j < i)) has.operands (operands_all i has.node (table.ordered i has.node has.stands))

  pub due_after : (d j : ℕ) (r : Option ℕ) → Reaches nodes d ids j → j ≤ i → SomeIff r (i ≡ j) (i + 1) →
      MatchOption r (Strays nodes d (i ∷ [])) (Reaches nodes d (i ∷ []))
  due_after d j r p h s = due_answer nodes table d j i has.node r has.stands (subst (λ (xs : List ℕ). Reaches nodes d xs j) (sym has.operands) p) h s

  pub strays_after : (d : ℕ) → Strays nodes d ids → Strays nodes d (i ∷ [])
  strays_after d s = strays_operands nodes table d i has.node has.stands (subst (λ (xs : List ℕ). Strays nodes d xs) (sym has.operands) s)

-- the answer for numbers behind some that were met
pub then_answer : (nodes : List Node) (table : IsNodeTable nodes) (d j : ℕ) (xs ys : List ℕ) (r : Option ℕ) → Reaches nodes d xs j →
    MatchOption r (Strays nodes j ys) (Reaches nodes j ys) → MatchOption r (Strays nodes d (xs ++ ys)) (Reaches nodes d (xs ++ ys))
then_answer nodes table d j xs ys None p m = strays_then nodes table d j xs ys p m
then_answer nodes table d j xs ys (Some k) p m = reaches_then nodes table d j k xs ys p m
