-- Over a table of nodes the numbered rules are the rules.
--     gives-follows      a step that gives a numbered fact is the rule that gives what it says
--     speaks_given, says_given      a rule that gives what numbers say is a step that gives the numbered fact
--     closed_complete      numbered facts that are closed under the steps are all that is derivable about the table
use Rattle.std.proofs.Common.{◌≡◌, ℕ, zero, suc, ◌<◌, List, [], ◌∷◌, length, map, slice_get, Option, Some, None, refl, sym, ◌∙◌, ap, subst, arith, All, Contains, get_or}
use Rattle.std.specs.Prelude.{option_map}
use Rattle.std.proofs.lemmas.List.{get_or_default}
use Rattle.std.proofs.lemmas.List.Elements.{All-nil, All-head, All-tail, All-contains}
use Rattle.std.proofs.lemmas.Option.{none-some, slice_get-map, slice_get-get_or, slice_get_within}
use Rattle.prin_term.specs.declared.term.Anchor.{Anchor}
use Rattle.prin_term.specs.Principal.{Principal, Key, Name, And, Quoting, InRole, For, operands}
use Rattle.taos_calculus.specs.declared.line.Step.{Step}
use Rattle.taos_calculus.specs.declared.line.Node.{Node}
use Rattle.taos_calculus.specs.declared.line.Fact.{Fact}
use Rattle.taos_calculus.specs.Rules.{Claim, Judgement, SpeaksFor, Says, Line, line, Follows, Derivable}
use Rattle.taos_calculus.specs.Rules
use Rattle.taos_calculus.specs.Saturation.{IsWithin, IsTable, IsSaturated}
use Rattle.taos_calculus.specs.Tables.{shape, named, judgement, IsBelow, OperandsBelow, IsNodeTable, principals_of}
use Rattle.taos_calculus.specs.Tidy.{premises_of, cites_of, moved}
use Rattle.taos_calculus.specs.Numbered.{IsClosed, Gives, same, chain, left, right, both, quoting, for_both, role, role_under, anchored, said, lift, join, hand_off, delegate}
use Rattle.taos_calculus.proofs.Induction.{All-at, All-one, All-two}
use Rattle.taos_calculus.proofs.Building.{All-of}
use Rattle.taos_calculus.proofs.Completeness.{complete}
use Rattle.taos_calculus.proofs.Moving.{Stands, follows_moved}
use Rattle.taos_calculus.proofs.Naming.{named_reads, named_apart, operands_below, length-principals_of}

-- a numbered fact stands for its judgement
stands_for : (p : ℕ → Principal) (earlier : List Fact) (i : ℕ) (f : Fact) → slice_get earlier i ≡ Some f →
    slice_get (map (judgement p) earlier) i ≡ Some (judgement p f)
stands_for p earlier i f e = slice_get-map (judgement p) earlier i ∙ ap (option_map (judgement p)) e

module _ (nodes : List Node) (table : IsNodeTable nodes) (anchors : List Anchor) (claims : List Claim) where
  -- the principal of a number
  abbrev p : ℕ → Principal
  p i = named nodes i

  reads : (i : ℕ) (node : Node) → slice_get nodes i ≡ Some node → p i ≡ shape p node
  reads i node e = named_reads nodes table i node e

  inside : (i : ℕ) (node : Node) → slice_get nodes i ≡ Some node → OperandsBelow (length nodes) node
  inside i node e = operands_below i (length nodes) node (table.ordered i node e) (slice_get_within nodes i node e)

  -- what the step gives is what its rule gives
  pub gives-follows : {fact : Fact} {step : Step} (earlier : List Fact) → Gives nodes anchors claims earlier fact step →
      Follows anchors claims (map (judgement p) earlier) (line (judgement p fact) step)
  gives-follows earlier same = Rules.same
  gives-follows earlier (chain {a} {b} {c} {i} {j} e f) =
      Rules.chain (stands_for p earlier i (Fact.Speaks a b) e) (stands_for p earlier j (Fact.Speaks b c) f)
  gives-follows earlier (left {a} {b} {c} e) = rw (reads c (Node.And a b) e) Rules.left
  gives-follows earlier (right {a} {b} {c} e) = rw (reads c (Node.And a b) e) Rules.right
  gives-follows earlier (both {a} {b} {c} {d} {i} {j} e f g) =
      rw (reads d (Node.And a b) e) (Rules.both (stands_for p earlier i (Fact.Speaks c a) f) (stands_for p earlier j (Fact.Speaks c b) g))
  gives-follows earlier (quoting {a} {a'} {b} {b'} {c} {d} {i} {j} e f g h) =
      rw (reads c (Node.Quote a b) e, reads d (Node.Quote a' b') f)
      (Rules.quoting (stands_for p earlier i (Fact.Speaks a a') g) (stands_for p earlier j (Fact.Speaks b b') h))
  gives-follows earlier (for_both {a} {a'} {b} {b'} {c} {d} {i} {j} e f g h) =
      rw (reads c (Node.For a b) e, reads d (Node.For a' b') f)
      (Rules.for_both (stands_for p earlier i (Fact.Speaks a a') g) (stands_for p earlier j (Fact.Speaks b b') h))
  gives-follows earlier (role {a} {r} {c} e) = rw (reads c (Node.AsRole a r) e) Rules.role
  gives-follows earlier (role_under {a} {b} {r} {c} {d} {i} e f g) =
      rw (reads c (Node.AsRole a r) e, reads d (Node.AsRole b r) f) (Rules.role_under (stands_for p earlier i (Fact.Speaks a b) g))
  gives-follows earlier (anchored {anchor} {c} {d} {i} e f g) =
      rw (reads c (Node.Key anchor.key) f, reads d (Node.Name anchor.name) g) (Rules.anchored e)
  gives-follows earlier (said {claim} {w} {l} {r} {i} e pw pl pr) = rw (pw, pl, pr) (Rules.said e)
  gives-follows earlier (lift {a} {b} {l} {r} {i} {j} e f) =
      Rules.lift (stands_for p earlier i (Fact.Says a l r) e) (stands_for p earlier j (Fact.Speaks a b) f)
  gives-follows earlier (join {a} {b} {c} {l} {r} {i} {j} e f g) =
      rw (reads c (Node.And a b) e) (Rules.join (stands_for p earlier i (Fact.Says a l r) f) (stands_for p earlier j (Fact.Says b l r) g))
  gives-follows earlier (hand_off {l} {t} {i} e) = Rules.hand_off (stands_for p earlier i (Fact.Says t l t) e)
  gives-follows earlier (delegate {a} {b} {c} {d} {i} e f g) =
      let s : slice_get (map (judgement p) earlier) i ≡ Some (Says (p a) (p c) (p d)) = stands_for p earlier i (Fact.Says a c d) g in
      rw (reads c (Node.Quote b a) e, reads d (Node.For b a) f)
      (Rules.delegate (rw (reads c (Node.Quote b a) e, reads d (Node.For b a) f) at s))

  -- the node of a number, by what its principal is
  record AndAt (i : ℕ) (a b : Principal) : Type 0 where
    x : ℕ
    y : ℕ
    node : slice_get nodes i ≡ Some (Node.And x y)
    left_is : p x ≡ a
    right_is : p y ≡ b
    x_in : x < length nodes
    y_in : y < length nodes

  and_at : (i : ℕ) (a b : Principal) → i < length nodes → p i ≡ And a b → AndAt i a b
  and_at i a b h e = go (get_or nodes i (Node.Key 0)) (slice_get-get_or nodes i (Node.Key 0) h)
    where
      go : (node : Node) → slice_get nodes i ≡ Some node → AndAt i a b
      go (Node.And x y) s =
          let r : p i ≡ And (p x) (p y) = reads i (Node.And x y) s in
          let below : (x < length nodes) × (y < length nodes) = inside i (Node.And x y) s in
          record { x = x; y = y; node = s; left_is = cc; right_is = cc; x_in = below.0; y_in = below.1 }
      go node s = let r : p i ≡ shape p node = reads i node s in absurd (cc)

  -- a fact by what it says
  record SpeaksAt (earlier : List Fact) (i : ℕ) (a b : Principal) : Type 0 where
    x : ℕ
    y : ℕ
    at : slice_get earlier i ≡ Some (Fact.Speaks x y)
    left_is : p x ≡ a
    right_is : p y ≡ b
    x_in : x < length nodes
    y_in : y < length nodes

  speaks_at : (earlier : List Fact) (i : ℕ) (a b : Principal) → All (IsBelow (length nodes)) earlier →
      slice_get (map (judgement p) earlier) i ≡ Some (SpeaksFor a b) → SpeaksAt earlier i a b
  speaks_at earlier i a b all e = go (slice_get earlier i) refl
    where
      go : (o : Option Fact) → slice_get earlier i ≡ o → SpeaksAt earlier i a b
      go None s = let r : slice_get (map (judgement p) earlier) i ≡ None = slice_get-map (judgement p) earlier i ∙ ap (option_map (judgement p)) s in absurd (cc)
      go (Some (Fact.Speaks x y)) s =
          let r : slice_get (map (judgement p) earlier) i ≡ Some (SpeaksFor (p x) (p y)) = stands_for p earlier i (Fact.Speaks x y) s in
          let below : (x < length nodes) × (y < length nodes) = All-at (IsBelow (length nodes)) earlier i (Fact.Speaks x y) all s in
          record { x = x; y = y; at = s; left_is = cc; right_is = cc; x_in = below.0; y_in = below.1 }
      go (Some (Fact.Says x y z)) s =
          let r : slice_get (map (judgement p) earlier) i ≡ Some (Says (p x) (p y) (p z)) = stands_for p earlier i (Fact.Says x y z) s in absurd (cc)

  record QuotingAt (i : ℕ) (a b : Principal) : Type 0 where
    x : ℕ
    y : ℕ
    node : slice_get nodes i ≡ Some (Node.Quote x y)
    left_is : p x ≡ a
    right_is : p y ≡ b
    x_in : x < length nodes
    y_in : y < length nodes

  quoting_at : (i : ℕ) (a b : Principal) → i < length nodes → p i ≡ Quoting a b → QuotingAt i a b
  quoting_at i a b h e = go (get_or nodes i (Node.Key 0)) (slice_get-get_or nodes i (Node.Key 0) h)
    where
      go : (node : Node) → slice_get nodes i ≡ Some node → QuotingAt i a b
      go (Node.Quote x y) s =
          let r : p i ≡ Quoting (p x) (p y) = reads i (Node.Quote x y) s in
          let below : (x < length nodes) × (y < length nodes) = inside i (Node.Quote x y) s in
          record { x = x; y = y; node = s; left_is = cc; right_is = cc; x_in = below.0; y_in = below.1 }
      go node s = let r : p i ≡ shape p node = reads i node s in absurd (cc)

  record ForAt (i : ℕ) (a b : Principal) : Type 0 where
    x : ℕ
    y : ℕ
    node : slice_get nodes i ≡ Some (Node.For x y)
    left_is : p x ≡ a
    right_is : p y ≡ b
    x_in : x < length nodes
    y_in : y < length nodes

  for_at : (i : ℕ) (a b : Principal) → i < length nodes → p i ≡ For a b → ForAt i a b
  for_at i a b h e = go (get_or nodes i (Node.Key 0)) (slice_get-get_or nodes i (Node.Key 0) h)
    where
      go : (node : Node) → slice_get nodes i ≡ Some node → ForAt i a b
      go (Node.For x y) s =
          let r : p i ≡ For (p x) (p y) = reads i (Node.For x y) s in
          let below : (x < length nodes) × (y < length nodes) = inside i (Node.For x y) s in
          record { x = x; y = y; node = s; left_is = cc; right_is = cc; x_in = below.0; y_in = below.1 }
      go node s = let r : p i ≡ shape p node = reads i node s in absurd (cc)

  record RoleAt (i : ℕ) (a : Principal) (r : ℕ) : Type 0 where
    x : ℕ
    node : slice_get nodes i ≡ Some (Node.AsRole x r)
    left_is : p x ≡ a
    x_in : x < length nodes

  role_at : (i : ℕ) (a : Principal) (r : ℕ) → i < length nodes → p i ≡ InRole a r → RoleAt i a r
  role_at i a r h e = go (get_or nodes i (Node.Key 0)) (slice_get-get_or nodes i (Node.Key 0) h)
    where
      go : (node : Node) → slice_get nodes i ≡ Some node → RoleAt i a r
      go (Node.AsRole x n) s =
          let q : p i ≡ InRole (p x) n = reads i (Node.AsRole x n) s in
          let same_role : n ≡ r = cc in
          let below : x < length nodes = inside i (Node.AsRole x n) s in
          record { x = x; node = rw same_role at s; left_is = cc; x_in = below }
      go node s = let q : p i ≡ shape p node = reads i node s in absurd (cc)

  key_at : (i k : ℕ) → i < length nodes → p i ≡ Key k → slice_get nodes i ≡ Some (Node.Key k)
  key_at i k h e = go (get_or nodes i (Node.Key 0)) (slice_get-get_or nodes i (Node.Key 0) h)
    where
      go : (node : Node) → slice_get nodes i ≡ Some node → slice_get nodes i ≡ Some (Node.Key k)
      go (Node.Key m) s = let q : p i ≡ Key m = reads i (Node.Key m) s in let r : m ≡ k = cc in rw r at s
      go node s = let q : p i ≡ shape p node = reads i node s in absurd (cc)

  name_at : (i k : ℕ) → i < length nodes → p i ≡ Name k → slice_get nodes i ≡ Some (Node.Name k)
  name_at i k h e = go (get_or nodes i (Node.Key 0)) (slice_get-get_or nodes i (Node.Key 0) h)
    where
      go : (node : Node) → slice_get nodes i ≡ Some node → slice_get nodes i ≡ Some (Node.Name k)
      go (Node.Name m) s = let q : p i ≡ Name m = reads i (Node.Name m) s in let r : m ≡ k = cc in rw r at s
      go node s = let q : p i ≡ shape p node = reads i node s in absurd (cc)

  record SaysAt (earlier : List Fact) (i : ℕ) (a b c : Principal) : Type 0 where
    x : ℕ
    y : ℕ
    z : ℕ
    at : slice_get earlier i ≡ Some (Fact.Says x y z)
    who_is : p x ≡ a
    left_is : p y ≡ b
    right_is : p z ≡ c
    below : (x < length nodes) × (y < length nodes) × (z < length nodes)

  says_at : (earlier : List Fact) (i : ℕ) (a b c : Principal) → All (IsBelow (length nodes)) earlier →
      slice_get (map (judgement p) earlier) i ≡ Some (Says a b c) → SaysAt earlier i a b c
  says_at earlier i a b c all e = go (slice_get earlier i) refl
    where
      go : (o : Option Fact) → slice_get earlier i ≡ o → SaysAt earlier i a b c
      go None s = let r : slice_get (map (judgement p) earlier) i ≡ None = slice_get-map (judgement p) earlier i ∙ ap (option_map (judgement p)) s in absurd (cc)
      go (Some (Fact.Says x y z)) s =
          let r : slice_get (map (judgement p) earlier) i ≡ Some (Says (p x) (p y) (p z)) = stands_for p earlier i (Fact.Says x y z) s in
          record { x = x; y = y; z = z; at = s; who_is = cc; left_is = cc; right_is = cc; below = All-at (IsBelow (length nodes)) earlier i (Fact.Says x y z) all s }
      go (Some (Fact.Speaks x y)) s =
          let r : slice_get (map (judgement p) earlier) i ≡ Some (SpeaksFor (p x) (p y)) = stands_for p earlier i (Fact.Speaks x y) s in absurd (cc)

  -- numbers of one principal are one
  one : (i j : ℕ) (a : Principal) → p i ≡ a → p j ≡ a → i < length nodes → j < length nodes → i ≡ j
  one i j a e f h k = named_apart nodes table i j h k (e ∙ sym f)

  found_speaks : (earlier : List Fact) (i : ℕ) (a b : Principal) → All (IsBelow (length nodes)) earlier →
      slice_get (map (judgement p) earlier) i ≡ Some (SpeaksFor a b) →
      (u v : ℕ) → p u ≡ a → p v ≡ b → u < length nodes → v < length nodes → slice_get earlier i ≡ Some (Fact.Speaks u v)
  found_speaks earlier i a b all e u v pu pv hu hv =
      let s : SpeaksAt earlier i a b = speaks_at earlier i a b all e in
      let eu : s.x ≡ u = one s.x u a s.left_is pu s.x_in hu in
      let ev : s.y ≡ v = one s.y v b s.right_is pv s.y_in hv in
      rw (eu, ev) at s.at

  found_says : (earlier : List Fact) (i : ℕ) (a b c : Principal) → All (IsBelow (length nodes)) earlier →
      slice_get (map (judgement p) earlier) i ≡ Some (Says a b c) →
      (u v w : ℕ) → p u ≡ a → p v ≡ b → p w ≡ c → u < length nodes → v < length nodes → w < length nodes →
      slice_get earlier i ≡ Some (Fact.Says u v w)
  found_says earlier i a b c all e u v w pu pv pw hu hv hw =
      let s : SaysAt earlier i a b c = says_at earlier i a b c all e in
      let eu : s.x ≡ u = one s.x u a s.who_is pu s.below.0 hu in
      let ev : s.y ≡ v = one s.y v b s.left_is pv s.below.1 hv in
      let ew : s.z ≡ w = one s.z w c s.right_is pw s.below.2 hw in
      rw (eu, ev, ew) at s.at

  -- a rule that gives what a pair of numbers says gives the pair
  pub speaks_given : (earlier : List Fact) (l : Line) (i j : ℕ) → All (IsBelow (length nodes)) earlier → i < length nodes → j < length nodes →
      l.fact ≡ SpeaksFor (p i) (p j) → Follows anchors claims (map (judgement p) earlier) l →
      Gives nodes anchors claims earlier (Fact.Speaks i j) l.step
  speaks_given earlier l i j all hi hj e Rules.same =
      let q : i ≡ j = named_apart nodes table i j hi hj (cc) in rw q same
  speaks_given earlier l i j all hi hj e (Rules.chain {a} {b} {c} {i = k} {j = m} f g) =
      let s : SpeaksAt earlier k a b = speaks_at earlier k a b all f in
      let ea : p i ≡ a = cc in
      let ec : p j ≡ c = cc in
      chain {b = s.y} (found_speaks earlier k a b all f i s.y ea s.right_is hi s.y_in)
      (found_speaks earlier m b c all g s.y j s.right_is ec s.y_in hj)
  speaks_given earlier l i j all hi hj e (Rules.left {a} {b}) =
      let ei : p i ≡ And a b = cc in
      let ej : p j ≡ a = cc in
      let s : AndAt i a b = and_at i a b hi ei in
      let q : s.x ≡ j = one s.x j a s.left_is ej s.x_in hj in
      left {b = s.y} (rw q at s.node)
  speaks_given earlier l i j all hi hj e (Rules.right {a} {b}) =
      let ei : p i ≡ And a b = cc in
      let ej : p j ≡ b = cc in
      let s : AndAt i a b = and_at i a b hi ei in
      let q : s.y ≡ j = one s.y j b s.right_is ej s.y_in hj in
      right {a = s.x} (rw q at s.node)
  speaks_given earlier l i j all hi hj e (Rules.both {a} {b} {c} {i = k} {j = m} f g) =
      let ei : p i ≡ c = cc in
      let ej : p j ≡ And a b = cc in
      let s : AndAt j a b = and_at j a b hj ej in
      both s.node (found_speaks earlier k c a all f i s.x ei s.left_is hi s.x_in) (found_speaks earlier m c b all g i s.y ei s.right_is hi s.y_in)
  speaks_given earlier l i j all hi hj e (Rules.quoting {a} {a'} {b} {b'} {i = k} {j = m} f g) =
      let s : QuotingAt i a b = quoting_at i a b hi (cc) in
      let t : QuotingAt j a' b' = quoting_at j a' b' hj (cc) in
      quoting s.node t.node (found_speaks earlier k a a' all f s.x t.x s.left_is t.left_is s.x_in t.x_in)
      (found_speaks earlier m b b' all g s.y t.y s.right_is t.right_is s.y_in t.y_in)
  speaks_given earlier l i j all hi hj e (Rules.for_both {a} {a'} {b} {b'} {i = k} {j = m} f g) =
      let s : ForAt i a b = for_at i a b hi (cc) in
      let t : ForAt j a' b' = for_at j a' b' hj (cc) in
      for_both s.node t.node (found_speaks earlier k a a' all f s.x t.x s.left_is t.left_is s.x_in t.x_in)
      (found_speaks earlier m b b' all g s.y t.y s.right_is t.right_is s.y_in t.y_in)
  speaks_given earlier l i j all hi hj e (Rules.role {a} {r}) =
      let ei : p i ≡ a = cc in
      let s : RoleAt j a r = role_at j a r hj (cc) in
      let q : s.x ≡ i = one s.x i a s.left_is ei s.x_in hi in
      role {r = r} (rw q at s.node)
  speaks_given earlier l i j all hi hj e (Rules.role_under {a} {b} {r} {i = k} f) =
      let s : RoleAt i a r = role_at i a r hi (cc) in
      let t : RoleAt j b r = role_at j b r hj (cc) in
      role_under s.node t.node (found_speaks earlier k a b all f s.x t.x s.left_is t.left_is s.x_in t.x_in)
  speaks_given earlier l i j all hi hj e (Rules.anchored {anchor} f) =
      anchored f (key_at i anchor.key hi (cc)) (name_at j anchor.name hj (cc))
  speaks_given earlier l i j all hi hj e (Rules.hand_off {l = m} {t} {i = k} f) =
      let ei : p i ≡ m = cc in
      let ej : p j ≡ t = cc in
      hand_off (found_says earlier k t m t all f j i j ej ei ej hj hi hj)
  speaks_given earlier l i j all hi hj e (Rules.delegate {a} {b} {i = k} f) =
      let ei : p i ≡ Quoting b a = cc in
      let ej : p j ≡ For b a = cc in
      let s : QuotingAt i b a = quoting_at i b a hi ei in
      let t : ForAt j b a = for_at j b a hj ej in
      let q : t.x ≡ s.x = one t.x s.x b t.left_is s.left_is t.x_in s.x_in in
      let r : t.y ≡ s.y = one t.y s.y a t.right_is s.right_is t.y_in s.y_in in
      delegate s.node (rw (q, r) at t.node)
      (found_says earlier k a (Quoting b a) (For b a) all f s.y i j s.right_is ei ej s.y_in hi hj)
  speaks_given earlier l i j all hi hj e f = absurd (cc)

  pub says_given : (earlier : List Fact) (l : Line) (i j k : ℕ) → All (IsBelow (length nodes)) earlier →
      i < length nodes → j < length nodes → k < length nodes →
      l.fact ≡ Says (p i) (p j) (p k) → Follows anchors claims (map (judgement p) earlier) l →
      Gives nodes anchors claims earlier (Fact.Says i j k) l.step
  says_given earlier l i j k all hi hj hk e (Rules.said {claim} {i = m} f) =
      said f (cc) (cc) (cc)
  says_given earlier l i j k all hi hj hk e (Rules.lift {a} {b} {l = u} {r = v} {i = m} {j = n} f g) =
      let s : SaysAt earlier m a u v = says_at earlier m a u v all f in
      let ei : p i ≡ b = cc in
      let ej : p j ≡ u = cc in
      let ek : p k ≡ v = cc in
      lift {a = s.x} (found_says earlier m a u v all f s.x j k s.who_is ej ek s.below.0 hj hk)
      (found_speaks earlier n a b all g s.x i s.who_is ei s.below.0 hi)
  says_given earlier l i j k all hi hj hk e (Rules.join {a} {b} {l = u} {r = v} {i = m} {j = n} f g) =
      let s : AndAt i a b = and_at i a b hi (cc) in
      let ej : p j ≡ u = cc in
      let ek : p k ≡ v = cc in
      join s.node (found_says earlier m a u v all f s.x j k s.left_is ej ek s.x_in hj hk)
      (found_says earlier n b u v all g s.y j k s.right_is ej ek s.y_in hj hk)
  says_given earlier l i j k all hi hj hk e f = absurd (cc)

  -- a principal that has a number, and a judgement whose fact is known
  abbrev pub Numbered : Principal → Type 0
  Numbered q = (i : ℕ) × (i < length nodes) × (p i ≡ q)

  abbrev pub KnownBy : List Fact → Judgement → Type 0
  KnownBy known j = (fact : Fact) × Contains known fact × (judgement p fact ≡ j)

  -- a member of the table has a number
  pub member_number : (q : Principal) → Contains (principals_of nodes) q → Numbered q
  member_number q (k, h, e) = (k, omega (arith, h, length-principals_of nodes), get_or_default (principals_of nodes) k (Key 0) q h ∙ e)

  pub number_member : (q : Principal) → Numbered q → Contains (principals_of nodes) q
  number_member q (k, h, e) =
      let fits : k < length (principals_of nodes) = omega (arith, h, length-principals_of nodes) in
      (k, fits, sym (get_or_default (principals_of nodes) k (Key 0) q fits) ∙ e)

  pub numbered_operands : (q : Principal) → Numbered q → All Numbered (operands q)
  numbered_operands (Key k) u = All-nil Numbered
  numbered_operands (Name k) u = All-nil Numbered
  numbered_operands (And a b) (i, h, e) =
      let s : AndAt i a b = and_at i a b h e in All-two Numbered a b (s.x, s.x_in, s.left_is) (s.y, s.y_in, s.right_is)
  numbered_operands (Quoting a b) (i, h, e) =
      let s : QuotingAt i a b = quoting_at i a b h e in All-two Numbered a b (s.x, s.x_in, s.left_is) (s.y, s.y_in, s.right_is)
  numbered_operands (InRole a r) (i, h, e) =
      let s : RoleAt i a r = role_at i a r h e in All-one Numbered a (s.x, s.x_in, s.left_is)
  numbered_operands (For a b) (i, h, e) =
      let s : ForAt i a b = for_at i a b h e in All-two Numbered a b (s.x, s.x_in, s.left_is) (s.y, s.y_in, s.right_is)

  -- the principals of the claims are members
  pub record HoldsAll : Type 0 where
    pub speakers_in : (i : ℕ) (claim : Claim) → slice_get claims i ≡ Some claim → Contains (principals_of nodes) claim.speaker
    pub lefts_in : (i : ℕ) (claim : Claim) → slice_get claims i ≡ Some claim → Contains (principals_of nodes) claim.left
    pub rights_in : (i : ℕ) (claim : Claim) → slice_get claims i ≡ Some claim → Contains (principals_of nodes) claim.right

  numbered_table : HoldsAll → IsTable Numbered claims
  numbered_table holds = record {
    operands_in = numbered_operands;
    claims_in = λ i claim e. (
      member_number claim.speaker (holds.speakers_in i claim e),
      member_number claim.left (holds.lefts_in i claim e),
      member_number claim.right (holds.rights_in i claim e),
    );
  }

  module _ (known : List Fact) (below : All (IsBelow (length nodes)) known) (closed : IsClosed nodes anchors claims known) where
    -- where the facts of a list stand among the known ones
    record Placed (earlier : List Judgement) : Type 0 where
      at : ℕ → ℕ
      stand : (i : ℕ) → Stands earlier (map (judgement p) known) at i

    place : ℕ → (ℕ → ℕ) → ℕ → ℕ
    place n at zero = n
    place n at (suc i) = at i

    placed_more : (x : Judgement) (xs : List Judgement) → KnownBy known x → Placed xs → Placed (x ∷ xs)
    unfolding place
    placed_more x xs (f, (k, h, e), is) rest = record { at = place k rest.at; stand = stand_more }
      where
        stand_more : (i : ℕ) → Stands (x ∷ xs) (map (judgement p) known) (place k rest.at) i
        stand_more zero y q =
            let s : slice_get known k ≡ Some f = slice_get-get_or known k f h ∙ ap (λ (z : Fact). Some z) e in
            stands_for p known k f s ∙ ap (λ (z : Judgement). Some z) is ∙ q
        stand_more (suc i) y q = rest.stand i y q

    placed : (earlier : List Judgement) → All (KnownBy known) earlier → Placed earlier
    placed [] all = record { at = λ i. i; stand = λ i x e. absurd (none-some x e) }
    placed (x ∷ xs) all =
        placed_more x xs (All-head (KnownBy known) x xs all) (placed xs (All-tail (KnownBy known) x xs all))

    gives_known : (l : Line) → Follows anchors claims (map (judgement p) known) l → IsWithin Numbered l.fact → KnownBy known l.fact
    gives_known l f w = go l.fact refl w
      where
        go : (fact : Judgement) → l.fact ≡ fact → IsWithin Numbered fact → KnownBy known fact
        go (SpeaksFor a b) e ((i, hi, ei), (j, hj, ej)) =
            let same_fact : SpeaksFor (p i) (p j) ≡ SpeaksFor a b = cc in
            let g : Gives nodes anchors claims known (Fact.Speaks i j) l.step = speaks_given known l i j below hi hj (cc) f in
            (Fact.Speaks i j, closed (Fact.Speaks i j) l.step (hi, hj) g, same_fact)
        go (Says a b c) e ((i, hi, ei), (j, hj, ej), (k, hk, ek)) =
            let same_fact : Says (p i) (p j) (p k) ≡ Says a b c = cc in
            let g : Gives nodes anchors claims known (Fact.Says i j k) l.step = says_given known l i j k below hi hj hk (cc) f in
            (Fact.Says i j k, closed (Fact.Says i j k) l.step (hi, hj, hk) g, same_fact)

    closed-saturated : IsSaturated Numbered (KnownBy known) anchors claims
    closed-saturated earlier l all f w =
        let q : Placed earlier = placed earlier all in
        gives_known (line l.fact (moved q.at (λ i. i) l.step))
        (follows_moved anchors claims claims earlier (map (judgement p) known) q.at (λ i. i) l
        (λ k i h. q.stand (get_or (premises_of l.step) k i)) (All-of (Stands claims claims (λ i. i)) (cites_of l.step) (λ i c h. h)) f)
        w

    -- the known facts are all that is derivable about the table
    pub closed_complete : HoldsAll → (i j : ℕ) → i < length nodes → j < length nodes →
        Derivable anchors claims (SpeaksFor (p i) (p j)) → Contains known (Fact.Speaks i j)
    closed_complete holds i j hi hj d =
        let (f, c, e) = complete Numbered (KnownBy known) anchors claims (numbered_table holds) closed-saturated (SpeaksFor (p i) (p j)) ((i, hi, refl), (j, hj, refl)) d in
        go f c e
      where
        go : (f : Fact) → Contains known f → judgement p f ≡ SpeaksFor (p i) (p j) → Contains known (Fact.Speaks i j)
        go (Fact.Speaks x y) c e =
            let h : (x < length nodes) × (y < length nodes) = All-contains (IsBelow (length nodes)) known (Fact.Speaks x y) below c in
            let ex : x ≡ i = named_apart nodes table x i h.0 hi (cc) in
            let ey : y ≡ j = named_apart nodes table y j h.1 hj (cc) in
            subst (λ (f : Fact). Contains known f) (cc) c
        go (Fact.Says x y z) c e = absurd (cc)
