-- What is known of the facts of a saturation, and what a step that gives a fact rests on.
use Rattle.std.proofs.Common.{◌≡◌, ℕ, ◌⊎◌, inl, inr, zero, suc, ◌+◌, ◌*◌, ◌<◌, [], ◌∷◌, List, Option, Some, None, MatchOption, slice_get, refl, sym, ◌∙◌, ap, arith}
use Rattle.std.proofs.lemmas.Option.{same_Some, none-some, slice_get-map}
use Rattle.term_pool.proofs.Orders.{same_or_not}
use Rattle.taos_calculus.specs.declared.line.Step.{Step}
use Rattle.taos_calculus.specs.declared.line.Node.{Node}
use Rattle.taos_calculus.specs.declared.line.Fact.{Fact}
use Rattle.term_pool.specs.declared.found.Pair.{Pair}
use Rattle.taos_saturate.specs.declared.saturation.Saturation.{Saturation}
use Rattle.term_pool.specs.declared.cited.Cited.{Cited}
use Rattle.taos_calculus.specs.Rules.{Claim}
use Rattle.taos_calculus.specs.Tables.{named}
use Rattle.taos_calculus.proofs.Naming.{named_apart}
use Rattle.std.specs.Prelude.{option_map}
use Rattle.taos_calculus.specs.Numbered.{same, chain, left, right, both, quoting, for_both, role, role_under, anchored, said, lift, join, hand_off, delegate}
use Rattle.term_pool.specs.Finding.{IsCell, of_speaks, of_says, IsFirstOf, pair, CellOf}
use Rattle.taos_saturate.specs.Saturating.{facts_of, claims_in, GivesIn, Lacks, IsNoChain, IsNoLift, HasSaying, LacksSaying, IsNumber, IsReady, IsNew}
use Rattle.term_pool.specs.Claims.{claim_by}

cell_speaks : (width : ℕ) (statements : List Pair) (a b c : ℕ) → IsCell width statements (Fact.Speaks a b) c → (a < width) × (b < width)
cell_speaks width statements a b c (of_speaks h k e) = (h, k)

record SaidCell (width : ℕ) (statements : List Pair) (w l r : ℕ) : Type 0 where
  k : ℕ
  who_in : w < width
  stands : slice_get statements k ≡ Some (pair l r)

cell_says : (width : ℕ) (statements : List Pair) (w l r c : ℕ) → IsCell width statements (Fact.Says w l r) c → SaidCell width statements w l r
cell_says width statements w l r c (of_says k h f e) = record { k = k; who_in = h; stands = f.stands }

-- what stands at one place is one
pub one_node : {X : Type 0} (xs : List X) (i : ℕ) (x y : X) → slice_get xs i ≡ Some x → slice_get xs i ≡ Some y → x ≡ y
one_node xs i x y e f = same_Some x y (sym e ∙ f)

-- where the node is of another kind, no step of this kind gives the fact; and where it is of the kind, the premises are told
module _ (s : Saturation) where
  pub no_left : (l r : ℕ) → (node : Node) → slice_get s.nodes.items l ≡ Some node → ((x y : ℕ) → node ≡ Node.And x y → ⊥) → Lacks s (Fact.Speaks l r) Step.Left
  no_left l r node e other (left {b} f) = other r b (one_node s.nodes.items l node (Node.And r b) e f)

  pub no_right : (l r : ℕ) → (node : Node) → slice_get s.nodes.items l ≡ Some node → ((x y : ℕ) → node ≡ Node.And x y → ⊥) → Lacks s (Fact.Speaks l r) Step.Right
  no_right l r node e other (right {a} f) = other a r (one_node s.nodes.items l node (Node.And a r) e f)

  pub left_differs : (l r : ℕ) → (a b : ℕ) → slice_get s.nodes.items l ≡ Some (Node.And a b) → (a ≡ r → ⊥) → Lacks s (Fact.Speaks l r) Step.Left
  left_differs l r a b e ne (left {b = y} f) =
      let q : Node.And a b ≡ Node.And r y = one_node s.nodes.items l (Node.And a b) (Node.And r y) e f in ne (cc)

  pub right_differs : (l r : ℕ) → (a b : ℕ) → slice_get s.nodes.items l ≡ Some (Node.And a b) → (b ≡ r → ⊥) → Lacks s (Fact.Speaks l r) Step.Right
  right_differs l r a b e ne (right {a = x} f) =
      let q : Node.And a b ≡ Node.And x r = one_node s.nodes.items l (Node.And a b) (Node.And x r) e f in ne (cc)

  pub no_both : (l r : ℕ) → (node : Node) → slice_get s.nodes.items r ≡ Some node → ((x y : ℕ) → node ≡ Node.And x y → ⊥) →
      (i j : ℕ) → Lacks s (Fact.Speaks l r) (Step.Both i j)
  no_both l r node e other i j (both {a} {b} f g h) = other a b (one_node s.nodes.items r node (Node.And a b) e f)

  pub both_lacks : (l r : ℕ) → (a b : ℕ) → slice_get s.nodes.items r ≡ Some (Node.And a b) →
      ((i j : ℕ) → slice_get (facts_of s) i ≡ Some (Fact.Speaks l a) → slice_get (facts_of s) j ≡ Some (Fact.Speaks l b) → ⊥) →
      (i j : ℕ) → Lacks s (Fact.Speaks l r) (Step.Both i j)
  both_lacks l r a b e none i j (both {a = x} {b = y} f g h) =
      let q : Node.And a b ≡ Node.And x y = one_node s.nodes.items r (Node.And a b) (Node.And x y) e f in
      let qa : x ≡ a = cc in
      let qb : y ≡ b = cc in
      none i j (rw qa at g) (rw qb at h)

  pub no_quoting : (l r : ℕ) → (node : Node) → slice_get s.nodes.items l ≡ Some node → ((x y : ℕ) → node ≡ Node.Quote x y → ⊥) →
      (i j : ℕ) → Lacks s (Fact.Speaks l r) (Step.Quote i j)
  no_quoting l r node e other i j (quoting {a} {b} f g h k) = other a b (one_node s.nodes.items l node (Node.Quote a b) e f)

  pub no_quoting_to : (l r : ℕ) → (node : Node) → slice_get s.nodes.items r ≡ Some node → ((x y : ℕ) → node ≡ Node.Quote x y → ⊥) →
      (i j : ℕ) → Lacks s (Fact.Speaks l r) (Step.Quote i j)
  no_quoting_to l r node e other i j (quoting {a'} {b'} f g h k) = other a' b' (one_node s.nodes.items r node (Node.Quote a' b') e g)

  pub quoting_lacks : (l r : ℕ) → (a b c d : ℕ) → slice_get s.nodes.items l ≡ Some (Node.Quote a b) → slice_get s.nodes.items r ≡ Some (Node.Quote c d) →
      ((i j : ℕ) → slice_get (facts_of s) i ≡ Some (Fact.Speaks a c) → slice_get (facts_of s) j ≡ Some (Fact.Speaks b d) → ⊥) →
      (i j : ℕ) → Lacks s (Fact.Speaks l r) (Step.Quote i j)
  quoting_lacks l r a b c d el er none i j (quoting {a = x} {a' = x'} {b = y} {b' = y'} f g h k) =
      let q : Node.Quote a b ≡ Node.Quote x y = one_node s.nodes.items l (Node.Quote a b) (Node.Quote x y) el f in
      let q' : Node.Quote c d ≡ Node.Quote x' y' = one_node s.nodes.items r (Node.Quote c d) (Node.Quote x' y') er g in
      let qa : x ≡ a = cc in
      let qb : y ≡ b = cc in
      let qc : x' ≡ c = cc in
      let qd : y' ≡ d = cc in
      none i j (rw (qa, qc) at h) (rw (qb, qd) at k)

  pub no_for : (l r : ℕ) → (node : Node) → slice_get s.nodes.items l ≡ Some node → ((x y : ℕ) → node ≡ Node.For x y → ⊥) →
      (i j : ℕ) → Lacks s (Fact.Speaks l r) (Step.For i j)
  no_for l r node e other i j (for_both {a} {b} f g h k) = other a b (one_node s.nodes.items l node (Node.For a b) e f)

  pub no_for_to : (l r : ℕ) → (node : Node) → slice_get s.nodes.items r ≡ Some node → ((x y : ℕ) → node ≡ Node.For x y → ⊥) →
      (i j : ℕ) → Lacks s (Fact.Speaks l r) (Step.For i j)
  no_for_to l r node e other i j (for_both {a'} {b'} f g h k) = other a' b' (one_node s.nodes.items r node (Node.For a' b') e g)

  pub for_lacks : (l r : ℕ) → (a b c d : ℕ) → slice_get s.nodes.items l ≡ Some (Node.For a b) → slice_get s.nodes.items r ≡ Some (Node.For c d) →
      ((i j : ℕ) → slice_get (facts_of s) i ≡ Some (Fact.Speaks a c) → slice_get (facts_of s) j ≡ Some (Fact.Speaks b d) → ⊥) →
      (i j : ℕ) → Lacks s (Fact.Speaks l r) (Step.For i j)
  for_lacks l r a b c d el er none i j (for_both {a = x} {a' = x'} {b = y} {b' = y'} f g h k) =
      let q : Node.For a b ≡ Node.For x y = one_node s.nodes.items l (Node.For a b) (Node.For x y) el f in
      let q' : Node.For c d ≡ Node.For x' y' = one_node s.nodes.items r (Node.For c d) (Node.For x' y') er g in
      let qa : x ≡ a = cc in
      let qb : y ≡ b = cc in
      let qc : x' ≡ c = cc in
      let qd : y' ≡ d = cc in
      none i j (rw (qa, qc) at h) (rw (qb, qd) at k)

  pub no_role : (l r : ℕ) → (node : Node) → slice_get s.nodes.items r ≡ Some node → ((x y : ℕ) → node ≡ Node.AsRole x y → ⊥) → Lacks s (Fact.Speaks l r) Step.Role
  no_role l r node e other (role {r = n} f) = other l n (one_node s.nodes.items r node (Node.AsRole l n) e f)

  pub role_differs : (l r : ℕ) → (a n : ℕ) → slice_get s.nodes.items r ≡ Some (Node.AsRole a n) → (a ≡ l → ⊥) → Lacks s (Fact.Speaks l r) Step.Role
  role_differs l r a n e ne (role {r = m} f) =
      let q : Node.AsRole a n ≡ Node.AsRole l m = one_node s.nodes.items r (Node.AsRole a n) (Node.AsRole l m) e f in ne (cc)

  pub no_role_under : (l r : ℕ) → (node : Node) → slice_get s.nodes.items l ≡ Some node → ((x y : ℕ) → node ≡ Node.AsRole x y → ⊥) →
      (i : ℕ) → Lacks s (Fact.Speaks l r) (Step.RoleUnder i)
  no_role_under l r node e other i (role_under {a} {r = n} f g h) = other a n (one_node s.nodes.items l node (Node.AsRole a n) e f)

  pub no_role_under_to : (l r : ℕ) → (node : Node) → slice_get s.nodes.items r ≡ Some node → ((x y : ℕ) → node ≡ Node.AsRole x y → ⊥) →
      (i : ℕ) → Lacks s (Fact.Speaks l r) (Step.RoleUnder i)
  no_role_under_to l r node e other i (role_under {b} {r = n} f g h) = other b n (one_node s.nodes.items r node (Node.AsRole b n) e g)

  pub roles_differ : (l r : ℕ) → (a b n m : ℕ) → slice_get s.nodes.items l ≡ Some (Node.AsRole a n) → slice_get s.nodes.items r ≡ Some (Node.AsRole b m) →
      (n ≡ m → ⊥) → (i : ℕ) → Lacks s (Fact.Speaks l r) (Step.RoleUnder i)
  roles_differ l r a b n m el er ne i (role_under {a = x} {b = y} {r = k} f g h) =
      let q : Node.AsRole a n ≡ Node.AsRole x k = one_node s.nodes.items l (Node.AsRole a n) (Node.AsRole x k) el f in
      let q' : Node.AsRole b m ≡ Node.AsRole y k = one_node s.nodes.items r (Node.AsRole b m) (Node.AsRole y k) er g in
      ne (cc)

  pub role_under_lacks : (l r : ℕ) → (a b n m : ℕ) → slice_get s.nodes.items l ≡ Some (Node.AsRole a n) → slice_get s.nodes.items r ≡ Some (Node.AsRole b m) →
      ((i : ℕ) → slice_get (facts_of s) i ≡ Some (Fact.Speaks a b) → ⊥) → (i : ℕ) → Lacks s (Fact.Speaks l r) (Step.RoleUnder i)
  role_under_lacks l r a b n m el er none i (role_under {a = x} {b = y} {r = k} f g h) =
      let q : Node.AsRole a n ≡ Node.AsRole x k = one_node s.nodes.items l (Node.AsRole a n) (Node.AsRole x k) el f in
      let q' : Node.AsRole b m ≡ Node.AsRole y k = one_node s.nodes.items r (Node.AsRole b m) (Node.AsRole y k) er g in
      let qa : x ≡ a = cc in
      let qb : y ≡ b = cc in
      none i (rw (qa, qb) at h)

  pub no_delegate : (l r : ℕ) → (node : Node) → slice_get s.nodes.items l ≡ Some node → ((x y : ℕ) → node ≡ Node.Quote x y → ⊥) →
      (i : ℕ) → Lacks s (Fact.Speaks l r) (Step.Delegate i)
  no_delegate l r node e other i (delegate {a} {b} f g h) = other b a (one_node s.nodes.items l node (Node.Quote b a) e f)

  pub no_delegate_to : (l r : ℕ) → (node : Node) → slice_get s.nodes.items r ≡ Some node → ((x y : ℕ) → node ≡ Node.For x y → ⊥) →
      (i : ℕ) → Lacks s (Fact.Speaks l r) (Step.Delegate i)
  no_delegate_to l r node e other i (delegate {a} {b} f g h) = other b a (one_node s.nodes.items r node (Node.For b a) e g)

  pub delegate_differs : (l r : ℕ) → (a b c d : ℕ) → slice_get s.nodes.items l ≡ Some (Node.Quote b a) → slice_get s.nodes.items r ≡ Some (Node.For c d) →
      ((b ≡ c) × (a ≡ d) → ⊥) → (i : ℕ) → Lacks s (Fact.Speaks l r) (Step.Delegate i)
  delegate_differs l r a b c d el er ne i (delegate {a = x} {b = y} f g h) =
      let q : Node.Quote b a ≡ Node.Quote y x = one_node s.nodes.items l (Node.Quote b a) (Node.Quote y x) el f in
      let q' : Node.For c d ≡ Node.For y x = one_node s.nodes.items r (Node.For c d) (Node.For y x) er g in
      let qb : b ≡ c = cc in
      let qa : a ≡ d = cc in
      ne (qb, qa)

  pub delegate_lacks : (l r : ℕ) → (a b : ℕ) → slice_get s.nodes.items l ≡ Some (Node.Quote b a) →
      ((i : ℕ) → slice_get (facts_of s) i ≡ Some (Fact.Says a l r) → ⊥) → (i : ℕ) → Lacks s (Fact.Speaks l r) (Step.Delegate i)
  delegate_lacks l r a b el none i (delegate {a = x} {b = y} f g h) =
      let q : Node.Quote b a ≡ Node.Quote y x = one_node s.nodes.items l (Node.Quote b a) (Node.Quote y x) el f in
      let qa : x ≡ a = cc in
      none i (rw qa at h)

module _ (s : Saturation) (ready : IsReady s) where
  pub speaks_in : (i a b : ℕ) → slice_get (facts_of s) i ≡ Some (Fact.Speaks a b) → IsNumber s a × IsNumber s b
  speaks_in i a b e =
      let (c, cell, at) = ready.found.index.celled i (Fact.Speaks a b) e in
      rw ready.width_is at (cell_speaks s.found.width s.found.statements.items a b c cell)

  pub says_in : (i w l r : ℕ) → slice_get (facts_of s) i ≡ Some (Fact.Says w l r) → IsNumber s w × IsNumber s l × IsNumber s r
  says_in i w l r e =
      let (c, cell, at) = ready.found.index.celled i (Fact.Says w l r) e in
      let q : SaidCell s.found.width s.found.statements.items w l r = cell_says s.found.width s.found.statements.items w l r c cell in
      let sides : IsNumber s l × IsNumber s r = ready.statements_in q.k (pair l r) q.stands in
      (rw ready.width_is at q.who_in, sides.0, sides.1)

  -- the claim of a place is that of its numbers
  pub claim_at : (i : ℕ) (claim : Claim) → slice_get (claims_in s) i ≡ Some claim → (c : Cited) × (slice_get s.cited.items i ≡ Some c) × (claim_by (named s.nodes.items) c ≡ claim)
  claim_at i claim e = go (slice_get s.cited.items i) refl
    where
      go : (o : Option Cited) → slice_get s.cited.items i ≡ o → (c : Cited) × (slice_get s.cited.items i ≡ Some c) × (claim_by (named s.nodes.items) c ≡ claim)
      go None q =
          let n : slice_get (claims_in s) i ≡ None = slice_get-map (claim_by (named s.nodes.items)) s.cited.items i ∙ ap (option_map (claim_by (named s.nodes.items))) q in
          absurd (cc)
      go (Some c) q =
          let n : slice_get (claims_in s) i ≡ Some (claim_by (named s.nodes.items) c)
          = slice_get-map (claim_by (named s.nodes.items)) s.cited.items i ∙ ap (option_map (claim_by (named s.nodes.items))) q in
          (c, q, same_Some (claim_by (named s.nodes.items) c) claim (sym n ∙ e))

  -- a certificate is known by its numbers
  said_at : (i w l r : ℕ) (claim : Claim) → IsNumber s w → IsNumber s l → IsNumber s r → slice_get (claims_in s) i ≡ Some claim →
      named s.nodes.items w ≡ claim.speaker → named s.nodes.items l ≡ claim.left → named s.nodes.items r ≡ claim.right → HasSaying s.cited.items w l r i
  said_at i w l r claim hw hl hr e pw pl pr =
      let (c, at, is) = claim_at i claim e in
      let (who, (m, stated)) = ready.cited_in i c at in
      let sides : IsNumber s c.left × IsNumber s c.right = ready.statements_in m (pair c.left c.right) stated in (
        c,
        at,
        record {
          speaker_is = named_apart s.nodes.items ready.table c.speaker w who hw (ap (λ (x : Claim). x.speaker) is ∙ sym pw);
          left_is = named_apart s.nodes.items ready.table c.left l sides.0 hl (ap (λ (x : Claim). x.left) is ∙ sym pl);
          right_is = named_apart s.nodes.items ready.table c.right r sides.1 hr (ap (λ (x : Claim). x.right) is ∙ sym pr);
        },
      )

  pub gives_said : (i w l r : ℕ) → HasSaying s.cited.items w l r i → GivesIn s (Fact.Says w l r) (Step.Said i)
  gives_said i w l r (c, e, is) =
      said (slice_get-map (claim_by (named s.nodes.items)) s.cited.items i ∙ ap (option_map (claim_by (named s.nodes.items))) e)
      (ap (named s.nodes.items) (sym is.speaker_is)) (ap (named s.nodes.items) (sym is.left_is)) (ap (named s.nodes.items) (sym is.right_is))

  pub said_lacks : (w l r : ℕ) → IsNumber s w → IsNumber s l → IsNumber s r → LacksSaying s.cited.items w l r → (i : ℕ) → Lacks s (Fact.Says w l r) (Step.Said i)
  said_lacks w l r hw hl hr none i (said {claim} e pw pl pr) =
      let (c, at, is) = said_at i w l r claim hw hl hr e pw pl pr in none i c at is

-- another reason for a `None`
pub for_none : {X : Type 0} {P P' : Type 0} (o : Option X) (Q : X → Type 0) → (P → P') → MatchOption o P Q → MatchOption o P' Q
for_none None Q f h = f h
for_none (Some x) Q f h = h

module _ (s : Saturation) where
  pub no_anchor : (l r : ℕ) → (node : Node) → slice_get s.nodes.items l ≡ Some node → ((x : ℕ) → node ≡ Node.Key x → ⊥) →
      (i : ℕ) → Lacks s (Fact.Speaks l r) (Step.Anchor i)
  no_anchor l r node e other i (anchored {anchor} f g h) = other anchor.key (one_node s.nodes.items l node (Node.Key anchor.key) e g)

  pub no_anchor_to : (l r : ℕ) → (node : Node) → slice_get s.nodes.items r ≡ Some node → ((x : ℕ) → node ≡ Node.Name x → ⊥) →
      (i : ℕ) → Lacks s (Fact.Speaks l r) (Step.Anchor i)
  no_anchor_to l r node e other i (anchored {anchor} f g h) = other anchor.name (one_node s.nodes.items r node (Node.Name anchor.name) e h)

  pub no_join : (w l r : ℕ) → (node : Node) → slice_get s.nodes.items w ≡ Some node → ((x y : ℕ) → node ≡ Node.And x y → ⊥) →
      (i j : ℕ) → Lacks s (Fact.Says w l r) (Step.Join i j)
  no_join w l r node e other i j (join {a} {b} f g h) = other a b (one_node s.nodes.items w node (Node.And a b) e f)

  pub join_lacks : (w l r a b : ℕ) → slice_get s.nodes.items w ≡ Some (Node.And a b) →
      ((j : ℕ) → slice_get (facts_of s) j ≡ Some (Fact.Says b l r) → ⊥) → (i j : ℕ) → Lacks s (Fact.Says w l r) (Step.Join i j)
  join_lacks w l r a b e none i j (join {a = x} {b = y} f g h) =
      let q : Node.And a b ≡ Node.And x y = one_node s.nodes.items w (Node.And a b) (Node.And x y) e f in
      let qb : y ≡ b = cc in
      none j (rw qb at h)

  -- the rules for one kind of fact, together
  pub no_says : (w l r : ℕ) → ((i : ℕ) → Lacks s (Fact.Says w l r) (Step.Said i)) →
      ((i j : ℕ) → Lacks s (Fact.Says w l r) (Step.Join i j)) → (step : Step) → IsNoLift step → Lacks s (Fact.Says w l r) step
  no_says w l r a c step n (said {i} e pw pl pr) = a i (said e pw pl pr)
  no_says w l r a c step n (lift e f) = n
  no_says w l r a c step n (join {i} {j} e f g) = c i j (join e f g)

  pub no_speaks : (l r : ℕ) → (l ≡ r → ⊥) →
      Lacks s (Fact.Speaks l r) Step.Left × Lacks s (Fact.Speaks l r) Step.Right →
      ((i j : ℕ) → Lacks s (Fact.Speaks l r) (Step.Both i j)) →
      ((i j : ℕ) → Lacks s (Fact.Speaks l r) (Step.Quote i j)) →
      ((i j : ℕ) → Lacks s (Fact.Speaks l r) (Step.For i j)) →
      Lacks s (Fact.Speaks l r) Step.Role →
      ((i : ℕ) → Lacks s (Fact.Speaks l r) (Step.RoleUnder i)) →
      ((i : ℕ) → Lacks s (Fact.Speaks l r) (Step.Anchor i)) →
      ((i : ℕ) → Lacks s (Fact.Speaks l r) (Step.HandOff i)) →
      ((i : ℕ) → Lacks s (Fact.Speaks l r) (Step.Delegate i)) →
      (step : Step) → IsNoChain step → Lacks s (Fact.Speaks l r) step
  no_speaks l r a1 a3 a4 a5 a6 a7 a8 a9 a10 a11 step n same = a1 refl
  no_speaks l r a1 a3 a4 a5 a6 a7 a8 a9 a10 a11 step n (chain e f) = n
  no_speaks l r a1 a3 a4 a5 a6 a7 a8 a9 a10 a11 step n (left e) = a3.0 (left e)
  no_speaks l r a1 a3 a4 a5 a6 a7 a8 a9 a10 a11 step n (right e) = a3.1 (right e)
  no_speaks l r a1 a3 a4 a5 a6 a7 a8 a9 a10 a11 step n (both {i} {j} e f g) = a4 i j (both e f g)
  no_speaks l r a1 a3 a4 a5 a6 a7 a8 a9 a10 a11 step n (quoting {i} {j} e f g h) = a5 i j (quoting e f g h)
  no_speaks l r a1 a3 a4 a5 a6 a7 a8 a9 a10 a11 step n (for_both {i} {j} e f g h) = a6 i j (for_both e f g h)
  no_speaks l r a1 a3 a4 a5 a6 a7 a8 a9 a10 a11 step n (role e) = a7 (role e)
  no_speaks l r a1 a3 a4 a5 a6 a7 a8 a9 a10 a11 step n (role_under {i} e f g) = a8 i (role_under e f g)
  no_speaks l r a1 a3 a4 a5 a6 a7 a8 a9 a10 a11 step n (anchored {i} e f g) = a9 i (anchored e f g)
  no_speaks l r a1 a3 a4 a5 a6 a7 a8 a9 a10 a11 step n (hand_off {i} e) = a10 i (hand_off e)
  no_speaks l r a1 a3 a4 a5 a6 a7 a8 a9 a10 a11 step n (delegate {i} e f g) = a11 i (delegate e f g)

-- the first place of what stands in a list of pairs
same_pair : (x : Pair) (l r : ℕ) → (x ≡ pair l r) ⊎ (x ≡ pair l r → ⊥)
same_pair x l r = two (same_or_not x.left l) (same_or_not x.right r)
  where
    two : (x.left ≡ l) ⊎ (x.left ≡ l → ⊥) → (x.right ≡ r) ⊎ (x.right ≡ r → ⊥) → (x ≡ pair l r) ⊎ (x ≡ pair l r → ⊥)
    two (inl p) (inl q) = inl (λ i. record { left = p i; right = q i })
    two (inl p) (inr n) = inr (λ e. n (ap (λ (z : Pair). z.right) e))
    two (inr n) q = inr (λ e. n (ap (λ (z : Pair). z.left) e))

later_place : (x : Pair) (xs : List Pair) (k l r : ℕ) → slice_get (x ∷ xs) k ≡ Some (pair l r) → (x ≡ pair l r → ⊥) → (j : ℕ) × (slice_get xs j ≡ Some (pair l r))
later_place x xs zero l r e n = absurd (n (same_Some x (pair l r) e))
later_place x xs (suc j) l r e n = (j, e)

none_before : (x : Pair) (xs : List Pair) (l r m : ℕ) → (x ≡ pair l r → ⊥) →
    ((i : ℕ) → i < m → slice_get xs i ≡ Some (pair l r) → ⊥) → (i : ℕ) → i < suc m → slice_get (x ∷ xs) i ≡ Some (pair l r) → ⊥
none_before x xs l r m n none zero h f = n (same_Some x (pair l r) f)
none_before x xs l r m n none (suc i) h f = none i (omega arith) f

first_place : (xs : List Pair) (k l r : ℕ) → slice_get xs k ≡ Some (pair l r) → (m : ℕ) × IsFirstOf xs l r m
first_place [] k l r e = absurd (none-some (pair l r) e)
first_place (x ∷ xs) k l r e = go (same_pair x l r) (λ j f. first_place xs j l r f)
  where
    go : (x ≡ pair l r) ⊎ (x ≡ pair l r → ⊥) → ((j : ℕ) → slice_get xs j ≡ Some (pair l r) → (m : ℕ) × IsFirstOf xs l r m) → (m : ℕ) × IsFirstOf (x ∷ xs) l r m
    go (inl p) below = (0, record { stands = ap (λ (z : Pair). Some z) p; first = λ m h. absurd (omega arith) })
    go (inr n) below =
        let (j, f) = later_place x xs k l r e n in
        let (m, is) = below j f in
        (suc m, record { stands = is.stands; first = none_before x xs l r m n is.first })

-- what follows in both cases
pub for_both_cases : {X : Type 0} {P P' : Type 0} (o : Option X) (Q Q' : X → Type 0) → (P → P') → ((x : X) → Q x → Q' x) → MatchOption o P Q → MatchOption o P' Q'
for_both_cases None Q Q' f g h = f h
for_both_cases (Some x) Q Q' f g h = g x h

module _ (s : Saturation) (ready : IsReady s) where
  pub speaks_celled : (a b : ℕ) → IsNumber s a → IsNumber s b → (c : ℕ) × CellOf s.found (Fact.Speaks a b) c
  speaks_celled a b h k = (a * s.found.width + b, of_speaks (rw ready.width_is h) (rw ready.width_is k) refl)

  pub says_celled : (w l r k : ℕ) → IsNumber s w → slice_get s.found.statements.items k ≡ Some (pair l r) → (c : ℕ) × CellOf s.found (Fact.Says w l r) c
  says_celled w l r k h e =
      let (m, is) = first_place s.found.statements.items k l r e in
      ((s.found.width + m) * s.found.width + w, of_says m (rw ready.width_is h) is refl)

  pub new_speaks : (a b : ℕ) (step : Step) → IsNumber s a → IsNumber s b → GivesIn s (Fact.Speaks a b) step →
      ((k : ℕ) → slice_get (facts_of s) k ≡ Some (Fact.Speaks a b) → ⊥) → IsNew s record { fact = Fact.Speaks a b; step = step }
  new_speaks a b step h k g u = record { gives = g; below = (h, k); unknown = u; celled = speaks_celled a b h k }

  pub new_says : (w l r k : ℕ) (step : Step) → IsNumber s w → slice_get s.found.statements.items k ≡ Some (pair l r) → GivesIn s (Fact.Says w l r) step →
      ((k : ℕ) → slice_get (facts_of s) k ≡ Some (Fact.Says w l r) → ⊥) → IsNew s record { fact = Fact.Says w l r; step = step }
  new_says w l r k step h e g u =
      let sides : IsNumber s l × IsNumber s r = ready.statements_in k (pair l r) e in
      record { gives = g; below = (h, sides.0, sides.1); unknown = u; celled = says_celled w l r k h e }

  -- the statement of a fact that a step gives is one of the statements
  fact_stated : (i w l r : ℕ) → slice_get (facts_of s) i ≡ Some (Fact.Says w l r) → (k : ℕ) × (slice_get s.found.statements.items k ≡ Some (pair l r))
  fact_stated i w l r e =
      let (c, cell, at) = ready.found.index.celled i (Fact.Says w l r) e in
      let q : SaidCell s.found.width s.found.statements.items w l r = cell_says s.found.width s.found.statements.items w l r c cell in
      (q.k, q.stands)

  pub says_stated : (w l r : ℕ) (step : Step) → IsNumber s w → IsNumber s l → IsNumber s r → GivesIn s (Fact.Says w l r) step →
      (k : ℕ) × (slice_get s.found.statements.items k ≡ Some (pair l r))
  says_stated w l r step hw hl hr (said {claim} {i} e pw pl pr) =
      let (c, at, is) = said_at s ready i w l r claim hw hl hr e pw pl pr in
      let (m, stated) = (ready.cited_in i c at).1 in
      (m, rw (is.left_is, is.right_is) at stated)
  says_stated w l r step hw hl hr (lift {a} {i} e f) = fact_stated i a l r e
  says_stated w l r step hw hl hr (join {a} {i} e f g) = fact_stated i a l r f
