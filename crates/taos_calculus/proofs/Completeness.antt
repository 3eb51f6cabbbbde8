-- A saturated set of facts over a table has each derivable fact within the table.
--
-- A principal x, in the table or not, reaches the members of the table that are forced on it by its parts, by anchors and by known
-- facts.
-- Each rule keeps this: where `a => b`, what b reaches is reached by a; where `a says s`, whatever a reaches is known to say s.
use Rattle.std.proofs.Common.{◌≡◌, ℕ, List, [], ◌∷◌, slice_get, Some, refl, Contains, lit<}
use Rattle.std.proofs.lemmas.List.Elements.{All-nil}
use Rattle.prin_term.specs.declared.term.Anchor.{Anchor}
use Rattle.taos_calculus.specs.declared.line.Step.{Step}
use Rattle.prin_term.specs.Principal.{Principal, Key, Name, And, Quoting, InRole, For}
use Rattle.taos_calculus.specs.Rules.{Claim, Judgement, SpeaksFor, Says, line, Follows, same, chain, left, right, both, quoting, for_both, role, role_under, anchored, said, lift, join, hand_off, delegate, Derivable}
use Rattle.taos_calculus.specs.Saturation.{IsWithin, IsTable, IsSaturated, HasEveryFact}
use Rattle.taos_calculus.specs.Reach.{Reach, itself, onward, to_both, by_left, by_right, by_quoting, by_for, by_role, by_anchor, Comes, KeepsReach, KnowsReach}
use Rattle.taos_calculus.proofs.Induction.{All-at, All-one, All-two, IsKept, rule_induction}

module _ (U : Principal → Type 0) (Known : Judgement → Type 0) (anchors : List Anchor) (claims : List Claim)
    (table : IsTable U claims) (saturated : IsSaturated U Known anchors claims) where
  -- the operands of a member
  and_left : (a b : Principal) → U (And a b) → U a
  and_left a b u = table.operands_in (And a b) u 0 a (lit< tt)

  and_right : (a b : Principal) → U (And a b) → U b
  and_right a b u = table.operands_in (And a b) u 1 b (lit< tt)

  quoting_left : (a b : Principal) → U (Quoting a b) → U a
  quoting_left a b u = table.operands_in (Quoting a b) u 0 a (lit< tt)

  quoting_right : (a b : Principal) → U (Quoting a b) → U b
  quoting_right a b u = table.operands_in (Quoting a b) u 1 b (lit< tt)

  for_left : (a b : Principal) → U (For a b) → U a
  for_left a b u = table.operands_in (For a b) u 0 a (lit< tt)

  for_right : (a b : Principal) → U (For a b) → U b
  for_right a b u = table.operands_in (For a b) u 1 b (lit< tt)

  role_holder : (a : Principal) (r : ℕ) → U (InRole a r) → U a
  role_holder a r u = table.operands_in (InRole a r) u 0 a (lit< tt)

  -- the saturated set, rule by rule
  known_0 : (fact : Judgement) (step : Step) → Follows anchors claims [] (line fact step) → IsWithin U fact → Known fact
  known_0 fact step f w = saturated [] (line fact step) (All-nil Known) f w

  known_1 : (p fact : Judgement) (step : Step) → Known p → Follows anchors claims (p ∷ []) (line fact step) → IsWithin U fact → Known fact
  known_1 p fact step k f w = saturated (p ∷ []) (line fact step) (All-one Known p k) f w

  known_2 : (p q fact : Judgement) (step : Step) → Known p → Known q →
      Follows anchors claims (p ∷ q ∷ []) (line fact step) → IsWithin U fact → Known fact
  known_2 p q fact step k m f w = saturated (p ∷ q ∷ []) (line fact step) (All-two Known p q k m) f w

  knows_same : (a : Principal) → U a → Known (SpeaksFor a a)
  knows_same a u = known_0 (SpeaksFor a a) Step.Same same (u, u)

  knows_chain : (a b c : Principal) → Known (SpeaksFor a b) → Known (SpeaksFor b c) → U a → U c → Known (SpeaksFor a c)
  knows_chain a b c k m u w =
      known_2 (SpeaksFor a b) (SpeaksFor b c) (SpeaksFor a c) (Step.Chain 0 1) k m (chain refl refl) (u, w)

  knows_left : (a b : Principal) → U (And a b) → Known (SpeaksFor (And a b) a)
  knows_left a b u = known_0 (SpeaksFor (And a b) a) Step.Left left (u, and_left a b u)

  knows_right : (a b : Principal) → U (And a b) → Known (SpeaksFor (And a b) b)
  knows_right a b u = known_0 (SpeaksFor (And a b) b) Step.Right right (u, and_right a b u)

  knows_both : (a b c : Principal) → Known (SpeaksFor c a) → Known (SpeaksFor c b) → U c → U (And a b) → Known (SpeaksFor c (And a b))
  knows_both a b c k m u w =
      known_2 (SpeaksFor c a) (SpeaksFor c b) (SpeaksFor c (And a b)) (Step.Both 0 1) k m (both refl refl) (u, w)

  knows_quoting : (a a' b b' : Principal) → Known (SpeaksFor a a') → Known (SpeaksFor b b') →
      U (Quoting a b) → U (Quoting a' b') → Known (SpeaksFor (Quoting a b) (Quoting a' b'))
  knows_quoting a a' b b' k m u w =
      known_2 (SpeaksFor a a') (SpeaksFor b b') (SpeaksFor (Quoting a b) (Quoting a' b')) (Step.Quote 0 1) k m (quoting refl refl) (u, w)

  knows_for : (a a' b b' : Principal) → Known (SpeaksFor a a') → Known (SpeaksFor b b') →
      U (For a b) → U (For a' b') → Known (SpeaksFor (For a b) (For a' b'))
  knows_for a a' b b' k m u w =
      known_2 (SpeaksFor a a') (SpeaksFor b b') (SpeaksFor (For a b) (For a' b')) (Step.For 0 1) k m (for_both refl refl) (u, w)

  knows_role : (a : Principal) (r : ℕ) → U (InRole a r) → Known (SpeaksFor a (InRole a r))
  knows_role a r u = known_0 (SpeaksFor a (InRole a r)) Step.Role role (role_holder a r u, u)

  knows_role_under : (a b : Principal) (r : ℕ) → Known (SpeaksFor a b) → U (InRole a r) → U (InRole b r) →
      Known (SpeaksFor (InRole a r) (InRole b r))
  knows_role_under a b r k u w =
      known_1 (SpeaksFor a b) (SpeaksFor (InRole a r) (InRole b r)) (Step.RoleUnder 0) k (role_under refl) (u, w)

  knows_anchor : (i : ℕ) (anchor : Anchor) → slice_get anchors i ≡ Some anchor → U (Key anchor.key) → U (Name anchor.name) →
      Known (SpeaksFor (Key anchor.key) (Name anchor.name))
  knows_anchor i anchor e u w =
      known_0 (SpeaksFor (Key anchor.key) (Name anchor.name)) (Step.Anchor i) (anchored e) (u, w)

  knows_said : (i : ℕ) (claim : Claim) → slice_get claims i ≡ Some claim → Known (Says claim.speaker claim.left claim.right)
  knows_said i claim e =
      known_0 (Says claim.speaker claim.left claim.right) (Step.Said i) (said e) (table.claims_in i claim e)

  knows_lift : (a b l r : Principal) → Known (Says a l r) → Known (SpeaksFor a b) → U b → U l → U r → Known (Says b l r)
  knows_lift a b l r k m u v w =
      known_2 (Says a l r) (SpeaksFor a b) (Says b l r) (Step.Lift 0 1) k m (lift refl refl) (u, v, w)

  knows_join : (a b l r : Principal) → Known (Says a l r) → Known (Says b l r) → U (And a b) → U l → U r → Known (Says (And a b) l r)
  knows_join a b l r k m u v w =
      known_2 (Says a l r) (Says b l r) (Says (And a b) l r) (Step.Join 0 1) k m (join refl refl) (u, v, w)

  knows_hand_off : (l t : Principal) → Known (Says t l t) → U l → U t → Known (SpeaksFor l t)
  knows_hand_off l t k u w = known_1 (Says t l t) (SpeaksFor l t) (Step.HandOff 0) k (hand_off refl) (u, w)

  knows_delegate : (a b : Principal) → Known (Says a (Quoting b a) (For b a)) → U (Quoting b a) → U (For b a) →
      Known (SpeaksFor (Quoting b a) (For b a))
  knows_delegate a b k u w =
      known_1 (Says a (Quoting b a) (For b a)) (SpeaksFor (Quoting b a) (For b a)) (Step.Delegate 0) k (delegate refl) (u, w)

  -- what is reached is in the table
  reached_in : {x v : Principal} → Reach U Known anchors x v → U v
  reached_in (itself u) = u
  reached_in (onward r k u) = u
  reached_in (to_both r s u) = u
  reached_in (by_left r) = reached_in r
  reached_in (by_right r) = reached_in r
  reached_in (by_quoting r s u) = u
  reached_in (by_for r s u) = u
  reached_in (by_role r u) = u
  reached_in (by_anchor anchor i e r) = reached_in r

  -- a name that reaches anything is in the table
  name_in : {n : ℕ} {v : Principal} → Reach U Known anchors (Name n) v → U (Name n)
  name_in (itself u) = u
  name_in (onward r k u) = name_in r
  name_in (to_both r s u) = name_in r

  -- a member of the table is known to speak for what it reaches
  reached_known : {x v : Principal} → Reach U Known anchors x v → U x → Known (SpeaksFor x v)
  reached_known {x} (itself w) u = knows_same x u
  reached_known {x} (onward {u = y} {v = v} r k w) u = knows_chain x y v (reached_known r u) k u w
  reached_known {x} (to_both {u = y} {v = z} r s w) u = knows_both y z x (reached_known r u) (reached_known s u) u w
  reached_known (by_left {a} {b} {v} r) u =
      let ua : U a = and_left a b u in
      knows_chain (And a b) a v (knows_left a b u) (reached_known r ua) u (reached_in r)
  reached_known (by_right {a} {b} {v} r) u =
      let ub : U b = and_right a b u in
      knows_chain (And a b) b v (knows_right a b u) (reached_known r ub) u (reached_in r)
  reached_known (by_quoting {a} {b} {u = y} {v = z} r s w) u =
      knows_quoting a y b z (reached_known r (quoting_left a b u)) (reached_known s (quoting_right a b u)) u w
  reached_known (by_for {a} {b} {u = y} {v = z} r s w) u =
      knows_for a y b z (reached_known r (for_left a b u)) (reached_known s (for_right a b u)) u w
  reached_known (by_role {a} {u = y} {r = n} r w) u =
      knows_role_under a y n (reached_known r (role_holder a n u)) u w
  reached_known (by_anchor {v} anchor i e r) u =
      let w : U (Name anchor.name) = name_in r in
      knows_chain (Key anchor.key) (Name anchor.name) v (knows_anchor i anchor e u w) (reached_known r w) u (reached_in r)

  -- what a judgement means for the table
  abbrev Means : Judgement → Type 0
  Means = Comes U Known anchors

  -- a member of the table that is known to speak for another reaches what that one reaches
  known_means : (a b : Principal) → Known (SpeaksFor a b) → U a → U b → Means (SpeaksFor a b)
  known_means a b k u w v r = onward (onward (itself u) k w) (reached_known r w) (reached_in r)

  -- one law for each rule
  means_same : (a : Principal) → Means (SpeaksFor a a)
  means_same a v r = r

  means_chain : (a b c : Principal) → Means (SpeaksFor a b) → Means (SpeaksFor b c) → Means (SpeaksFor a c)
  means_chain a b c m n v r = m v (n v r)

  means_left : (a b : Principal) → Means (SpeaksFor (And a b) a)
  means_left a b v r = by_left r

  means_right : (a b : Principal) → Means (SpeaksFor (And a b) b)
  means_right a b v r = by_right r

  means_both : {a b v : Principal} (c : Principal) → Means (SpeaksFor c a) → Means (SpeaksFor c b) →
      Reach U Known anchors (And a b) v → Reach U Known anchors c v
  means_both {a} {b} c m n (itself u) =
      to_both (m a (itself (and_left a b u))) (n b (itself (and_right a b u))) u
  means_both c m n (onward r k u) = onward (means_both c m n r) k u
  means_both c m n (to_both r s u) = to_both (means_both c m n r) (means_both c m n s) u
  means_both c m n (by_left {v = y} r) = m y r
  means_both c m n (by_right {v = y} r) = n y r

  means_quoting : {a' b' v : Principal} (a b : Principal) → Means (SpeaksFor a a') → Means (SpeaksFor b b') →
      Reach U Known anchors (Quoting a' b') v → Reach U Known anchors (Quoting a b) v
  means_quoting {a'} {b'} a b m n (itself u) =
      by_quoting (m a' (itself (quoting_left a' b' u))) (n b' (itself (quoting_right a' b' u))) u
  means_quoting a b m n (onward r k u) = onward (means_quoting a b m n r) k u
  means_quoting a b m n (to_both r s u) = to_both (means_quoting a b m n r) (means_quoting a b m n s) u
  means_quoting a b m n (by_quoting {u = y} {v = z} r s u) = by_quoting (m y r) (n z s) u

  means_for : {a' b' v : Principal} (a b : Principal) → Means (SpeaksFor a a') → Means (SpeaksFor b b') →
      Reach U Known anchors (For a' b') v → Reach U Known anchors (For a b) v
  means_for {a'} {b'} a b m n (itself u) =
      by_for (m a' (itself (for_left a' b' u))) (n b' (itself (for_right a' b' u))) u
  means_for a b m n (onward r k u) = onward (means_for a b m n r) k u
  means_for a b m n (to_both r s u) = to_both (means_for a b m n r) (means_for a b m n s) u
  means_for a b m n (by_for {u = y} {v = z} r s u) = by_for (m y r) (n z s) u

  means_role : {a v : Principal} {n : ℕ} → Reach U Known anchors (InRole a n) v → Reach U Known anchors a v
  means_role {a} {n = n} (itself u) = onward (itself (role_holder a n u)) (knows_role a n u) u
  means_role (onward r k u) = onward (means_role r) k u
  means_role (to_both r s u) = to_both (means_role r) (means_role s) u
  means_role {n = n} (by_role {u = y} r u) = onward r (knows_role y n u) u

  means_role_under : {b v : Principal} {n : ℕ} (a : Principal) → Means (SpeaksFor a b) →
      Reach U Known anchors (InRole b n) v → Reach U Known anchors (InRole a n) v
  means_role_under {b} {n = n} a m (itself u) = by_role (m b (itself (role_holder b n u))) u
  means_role_under a m (onward r k u) = onward (means_role_under a m r) k u
  means_role_under a m (to_both r s u) = to_both (means_role_under a m r) (means_role_under a m s) u
  means_role_under a m (by_role {u = y} r u) = by_role (m y r) u

  means_anchored : (i : ℕ) (anchor : Anchor) → slice_get anchors i ≡ Some anchor → Means (SpeaksFor (Key anchor.key) (Name anchor.name))
  means_anchored i anchor e v r = by_anchor anchor i e r

  means_said : (i : ℕ) (claim : Claim) → slice_get claims i ≡ Some claim → Means (Says claim.speaker claim.left claim.right)
  means_said i claim e =
      let u : U claim.speaker × U claim.left × U claim.right = table.claims_in i claim e in
      (u.1, u.2, λ v r. knows_lift claim.speaker v claim.left claim.right (knows_said i claim e) (reached_known r u.0) (reached_in r) u.1 u.2)

  means_lift : (a b l r : Principal) → Means (Says a l r) → Means (SpeaksFor a b) → Means (Says b l r)
  means_lift a b l r m n = (m.0, m.1, λ v s. m.2 v (n v s))

  joined : {a b v : Principal} (l r : Principal) → Means (Says a l r) → Means (Says b l r) →
      Reach U Known anchors (And a b) v → Known (Says v l r)
  joined {a} {b} l r m n (itself u) =
      knows_join a b l r (m.2 a (itself (and_left a b u))) (n.2 b (itself (and_right a b u))) u m.0 m.1
  joined l r m n (onward {u = y} {v = z} s k u) = knows_lift y z l r (joined l r m n s) k u m.0 m.1
  joined l r m n (to_both {u = y} {v = z} s t u) = knows_join y z l r (joined l r m n s) (joined l r m n t) u m.0 m.1
  joined l r m n (by_left {v = y} s) = m.2 y s
  joined l r m n (by_right {v = y} s) = n.2 y s

  means_join : (a b l r : Principal) → Means (Says a l r) → Means (Says b l r) → Means (Says (And a b) l r)
  means_join a b l r m n = (m.0, m.1, λ v s. joined l r m n s)

  means_hand_off : (l t : Principal) → Means (Says t l t) → Means (SpeaksFor l t)
  means_hand_off l t m = known_means l t (knows_hand_off l t (m.2 t (itself m.1)) m.0 m.1) m.0 m.1

  means_delegate : (a b : Principal) → Means (Says a (Quoting b a) (For b a)) → Means (SpeaksFor (Quoting b a) (For b a))
  means_delegate a b m =
      let u : U a = quoting_right b a m.0 in
      known_means (Quoting b a) (For b a) (knows_delegate a b (m.2 a (itself u)) m.0 m.1) m.0 m.1

  -- all rules together
  means_kept : IsKept Means anchors claims
  means_kept earlier l all (same {a}) = means_same a
  means_kept earlier l all (chain {a} {b} {c} {i} {j} p q) =
      means_chain a b c (All-at Means earlier i (SpeaksFor a b) all p) (All-at Means earlier j (SpeaksFor b c) all q)
  means_kept earlier l all (left {a} {b}) = means_left a b
  means_kept earlier l all (right {a} {b}) = means_right a b
  means_kept earlier l all (both {a} {b} {c} {i} {j} p q) =
      λ v. means_both c (All-at Means earlier i (SpeaksFor c a) all p) (All-at Means earlier j (SpeaksFor c b) all q)
  means_kept earlier l all (quoting {a} {a'} {b} {b'} {i} {j} p q) =
      λ v. means_quoting a b (All-at Means earlier i (SpeaksFor a a') all p) (All-at Means earlier j (SpeaksFor b b') all q)
  means_kept earlier l all (for_both {a} {a'} {b} {b'} {i} {j} p q) =
      λ v. means_for a b (All-at Means earlier i (SpeaksFor a a') all p) (All-at Means earlier j (SpeaksFor b b') all q)
  means_kept earlier l all (role {a} {r}) = λ v. means_role
  means_kept earlier l all (role_under {a} {b} {r} {i} p) = λ v. means_role_under a (All-at Means earlier i (SpeaksFor a b) all p)
  means_kept earlier l all (anchored {anchor} {i} e) = means_anchored i anchor e
  means_kept earlier l all (said {claim} {i} e) = means_said i claim e
  means_kept earlier l all (lift {a} {b} {l = m} {r} {i} {j} p q) =
      means_lift a b m r (All-at Means earlier i (Says a m r) all p) (All-at Means earlier j (SpeaksFor a b) all q)
  means_kept earlier l all (join {a} {b} {l = m} {r} {i} {j} p q) =
      means_join a b m r (All-at Means earlier i (Says a m r) all p) (All-at Means earlier j (Says b m r) all q)
  means_kept earlier l all (hand_off {l = m} {t} {i} p) = means_hand_off m t (All-at Means earlier i (Says t m t) all p)
  means_kept earlier l all (delegate {a} {b} {i} p) =
      means_delegate a b (All-at Means earlier i (Says a (Quoting b a) (For b a)) all p)

  -- a derivable fact within the table is known
  means_known : (fact : Judgement) → IsWithin U fact → Means fact → Known fact
  means_known (SpeaksFor a b) w m = reached_known (m b (itself w.1)) w.0
  means_known (Says a l r) w m = m.2 a (itself w.0)

  pub complete : (fact : Judgement) → IsWithin U fact → Derivable anchors claims fact → Known fact
  complete fact w d = means_known fact w (rule_induction Means anchors claims means_kept fact d)

pub has_every_fact : (anchors : List Anchor) (claims : List Claim) (table : List Principal) (known : List Judgement) →
    HasEveryFact anchors claims table known
has_every_fact anchors claims table known t s fact w d =
    complete (Contains table) (Contains known) anchors claims t s fact w d

pub keeps_reach : (anchors : List Anchor) (claims : List Claim) (table : List Principal) (known : List Judgement) →
    KeepsReach anchors claims table known
keeps_reach anchors claims table known t s earlier l all f =
    means_kept (Contains table) (Contains known) anchors claims t s earlier l all f

pub knows_reach : (anchors : List Anchor) (claims : List Claim) (table : List Principal) (known : List Judgement) →
    KnowsReach anchors claims table known
knows_reach anchors claims table known t s x v u r =
    reached_known (Contains table) (Contains known) anchors claims t s r u
