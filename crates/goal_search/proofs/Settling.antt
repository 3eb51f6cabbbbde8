-- Where p answers a goal and is a target, each finished row that begins with the goal has p.
--
-- The rows have targets alone, while a derivation may go through any principal. So say of any principal whether it *arrives* at a row:
-- it is in the row, or its parts are there as the rules put them together. Each rule keeps this: where `a => c`, c arrives at each finished
-- row at which a arrives; where `a says s`, a arrives at each finished row that has the speakers of s. And of what arrives the targets are in
-- the row.
use Rattle.std.proofs.Common.{◌≡◌, ◌⊎◌, inl, inr, ℕ, List, slice_get, Some, refl, sym, subst, lit<}
use Rattle.prin_term.specs.declared.term.Anchor.{Anchor}
use Rattle.prin_term.specs.Principal.{Principal, Key, Name, And, Quoting, InRole, For}
use Rattle.taos_calculus.specs.Rules.{Claim, Judgement, SpeaksFor, Says, same, chain, left, right, both, quoting, for_both, role, role_under, anchored, said, lift, join, hand_off, delegate}
use Rattle.taos_calculus.proofs.Induction.{All-at, IsKept, rule_induction}
use Rattle.goal_search.specs.Goals.{Goal, ForWhom, WhoSays, Begins, IsAnswer}
use Rattle.goal_search.specs.Rows.{AreTargets}

-- either Q, or a finished row begins with the goal, and Q if it has t
pub data Settles {X : Type 0} (Finished : X → Type 0) (Has : X → Principal → Type 0) (claims : List Claim) (goal : Goal Principal) (t : Principal) (Q : Type 0) : Type 0 where
  already : Q → Settles Finished Has claims goal t Q
  asks : (y : X) → Finished y → Begins Has claims goal y → (Has y t → Q) → Settles Finished Has claims goal t Q

-- both ways of being finished come to this
pub record IsSettled {X : Type 0} (U : Principal → Type 0) (anchors : List Anchor) (claims : List Claim)
    (Finished : X → Type 0) (Has : X → Principal → Type 0) (x : X) : Type 0 where
  pub left : (a b : Principal) → Has x (And a b) → Has x a
  pub right : (a b : Principal) → Has x (And a b) → Has x b
  pub both : (a b : Principal) → Has x a → Has x b → U (And a b) → Has x (And a b)
  pub role : (a : Principal) (r : ℕ) → Has x a → U (InRole a r) → Has x (InRole a r)
  pub anchored : (i : ℕ) (anchor : Anchor) → slice_get anchors i ≡ Some anchor →
      Has x (Key anchor.key) → U (Name anchor.name) → Has x (Name anchor.name)
  pub quoting : (a b c d : Principal) → Has x (Quoting a b) → U (Quoting c d) →
      Settles Finished Has claims (ForWhom a) c (Settles Finished Has claims (ForWhom b) d (Has x (Quoting c d)))
  pub for_both : (a b c d : Principal) → Has x (For a b) → U (For c d) →
      Settles Finished Has claims (ForWhom a) c (Settles Finished Has claims (ForWhom b) d (Has x (For c d)))
  pub role_under : (a c : Principal) (r : ℕ) → Has x (InRole a r) → U (InRole c r) →
      Settles Finished Has claims (ForWhom a) c (Has x (InRole c r))
  pub hand_off : (i : ℕ) (claim : Claim) → slice_get claims i ≡ Some claim → Has x claim.left →
      Settles Finished Has claims (WhoSays claim.left claim.right) claim.right (Has x claim.right)
  pub delegate : (i : ℕ) (claim : Claim) (a b : Principal) → slice_get claims i ≡ Some claim →
      claim.left ≡ Quoting b a → claim.right ≡ For b a → Has x claim.left →
      Settles Finished Has claims (WhoSays claim.left claim.right) a (Has x claim.right)

-- some certificate states `l => r`
pub record IsStated (claims : List Claim) (l r : Principal) : Type 0 where
  pub place : ℕ
  pub claim : Claim
  pub stands : slice_get claims place ≡ Some claim
  pub left : claim.left ≡ l
  pub right : claim.right ≡ r

module _ {X : Type 0} (anchors : List Anchor) (Finished : X → Type 0) (Has : X → Principal → Type 0) where
  record ByAnchor (x : X) (n : ℕ) : Type 0 where
    anchor : Anchor
    place : ℕ
    stands : slice_get anchors place ≡ Some anchor
    name : anchor.name ≡ n
    has : Has x (Key anchor.key)

  -- the row has a compound whose operands speak for these, as far as the finished rows of them tell
  record ByOperands (Form : Principal → Principal → Principal) (x : X) (C D : X → Type 0) : Type 0 where
    a : Principal
    b : Principal
    has : Has x (Form a b)
    first : (y : X) → Finished y → Has y a → C y
    second : (y : X) → Finished y → Has y b → D y

  record ByHolder (x : X) (r : ℕ) (C : X → Type 0) : Type 0 where
    a : Principal
    has : Has x (InRole a r)
    first : (y : X) → Finished y → Has y a → C y

  -- what row x would have if each principal were looked at
  Arrives : Principal → X → Type 0
  Arrives (Key k) x = Has x (Key k)
  Arrives (Name n) x = Has x (Name n) ⊎ ByAnchor x n
  Arrives (And a b) x = Has x (And a b) ⊎ (Arrives a x × Arrives b x)
  Arrives (Quoting c d) x = Has x (Quoting c d) ⊎ ByOperands Quoting x (Arrives c) (Arrives d)
  Arrives (InRole c r) x = Has x (InRole c r) ⊎ Arrives c x ⊎ ByHolder x r (Arrives c)
  Arrives (For c d) x = Has x (For c d) ⊎ ByOperands For x (Arrives c) (Arrives d)

  has_arrives : (p : Principal) (x : X) → Has x p → Arrives p x
  unfolding Arrives
  has_arrives (Key k) x h = h
  has_arrives (Name n) x h = inl h
  has_arrives (And a b) x h = inl h
  has_arrives (Quoting a b) x h = inl h
  has_arrives (InRole a r) x h = inl h
  has_arrives (For a b) x h = inl h

  module _ (U : Principal → Type 0) (claims : List Claim) (targets : AreTargets U claims Finished Has)
      (settled : (x : X) → Finished x → IsSettled U anchors claims Finished Has x) where
    settle : {Q : Type 0} (goal : Goal Principal) (t : Principal) (C : X → Type 0) → ((y : X) → Finished y → Begins Has claims goal y → C y) →
        ((y : X) → Finished y → C y → Has y t) → Settles Finished Has claims goal t Q → Q
    settle goal t C s has (already q) = q
    settle goal t C s has (asks y f h q) = q (has y f (s y f h))

    -- a target that arrives is in the row
    arrives_has : (p : Principal) (x : X) → Finished x → U p → Arrives p x → Has x p
    unfolding Arrives
    arrives_has (Key k) x f u h = h
    arrives_has (Name n) x f u (inl h) = h
    arrives_has (Name n) x f u (inr s) =
        subst (λ m. Has x (Name m)) s.name ((settled x f).anchored s.place s.anchor s.stands s.has (subst (λ m. U (Name m)) (sym s.name) u))
    arrives_has (And a b) x f u (inl h) = h
    arrives_has (And a b) x f u (inr h) =
        (settled x f).both a b
        (arrives_has a x f (targets.operands_in (And a b) u 0 a (lit< tt)) h.0)
        (arrives_has b x f (targets.operands_in (And a b) u 1 b (lit< tt)) h.1) u
    arrives_has (Quoting c d) x f u (inl h) = h
    arrives_has (Quoting c d) x f u (inr s) =
        let uc : U c = targets.operands_in (Quoting c d) u 0 c (lit< tt) in
        let ud : U d = targets.operands_in (Quoting c d) u 1 d (lit< tt) in
        settle (ForWhom s.b) d (Arrives d) s.second (λ y g h. arrives_has d y g ud h)
        (settle (ForWhom s.a) c (Arrives c) s.first (λ y g h. arrives_has c y g uc h) ((settled x f).quoting s.a s.b c d s.has u))
    arrives_has (InRole c r) x f u (inl h) = h
    arrives_has (InRole c r) x f u (inr (inl h)) =
        (settled x f).role c r (arrives_has c x f (targets.operands_in (InRole c r) u 0 c (lit< tt)) h) u
    arrives_has (InRole c r) x f u (inr (inr s)) =
        let uc : U c = targets.operands_in (InRole c r) u 0 c (lit< tt) in
        settle (ForWhom s.a) c (Arrives c) s.first (λ y g h. arrives_has c y g uc h) ((settled x f).role_under s.a c r s.has u)
    arrives_has (For c d) x f u (inl h) = h
    arrives_has (For c d) x f u (inr s) =
        let uc : U c = targets.operands_in (For c d) u 0 c (lit< tt) in
        let ud : U d = targets.operands_in (For c d) u 1 d (lit< tt) in
        settle (ForWhom s.b) d (Arrives d) s.second (λ y g h. arrives_has d y g ud h)
        (settle (ForWhom s.a) c (Arrives c) s.first (λ y g h. arrives_has c y g uc h) ((settled x f).for_both s.a s.b c d s.has u))

    -- what a judgement means for the finished rows
    abbrev Means : Judgement → Type 0
    Means (SpeaksFor a c) = (x : X) → Finished x → Arrives a x → Arrives c x
    Means (Says a l r) = IsStated claims l r × ((x : X) → Finished x → Begins Has claims (WhoSays l r) x → Arrives a x)

    -- the same from what is in a row
    from_has : (a c : Principal) → Means (SpeaksFor a c) → (x : X) → Finished x → Has x a → Arrives c x
    from_has a c m x f h = m x f (has_arrives a x h)

    -- one law for each rule that is more than a closure of a row
    means_left : (a b : Principal) → Means (SpeaksFor (And a b) a)
    unfolding Arrives
    means_left a b x f (inl h) = has_arrives a x ((settled x f).left a b h)
    means_left a b x f (inr h) = h.0

    means_right : (a b : Principal) → Means (SpeaksFor (And a b) b)
    unfolding Arrives
    means_right a b x f (inl h) = has_arrives b x ((settled x f).right a b h)
    means_right a b x f (inr h) = h.1

    both_arrive : (a b : Principal) (x : X) → Arrives a x → Arrives b x → Arrives (And a b) x
    unfolding Arrives
    both_arrive a b x h k = inr (h, k)

    means_quoting : (a a' b b' : Principal) → Means (SpeaksFor a a') → Means (SpeaksFor b b') → Means (SpeaksFor (Quoting a b) (Quoting a' b'))
    unfolding Arrives
    means_quoting a a' b b' m n x f (inl h) =
        inr (record { a = a; b = b; has = h; first = from_has a a' m; second = from_has b b' n })
    means_quoting a a' b b' m n x f (inr s) =
        inr (record { a = s.a; b = s.b; has = s.has; first = λ y g h. m y g (s.first y g h); second = λ y g h. n y g (s.second y g h) })

    means_for : (a a' b b' : Principal) → Means (SpeaksFor a a') → Means (SpeaksFor b b') → Means (SpeaksFor (For a b) (For a' b'))
    unfolding Arrives
    means_for a a' b b' m n x f (inl h) =
        inr (record { a = a; b = b; has = h; first = from_has a a' m; second = from_has b b' n })
    means_for a a' b b' m n x f (inr s) =
        inr (record { a = s.a; b = s.b; has = s.has; first = λ y g h. m y g (s.first y g h); second = λ y g h. n y g (s.second y g h) })

    means_role : (a : Principal) (r : ℕ) → Means (SpeaksFor a (InRole a r))
    unfolding Arrives
    means_role a r x f h = inr (inl h)

    means_role_under : (a b : Principal) (r : ℕ) → Means (SpeaksFor a b) → Means (SpeaksFor (InRole a r) (InRole b r))
    unfolding Arrives
    means_role_under a b r m x f (inl h) = inr (inr (record { a = a; has = h; first = from_has a b m }))
    means_role_under a b r m x f (inr (inl h)) = inr (inl (m x f h))
    means_role_under a b r m x f (inr (inr s)) = inr (inr (record { a = s.a; has = s.has; first = λ y g h. m y g (s.first y g h) }))

    means_anchored : (i : ℕ) (anchor : Anchor) → slice_get anchors i ≡ Some anchor → Means (SpeaksFor (Key anchor.key) (Name anchor.name))
    unfolding Arrives
    means_anchored i anchor e x f h = inr (record { anchor = anchor; place = i; stands = e; name = refl; has = h })

    means_said : (i : ℕ) (claim : Claim) → slice_get claims i ≡ Some claim → Means (Says claim.speaker claim.left claim.right)
    means_said i claim e = (
      record { place = i; claim = claim; stands = e; left = refl; right = refl },
      λ x f h. has_arrives claim.speaker x (h i claim e refl refl),
    )

    hear : {Q : Type 0} (l r t : Principal) → Means (Says t l r) → U t → Settles Finished Has claims (WhoSays l r) t Q → Q
    hear l r t m u q = settle (WhoSays l r) t (Arrives t) m.1 (λ y f h. arrives_has t y f u h) q

    -- the left side of a claim that arrives is in the row, and the right side is a target
    met : (l r : Principal) (s : IsStated claims l r) (x : X) → Finished x → Arrives l x → Has x s.claim.left
    met l r s x f h =
        arrives_has s.claim.left x f (targets.left_in s.place s.claim s.stands) (subst (λ p. Arrives p x) (sym s.left) h)

    means_hand_off : (l t : Principal) → Means (Says t l t) → Means (SpeaksFor l t)
    means_hand_off l t m x f h =
        let s : IsStated claims l t = m.0 in
        let k : Has x s.claim.left = met l t s x f h in
        let u : U t = subst U s.right (targets.right_in s.place s.claim x s.stands f k) in
        let say : Settles Finished Has claims (WhoSays l t) t (Has x t) =
        subst (λ r. Settles Finished Has claims (WhoSays l r) r (Has x r)) s.right
        (subst (λ p. Settles Finished Has claims (WhoSays p s.claim.right) s.claim.right (Has x s.claim.right)) s.left
        ((settled x f).hand_off s.place s.claim s.stands k)) in
        has_arrives t x (hear l t t m u say)

    means_delegate : (a b : Principal) → Means (Says a (Quoting b a) (For b a)) → Means (SpeaksFor (Quoting b a) (For b a))
    means_delegate a b m x f h =
        let s : IsStated claims (Quoting b a) (For b a) = m.0 in
        let k : Has x s.claim.left = met (Quoting b a) (For b a) s x f h in
        let u : U (For b a) = subst U s.right (targets.right_in s.place s.claim x s.stands f k) in
        let say : Settles Finished Has claims (WhoSays (Quoting b a) (For b a)) a (Has x (For b a)) =
        subst (λ r. Settles Finished Has claims (WhoSays (Quoting b a) r) a (Has x r)) s.right
        (subst (λ p. Settles Finished Has claims (WhoSays p s.claim.right) a (Has x s.claim.right)) s.left
        ((settled x f).delegate s.place s.claim a b s.stands s.left s.right k)) in
        has_arrives (For b a) x (hear (Quoting b a) (For b a) a m (targets.operands_in (For b a) u 1 a (lit< tt)) say)

    means_kept : IsKept Means anchors claims
    means_kept earlier l all (same {a}) = λ x f h. h
    means_kept earlier l all (chain {a} {b} {c} {i} {j} p q) =
        let m : Means (SpeaksFor a b) = All-at Means earlier i (SpeaksFor a b) all p in
        let n : Means (SpeaksFor b c) = All-at Means earlier j (SpeaksFor b c) all q in
        λ x f h. n x f (m x f h)
    means_kept earlier l all (left {a} {b}) = means_left a b
    means_kept earlier l all (right {a} {b}) = means_right a b
    means_kept earlier l all (both {a} {b} {c} {i} {j} p q) =
        let m : Means (SpeaksFor c a) = All-at Means earlier i (SpeaksFor c a) all p in
        let n : Means (SpeaksFor c b) = All-at Means earlier j (SpeaksFor c b) all q in
        λ x f h. both_arrive a b x (m x f h) (n x f h)
    means_kept earlier l all (quoting {a} {a'} {b} {b'} {i} {j} p q) =
        means_quoting a a' b b' (All-at Means earlier i (SpeaksFor a a') all p) (All-at Means earlier j (SpeaksFor b b') all q)
    means_kept earlier l all (for_both {a} {a'} {b} {b'} {i} {j} p q) =
        means_for a a' b b' (All-at Means earlier i (SpeaksFor a a') all p) (All-at Means earlier j (SpeaksFor b b') all q)
    means_kept earlier l all (role {a} {r}) = means_role a r
    means_kept earlier l all (role_under {a} {b} {r} {i} p) = means_role_under a b r (All-at Means earlier i (SpeaksFor a b) all p)
    means_kept earlier l all (anchored {anchor} {i} e) = means_anchored i anchor e
    means_kept earlier l all (said {claim} {i} e) = means_said i claim e
    means_kept earlier l all (lift {a} {b} {l = y} {r} {i} {j} p q) =
        let m : Means (Says a y r) = All-at Means earlier i (Says a y r) all p in
        let n : Means (SpeaksFor a b) = All-at Means earlier j (SpeaksFor a b) all q in
        (m.0, λ x f h. n x f (m.1 x f h))
    means_kept earlier l all (join {a} {b} {l = y} {r} {i} {j} p q) =
        let m : Means (Says a y r) = All-at Means earlier i (Says a y r) all p in
        let n : Means (Says b y r) = All-at Means earlier j (Says b y r) all q in
        (m.0, λ x f h. both_arrive a b x (m.1 x f h) (n.1 x f h))
    means_kept earlier l all (hand_off {l = y} {t} {i} p) = means_hand_off y t (All-at Means earlier i (Says t y t) all p)
    means_kept earlier l all (delegate {a} {b} {i} p) = means_delegate a b (All-at Means earlier i (Says a (Quoting b a) (For b a)) all p)

    -- a finished row that begins with the goal has what answers it, of the targets
    pub has_answer : (goal : Goal Principal) (p : Principal) → U p → IsAnswer anchors claims goal p → (x : X) → Finished x → Begins Has claims goal x → Has x p
    has_answer (ForWhom a) p u d x f h =
        arrives_has p x f u (from_has a p (rule_induction Means anchors claims means_kept (SpeaksFor a p) d) x f h)
    has_answer (WhoSays l r) p u d x f h =
        arrives_has p x f u ((rule_induction Means anchors claims means_kept (Says p l r) d).1 x f h)
