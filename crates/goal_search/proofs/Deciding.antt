-- Both ways of being finished decide: by what finished rows refuse, and by the plain demand.
use Rattle.std.proofs.Common.{◌≡◌, ◌⊎◌, inl, inr, List, Contains}
use Rattle.prin_term.specs.declared.term.Anchor.{Anchor}
use Rattle.prin_term.specs.Principal.{Principal, Quoting, For}
use Rattle.taos_calculus.specs.Rules.{Claim}
use Rattle.goal_search.specs.Goals.{Goal, ForWhom, WhoSays, Begins, IsAnswer}
use Rattle.goal_search.specs.Rows.{AreTargets, Refuses, IsUnheard, IsFinished}
use Rattle.goal_search.specs.Demands.{Demands, who_quotes, is_quoted, who_acts, is_acted_for, has_role, is_stated, IsClosed}
use Rattle.goal_search.specs.Decided.{RowsDecide, RowsRefute, AskedDecide, IsInRow}
use Rattle.goal_search.proofs.Settling.{Settles, already, asks, IsSettled, has_answer}

module _ {X : Type 0} (U : Principal → Type 0) (anchors : List Anchor) (claims : List Claim)
    (Finished : X → Type 0) (Has : X → Principal → Type 0) where
  refuse : {Q : Type 0} (goal : Goal Principal) (p : Principal) → Refuses Finished Has claims goal p → Settles Finished Has claims goal p Q
  refuse goal p r = asks r.row r.finished r.begins (λ h. absurd (r.lacks h))

  two : {Q : Type 0} (a b c d : Principal) → Q ⊎ Refuses Finished Has claims (ForWhom a) c ⊎ Refuses Finished Has claims (ForWhom b) d →
      Settles Finished Has claims (ForWhom a) c (Settles Finished Has claims (ForWhom b) d Q)
  two a b c d (inl q) = already (already q)
  two a b c d (inr (inl r)) = refuse (ForWhom a) c r
  two a b c d (inr (inr r)) = already (refuse (ForWhom b) d r)

  one : {Q : Type 0} (a c : Principal) → Q ⊎ Refuses Finished Has claims (ForWhom a) c → Settles Finished Has claims (ForWhom a) c Q
  one a c (inl q) = already q
  one a c (inr r) = refuse (ForWhom a) c r

  by_right : {Q : Type 0} (l r : Principal) → Q ⊎ IsUnheard Finished Has claims l r → Settles Finished Has claims (WhoSays l r) r Q
  by_right l r (inl q) = already q
  by_right l r (inr u) = refuse (WhoSays l r) r u.by_right

  by_delegator : {Q : Type 0} (l r a b : Principal) → l ≡ Quoting b a → r ≡ For b a →
      Q ⊎ IsUnheard Finished Has claims l r → Settles Finished Has claims (WhoSays l r) a Q
  by_delegator l r a b e f (inl q) = already q
  by_delegator l r a b e f (inr u) = refuse (WhoSays l r) a (u.by_delegator a b e f)

  finished_settled : (x : X) → IsFinished U anchors claims Finished Has x → IsSettled U anchors claims Finished Has x
  finished_settled x d = record {
    left = d.left;
    right = d.right;
    both = d.both;
    role = d.role;
    anchored = d.anchored;
    quoting = λ a b c e h u. two a b c e (d.quoting a b c e h u);
    for_both = λ a b c e h u. two a b c e (d.for_both a b c e h u);
    role_under = λ a c r h u. one a c (d.role_under a c r h u);
    hand_off = λ i claim e h. by_right claim.left claim.right (d.handed i claim e h);
    delegate = λ i claim a b e f g h. by_delegator claim.left claim.right a b f g (d.handed i claim e h);
  }

  -- a finished row that begins with the goal has what answers it, of the targets
  pub finished_has : AreTargets U claims Finished Has → ((x : X) → Finished x → IsFinished U anchors claims Finished Has x) →
      (goal : Goal Principal) (p : Principal) → U p → IsAnswer anchors claims goal p → (x : X) → Finished x → Begins Has claims goal x → Has x p
  finished_has targets finished =
      has_answer anchors Finished Has U claims targets (λ x f. finished_settled x (finished x f))

pub rows_decide : (anchors : List Anchor) (claims : List Claim) (table : List Principal) (rows : List (List Principal)) →
    RowsDecide anchors claims table rows
rows_decide anchors claims table rows targets finished row goal f b sound p w = (
  λ d. finished_has (Contains table) anchors claims (Contains rows) Contains targets finished goal p w d row f b,
  sound p,
)

pub rows_refute : (anchors : List Anchor) (claims : List Claim) (table : List Principal) (rows : List (List Principal)) →
    RowsRefute anchors claims table rows
rows_refute anchors claims table rows targets finished goal p w r d =
    r.lacks (finished_has (Contains table) anchors claims (Contains rows) Contains targets finished goal p w d r.row r.finished r.begins)

module _ (U : Principal → Type 0) (anchors : List Anchor) (claims : List Claim)
    (Asked : Goal Principal → Type 0) (Has : Goal Principal → Principal → Type 0)
    (demanded : (goal more : Goal Principal) → Asked goal → Demands (Has goal) claims more → Asked more)
    (closed : (goal : Goal Principal) → Asked goal → IsClosed U anchors claims Has goal) where
  -- a row that is asked for begins with its goal
  ask : {Q : Type 0} (goal : Goal Principal) (p : Principal) → Asked goal → (Has goal p → Q) → Settles Asked Has claims goal p Q
  ask goal p g q = asks goal g (closed goal g).begins q

  closed_settled : (goal : Goal Principal) → Asked goal → IsSettled U anchors claims Asked Has goal
  closed_settled goal g =
      let d : IsClosed U anchors claims Has goal = closed goal g in
      record {
        left = d.left;
        right = d.right;
        both = d.both;
        role = d.role;
        anchored = d.anchored;
        quoting = λ a b c e k u.
            ask (ForWhom a) c (demanded goal (ForWhom a) g (who_quotes {b = b} k)) (λ m.
            ask (ForWhom b) e (demanded goal (ForWhom b) g (is_quoted {a = a} k)) (λ n. d.quoting a b c e k u m n));
        for_both = λ a b c e k u.
            ask (ForWhom a) c (demanded goal (ForWhom a) g (who_acts {b = b} k)) (λ m.
            ask (ForWhom b) e (demanded goal (ForWhom b) g (is_acted_for {a = a} k)) (λ n. d.for_both a b c e k u m n));
        role_under = λ a c r k u.
            ask (ForWhom a) c (demanded goal (ForWhom a) g (has_role {r = r} k)) (λ m. d.role_under a c r k u m);
        hand_off = λ i claim e k.
            ask (WhoSays claim.left claim.right) claim.right (demanded goal (WhoSays claim.left claim.right) g (is_stated {claim = claim} i e k))
            (λ m. d.hand_off i claim e k m);
        delegate = λ i claim a b e l r k.
            ask (WhoSays claim.left claim.right) a (demanded goal (WhoSays claim.left claim.right) g (is_stated {claim = claim} i e k))
            (λ m. d.delegate i claim a b e l r k m);
      }

  pub asked_has : AreTargets U claims Asked Has → (goal : Goal Principal) (p : Principal) → Asked goal → U p → IsAnswer anchors claims goal p → Has goal p
  asked_has targets goal p g u d =
      has_answer anchors Asked Has U claims targets closed_settled goal p u d goal g (closed goal g).begins

pub asked_decide : (anchors : List Anchor) (claims : List Claim) (table : List Principal) (asked : List (Goal Principal)) (row : Goal Principal → List Principal) →
    AskedDecide anchors claims table asked row
asked_decide anchors claims table asked row targets demanded closed sound goal g p w = (
  λ d. asked_has (Contains table) anchors claims (Contains asked) (IsInRow row) demanded closed targets goal p g w d,
  sound goal g p,
)
