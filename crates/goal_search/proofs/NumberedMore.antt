-- What stays of rows of numbers when certificates are added.
use Rattle.std.proofs.Common.{◌≡◌, ◌⊎◌, inl, inr, ℕ, ◌<◌, List, slice_get, Some, sym, subst, length, Contains}
use Rattle.prin_term.specs.declared.term.Anchor.{Anchor}
use Rattle.prin_term.specs.Principal.{Principal}
use Rattle.taos_calculus.specs.declared.line.Node.{Node}
use Rattle.taos_calculus.specs.Rules.{Claim}
use Rattle.taos_calculus.specs.Tables.{named}
use Rattle.taos_calculus.proofs.Staying.{derives_more}
use Rattle.goal_search.specs.Goals.{Goal, ForWhom, WhoSays, judgement_of, IsAnswer}
use Rattle.goal_search.specs.NumberedRows.{IsNamed, goal_by, IsGoalBelow, IsAnswerAt, RefusesAt, IsUnheardAt, IsHandedAt, IsFinishedAt}
use Rattle.goal_search.specs.DecidedNumbers.{NumbersStaySound, UnreachedNumbersAddNothing}

-- a goal means the same where its numbers do
same_goal : (n : ℕ) (p q : ℕ → Principal) → ((i : ℕ) → i < n → q i ≡ p i) → (goal : Goal ℕ) → IsGoalBelow n goal → goal_by p goal ≡ goal_by q goal
same_goal n p q same (ForWhom a) h = let e : q a ≡ p a = same a h in cc
same_goal n p q same (WhoSays l r) h = let e : q l ≡ p l = same l h.0 in let f : q r ≡ p r = same r h.1 in cc

pub numbers_stay_sound : (nodes grown : List Node) (anchors : List Anchor) (claims more : List Claim) → NumbersStaySound nodes grown anchors claims more
numbers_stay_sound nodes grown anchors claims more among same row goal below within sound i h c =
    let k : i < length nodes = within i c in
    let d : IsAnswerAt nodes anchors more goal i = derives_more anchors claims more among (judgement_of (goal_by (named nodes) goal) (named nodes i)) (sound i k c) in
    subst (λ (g : Goal Principal). IsAnswer anchors more g (named grown i)) (same_goal (length nodes) (named nodes) (named grown) same goal below)
    (subst (λ (q : Principal). IsAnswer anchors more (goal_by (named nodes) goal) q) (sym (same i k)) d)

module _ {X : Type 0} (nodes : List Node) (anchors : List Anchor) (claims more : List Claim)
    (Finished : X → Type 0) (Has : X → ℕ → Type 0)
    (added : (i : ℕ) (c : Claim) → slice_get more i ≡ Some c →
    ((k : ℕ) × (slice_get claims k ≡ Some c)) ⊎ ((l : ℕ) (x : X) → IsNamed nodes l c.left → Finished x → Has x l → ⊥)) where
  same_holder : (a i : ℕ) → RefusesAt nodes claims Finished Has (ForWhom a) i → RefusesAt nodes more Finished Has (ForWhom a) i
  same_holder a i r = record { row = r.row; finished = r.finished; begins = r.begins; lacks = r.lacks }

  one_kept : {Q : Type 0} (a c : ℕ) → Q ⊎ RefusesAt nodes claims Finished Has (ForWhom a) c → Q ⊎ RefusesAt nodes more Finished Has (ForWhom a) c
  one_kept a c (inl q) = inl q
  one_kept a c (inr r) = inr (same_holder a c r)

  two_kept : {Q : Type 0} (a b c d : ℕ) → Q ⊎ RefusesAt nodes claims Finished Has (ForWhom a) c ⊎ RefusesAt nodes claims Finished Has (ForWhom b) d →
      Q ⊎ RefusesAt nodes more Finished Has (ForWhom a) c ⊎ RefusesAt nodes more Finished Has (ForWhom b) d
  two_kept a b c d (inl q) = inl q
  two_kept a b c d (inr (inl r)) = inr (inl (same_holder a c r))
  two_kept a b c d (inr (inr r)) = inr (inr (same_holder b d r))

  -- the speakers of a statement about a member are the old ones
  same_speakers : (x : X) (l r t : ℕ) → l < length nodes → Finished x → Has x l →
      RefusesAt nodes claims Finished Has (WhoSays l r) t → RefusesAt nodes more Finished Has (WhoSays l r) t
  same_speakers x l r t n f h s = record {
    row = s.row;
    finished = s.finished;
    begins = λ i claim e p q. still claim p q (added i claim e);
    lacks = s.lacks;
  }
    where
      still : (claim : Claim) → claim.left ≡ named nodes l → claim.right ≡ named nodes r →
          ((k : ℕ) × (slice_get claims k ≡ Some claim)) ⊎ ((l : ℕ) (y : X) → IsNamed nodes l claim.left → Finished y → Has y l → ⊥) →
          (w : ℕ) × IsNamed nodes w claim.speaker × Has s.row w
      still claim p q (inl k) = s.begins k.0 claim k.1 p q
      still claim p q (inr none) = absurd (none l x (n, sym p) f h)

  handed_more : (x : X) (claim : Claim) (l : ℕ) → l < length nodes → Finished x → Has x l →
      IsHandedAt nodes claims Finished Has x claim l → IsHandedAt nodes more Finished Has x claim l
  handed_more x claim l n f h d = record { right = d.right; right_is = d.right_is; handed = go d.handed }
    where
      go : Has x d.right ⊎ IsUnheardAt nodes claims Finished Has l d.right → Has x d.right ⊎ IsUnheardAt nodes more Finished Has l d.right
      go (inl k) = inl k
      go (inr u) = inr (record {
        by_right = same_speakers x l d.right d.right n f h u.by_right;
        by_delegator = λ a b p q. same_speakers x l d.right a n f h (u.by_delegator a b p q);
      })

  still_finished : (x : X) → Finished x → IsFinishedAt nodes anchors claims Finished Has x → IsFinishedAt nodes anchors more Finished Has x
  still_finished x f d = record {
    left = d.left;
    right = d.right;
    both = d.both;
    role = d.role;
    anchored = d.anchored;
    quoting = λ a b c e i j s t h. two_kept a b c e (d.quoting a b c e i j s t h);
    for_both = λ a b c e i j s t h. two_kept a b c e (d.for_both a b c e i j s t h);
    role_under = λ a c r i j s t h. one_kept a c (d.role_under a c r i j s t h);
    handed = λ i l claim e n h. go l claim n h (added i claim e);
  }
    where
      go : (l : ℕ) (claim : Claim) → IsNamed nodes l claim.left → Has x l →
          ((k : ℕ) × (slice_get claims k ≡ Some claim)) ⊎ ((l : ℕ) (y : X) → IsNamed nodes l claim.left → Finished y → Has y l → ⊥) →
          IsHandedAt nodes more Finished Has x claim l
      go l claim n h (inl k) = handed_more x claim l n.0 f h (d.handed k.0 l claim k.1 n h)
      go l claim n h (inr none) = absurd (none l x n f h)

pub unreached_numbers_add_nothing : (nodes : List Node) (anchors : List Anchor) (claims more : List Claim) (rows : List (List ℕ)) →
    UnreachedNumbersAddNothing nodes anchors claims more rows
unreached_numbers_add_nothing nodes anchors claims more rows added finished row f =
    still_finished nodes anchors claims more (Contains rows) Contains added row f (finished row f)
