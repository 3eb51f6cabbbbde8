-- What stays of rows when certificates are added, and when rows are.
use Rattle.std.proofs.Common.{◌≡◌, ◌⊎◌, inl, inr, ℕ, List, slice_get, Some, sym, subst, Contains}
use Rattle.prin_term.specs.declared.term.Anchor.{Anchor}
use Rattle.prin_term.specs.Principal.{Principal}
use Rattle.taos_calculus.specs.Rules.{Claim}
use Rattle.taos_calculus.proofs.Staying.{derives_more}
use Rattle.goal_search.specs.Goals.{Goal, ForWhom, WhoSays, judgement_of}
use Rattle.goal_search.specs.Rows.{Refuses, IsUnheard, IsFinished}
use Rattle.goal_search.specs.Decided.{RowsStaySound, UnreachedAddsNothing, RowsAddUp}

pub stay_sound : (anchors : List Anchor) (claims more : List Claim) → RowsStaySound anchors claims more
stay_sound anchors claims more among row goal sound p c = derives_more anchors claims more among (judgement_of goal p) (sound p c)

-- finished rows stay finished where what they refuse of others is refused in the end
module _ {X : Type 0} (U : Principal → Type 0) (anchors : List Anchor) (claims more : List Claim)
    (Finished After : X → Type 0) (Has : X → Principal → Type 0) where
  module _ (kept : (a p : Principal) → Refuses Finished Has claims (ForWhom a) p → Refuses After Has more (ForWhom a) p) where
    one_kept : {Q : Type 0} (a c : Principal) → Q ⊎ Refuses Finished Has claims (ForWhom a) c → Q ⊎ Refuses After Has more (ForWhom a) c
    one_kept a c (inl q) = inl q
    one_kept a c (inr r) = inr (kept a c r)

    two_kept : {Q : Type 0} (a b c d : Principal) → Q ⊎ Refuses Finished Has claims (ForWhom a) c ⊎ Refuses Finished Has claims (ForWhom b) d →
        Q ⊎ Refuses After Has more (ForWhom a) c ⊎ Refuses After Has more (ForWhom b) d
    two_kept a b c d (inl q) = inl q
    two_kept a b c d (inr (inl r)) = inr (inl (kept a c r))
    two_kept a b c d (inr (inr r)) = inr (inr (kept b d r))

    finished_kept : (x : X) → IsFinished U anchors claims Finished Has x →
        ((i : ℕ) (claim : Claim) → slice_get more i ≡ Some claim → Has x claim.left → Has x claim.right ⊎ IsUnheard After Has more claim.left claim.right) →
        IsFinished U anchors more After Has x
    finished_kept x d handed = record {
      left = d.left;
      right = d.right;
      both = d.both;
      role = d.role;
      anchored = d.anchored;
      quoting = λ a b c e h u. two_kept a b c e (d.quoting a b c e h u);
      for_both = λ a b c e h u. two_kept a b c e (d.for_both a b c e h u);
      role_under = λ a c r h u. one_kept a c (d.role_under a c r h u);
      handed = handed;
    }

module _ {X : Type 0} (U : Principal → Type 0) (anchors : List Anchor) (claims more : List Claim)
    (Finished : X → Type 0) (Has : X → Principal → Type 0)
    (added : (i : ℕ) (c : Claim) → slice_get more i ≡ Some c →
    ((k : ℕ) × (slice_get claims k ≡ Some c)) ⊎ ((x : X) → Finished x → Has x c.left → ⊥)) where
  same_holder : (a p : Principal) → Refuses Finished Has claims (ForWhom a) p → Refuses Finished Has more (ForWhom a) p
  same_holder a p r = record { row = r.row; finished = r.finished; begins = r.begins; lacks = r.lacks }

  -- the speakers of a statement about a member are the old ones
  same_speakers : (x : X) (l r t : Principal) → Finished x → Has x l → Refuses Finished Has claims (WhoSays l r) t → Refuses Finished Has more (WhoSays l r) t
  same_speakers x l r t f h s = record {
    row = s.row;
    finished = s.finished;
    begins = λ i claim e p q. still claim p q (added i claim e);
    lacks = s.lacks;
  }
    where
      still : (claim : Claim) → claim.left ≡ l → claim.right ≡ r →
          ((k : ℕ) × (slice_get claims k ≡ Some claim)) ⊎ ((y : X) → Finished y → Has y claim.left → ⊥) → Has s.row claim.speaker
      still claim p q (inl k) = s.begins k.0 claim k.1 p q
      still claim p q (inr none) = absurd (none x f (subst (Has x) (sym p) h))

  handed_more : (x : X) (l r : Principal) → Finished x → Has x l →
      Has x r ⊎ IsUnheard Finished Has claims l r → Has x r ⊎ IsUnheard Finished Has more l r
  handed_more x l r f h (inl k) = inl k
  handed_more x l r f h (inr u) = inr (record {
    by_right = same_speakers x l r r f h u.by_right;
    by_delegator = λ a b p q. same_speakers x l r a f h (u.by_delegator a b p q);
  })

  still_finished : (x : X) → Finished x → IsFinished U anchors claims Finished Has x → IsFinished U anchors more Finished Has x
  still_finished x f d = finished_kept U anchors claims more Finished Finished Has same_holder x d (λ i claim e h. go claim h (added i claim e))
    where
      go : (claim : Claim) → Has x claim.left →
          ((k : ℕ) × (slice_get claims k ≡ Some claim)) ⊎ ((y : X) → Finished y → Has y claim.left → ⊥) →
          Has x claim.right ⊎ IsUnheard Finished Has more claim.left claim.right
      go claim h (inl k) = handed_more x claim.left claim.right f h (d.handed k.0 claim k.1 h)
      go claim h (inr none) = absurd (none x f h)

pub unreached_adds_nothing : (anchors : List Anchor) (claims more : List Claim) (table : List Principal) (rows : List (List Principal)) →
    UnreachedAddsNothing anchors claims more table rows
unreached_adds_nothing anchors claims more table rows added finished row f =
    still_finished (Contains table) anchors claims more (Contains rows) Contains added row f (finished row f)

module _ {X : Type 0} (U : Principal → Type 0) (anchors : List Anchor) (claims : List Claim)
    (Finished More : X → Type 0) (Has : X → Principal → Type 0) (among : (x : X) → Finished x → More x) where
  refuses_more : (goal : Goal Principal) (p : Principal) → Refuses Finished Has claims goal p → Refuses More Has claims goal p
  refuses_more goal p r = record { row = r.row; finished = among r.row r.finished; begins = r.begins; lacks = r.lacks }

  unheard_more : {Q : Type 0} (l r : Principal) → Q ⊎ IsUnheard Finished Has claims l r → Q ⊎ IsUnheard More Has claims l r
  unheard_more l r (inl q) = inl q
  unheard_more l r (inr u) = inr (record {
    by_right = refuses_more (WhoSays l r) r u.by_right;
    by_delegator = λ a b e f. refuses_more (WhoSays l r) a (u.by_delegator a b e f);
  })

  finished_more : (x : X) → IsFinished U anchors claims Finished Has x → IsFinished U anchors claims More Has x
  finished_more x d =
      finished_kept U anchors claims claims Finished More Has (λ a p r. refuses_more (ForWhom a) p r) x d
      (λ i claim e h. unheard_more claim.left claim.right (d.handed i claim e h))

pub rows_add_up : (anchors : List Anchor) (claims : List Claim) (table : List Principal) (rows more : List (List Principal)) →
    RowsAddUp anchors claims table rows more
rows_add_up anchors claims table rows more among row f =
    finished_more (Contains table) anchors claims (Contains rows) (Contains more) Contains among row f
