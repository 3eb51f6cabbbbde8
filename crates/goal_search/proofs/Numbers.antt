-- Finished rows over the numbers of a node table are finished rows over principals.
use Rattle.std.proofs.Common.{◌≡◌, ◌↔◌, ◌⊎◌, inl, inr, ℕ, ◌<◌, List, slice_get, Some, refl, sym, ◌∙◌, subst, length, All, Contains}
use Rattle.std.proofs.lemmas.List.Elements.{All-nil}
use Rattle.prin_term.specs.declared.term.Anchor.{Anchor}
use Rattle.prin_term.specs.Principal.{Principal, Key, Name, And, Quoting, InRole, For, operands}
use Rattle.taos_calculus.specs.declared.line.Node.{Node}
use Rattle.taos_calculus.specs.Rules.{Claim}
use Rattle.taos_calculus.specs.Tables.{named, IsNodeTable}
use Rattle.taos_calculus.proofs.Induction.{All-one, All-two}
use Rattle.taos_calculus.proofs.Naming.{named_apart}
use Rattle.goal_search.specs.Goals.{Goal, ForWhom, WhoSays, Begins}
use Rattle.goal_search.specs.Rows.{Refuses, IsUnheard, AreTargets, IsFinished}
use Rattle.goal_search.specs.NumberedRows.{IsNamed, goal_by, IsGoalBelow, IsAnswerAt, IsSoundAt, BeginsAt, RefusesAt, IsUnheardAt, IsHandedAt, IsFinishedAt, HaveLeftsNumbers}
use Rattle.goal_search.specs.DecidedNumbers.{NumbersDecide, NumbersRefute}
use Rattle.goal_search.proofs.Deciding.{finished_has}
use Rattle.goal_search.proofs.ByNumber.{Pair, Holder, and_at, quoting_at, for_at, role_at, key_at, name_at}

module _ (nodes : List Node) (table : IsNodeTable nodes) where
  -- a target: it has a number, or is a key
  abbrev Numbered : Principal → Type 0
  Numbered q = (i : ℕ) × IsNamed nodes i q

  abbrev Target : Principal → Type 0
  Target q = Numbered q ⊎ ((k : ℕ) × (q ≡ Key k))

  numbered : (q : Principal) → ((k : ℕ) → q ≡ Key k → ⊥) → Target q → Numbered q
  numbered q none (inl n) = n
  numbered q none (inr (k, e)) = absurd (none k e)

  and_number : (a b : Principal) → Target (And a b) → Numbered (And a b)
  and_number a b u = numbered (And a b) (λ k e. absurd (cc)) u

  quoting_number : (a b : Principal) → Target (Quoting a b) → Numbered (Quoting a b)
  quoting_number a b u = numbered (Quoting a b) (λ k e. absurd (cc)) u

  for_number : (a b : Principal) → Target (For a b) → Numbered (For a b)
  for_number a b u = numbered (For a b) (λ k e. absurd (cc)) u

  role_number : (a : Principal) (r : ℕ) → Target (InRole a r) → Numbered (InRole a r)
  role_number a r u = numbered (InRole a r) (λ k e. absurd (cc)) u

  name_number : (n : ℕ) → Target (Name n) → Numbered (Name n)
  name_number n u = numbered (Name n) (λ k e. absurd (cc)) u

  target_operands : (q : Principal) → Target q → All Target (operands q)
  target_operands (Key k) u = All-nil Target
  target_operands (Name k) u = All-nil Target
  target_operands (And a b) u =
      let n : Numbered (And a b) = and_number a b u in
      let s : Pair nodes Node.And n.0 a b = and_at nodes table n.0 a b n.1 in
      All-two Target a b (inl (s.x, s.left)) (inl (s.y, s.right))
  target_operands (Quoting a b) u =
      let n : Numbered (Quoting a b) = quoting_number a b u in
      let s : Pair nodes Node.Quote n.0 a b = quoting_at nodes table n.0 a b n.1 in
      All-two Target a b (inl (s.x, s.left)) (inl (s.y, s.right))
  target_operands (InRole a r) u =
      let n : Numbered (InRole a r) = role_number a r u in
      let s : Holder nodes n.0 a r = role_at nodes table n.0 a r n.1 in
      All-one Target a (inl (s.x, s.holder))
  target_operands (For a b) u =
      let n : Numbered (For a b) = for_number a b u in
      let s : Pair nodes Node.For n.0 a b = for_at nodes table n.0 a b n.1 in
      All-two Target a b (inl (s.x, s.left)) (inl (s.y, s.right))

  pub same_number : (i j : ℕ) (q : Principal) → IsNamed nodes i q → IsNamed nodes j q → i ≡ j
  same_number i j q m n = named_apart nodes table i j m.0 n.0 (m.1 ∙ sym n.1)

  module _ {X : Type 0} (anchors : List Anchor) (claims : List Claim) (Finished : X → Type 0) (Has : X → ℕ → Type 0) where
    -- the row has the number of the principal
    abbrev HasNamed : X → Principal → Type 0
    HasNamed x q = (i : ℕ) × IsNamed nodes i q × Has x i

    has_at : (x : X) (i : ℕ) (q : Principal) → IsNamed nodes i q → HasNamed x q → Has x i
    has_at x i q n (j, m, k) = subst (Has x) (same_number j i q m n) k

    begins_named : (goal : Goal ℕ) (x : X) → IsGoalBelow (length nodes) goal → BeginsAt nodes claims Has goal x → Begins HasNamed claims (goal_by (named nodes) goal) x
    begins_named (ForWhom a) x h b = (a, (h, refl), b)
    begins_named (WhoSays l r) x h b = b

    refuses : (a c : ℕ) (p q : Principal) → IsNamed nodes a p → IsNamed nodes c q → RefusesAt nodes claims Finished Has (ForWhom a) c →
        Refuses Finished HasNamed claims (ForWhom p) q
    refuses a c p q m n r = record { row = r.row; finished = r.finished; begins = (a, m, r.begins); lacks = λ h. r.lacks (has_at r.row c q n h) }

    refuses_saying : (l r t : ℕ) (u v q : Principal) → IsNamed nodes l u → IsNamed nodes r v → IsNamed nodes t q →
        RefusesAt nodes claims Finished Has (WhoSays l r) t → Refuses Finished HasNamed claims (WhoSays u v) q
    refuses_saying l r t u v q m n o s = record {
      row = s.row;
      finished = s.finished;
      begins = λ i claim e f g. s.begins i claim e (f ∙ sym m.1) (g ∙ sym n.1);
      lacks = λ h. s.lacks (has_at s.row t q o h);
    }

    unheard : (l r : ℕ) (u v : Principal) → IsNamed nodes l u → IsNamed nodes r v → IsUnheardAt nodes claims Finished Has l r →
        IsUnheard Finished HasNamed claims u v
    unheard l r u v m n h = record {
      by_right = refuses_saying l r r u v v m n n h.by_right;
      by_delegator = λ a b e f. delegator a b (m.0, m.1 ∙ e) (n.0, n.1 ∙ f);
    }
      where
        delegator : (a b : Principal) → IsNamed nodes l (Quoting b a) → IsNamed nodes r (For b a) → Refuses Finished HasNamed claims (WhoSays u v) a
        delegator a b k o =
            let s : Pair nodes Node.Quote l b a = quoting_at nodes table l b a k in
            let t : Pair nodes Node.For r b a = for_at nodes table r b a o in
            let q : t.x ≡ s.x = same_number t.x s.x b t.left s.left in
            let w : t.y ≡ s.y = same_number t.y s.y a t.right s.right in
            let f : slice_get nodes r ≡ Some (Node.For s.x s.y) = rw (q, w) at t.node in
            refuses_saying l r s.y u v a m n s.right (h.by_delegator s.y s.x s.node f)

    module _ (finished : (x : X) → Finished x → IsFinishedAt nodes anchors claims Finished Has x) where
      two_operands : {Q : Type 0} {R : Type 0} (x y z w : ℕ) (a b c d : Principal) → (Q → R) →
          IsNamed nodes x a → IsNamed nodes y b → IsNamed nodes z c → IsNamed nodes w d →
          Q ⊎ RefusesAt nodes claims Finished Has (ForWhom x) z ⊎ RefusesAt nodes claims Finished Has (ForWhom y) w →
          R ⊎ Refuses Finished HasNamed claims (ForWhom a) c ⊎ Refuses Finished HasNamed claims (ForWhom b) d
      two_operands x y z w a b c d f m n o p (inl q) = inl (f q)
      two_operands x y z w a b c d f m n o p (inr (inl r)) = inr (inl (refuses x z a c m o r))
      two_operands x y z w a b c d f m n o p (inr (inr r)) = inr (inr (refuses y w b d n p r))

      one_operand : {Q : Type 0} {R : Type 0} (x z : ℕ) (a c : Principal) → (Q → R) → IsNamed nodes x a → IsNamed nodes z c →
          Q ⊎ RefusesAt nodes claims Finished Has (ForWhom x) z → R ⊎ Refuses Finished HasNamed claims (ForWhom a) c
      one_operand x z a c f m n (inl q) = inl (f q)
      one_operand x z a c f m n (inr r) = inr (refuses x z a c m n r)

      handed_named : (x : X) (claim : Claim) (l : ℕ) → IsNamed nodes l claim.left → IsHandedAt nodes claims Finished Has x claim l →
          HasNamed x claim.right ⊎ IsUnheard Finished HasNamed claims claim.left claim.right
      handed_named x claim l n h = go h.handed
        where
          go : Has x h.right ⊎ IsUnheardAt nodes claims Finished Has l h.right → HasNamed x claim.right ⊎ IsUnheard Finished HasNamed claims claim.left claim.right
          go (inl k) = inl (h.right, h.right_is, k)
          go (inr u) = inr (unheard l h.right claim.left claim.right n h.right_is u)

      row_finished : (x : X) → Finished x → IsFinished Target anchors claims Finished HasNamed x
      row_finished x f =
          let d : IsFinishedAt nodes anchors claims Finished Has x = finished x f in
          record {
            left = λ a b (i, n, k).
                let s : Pair nodes Node.And i a b = and_at nodes table i a b n in (s.x, s.left, d.left s.x s.y i s.node k);
            right = λ a b (i, n, k).
                let s : Pair nodes Node.And i a b = and_at nodes table i a b n in (s.y, s.right, d.right s.x s.y i s.node k);
            both = λ a b h k u.
                let n : Numbered (And a b) = and_number a b u in
                let s : Pair nodes Node.And n.0 a b = and_at nodes table n.0 a b n.1 in
                (n.0, n.1, d.both s.x s.y n.0 s.node (has_at x s.x a s.left h) (has_at x s.y b s.right k));
            role = λ a r h u.
                let n : Numbered (InRole a r) = role_number a r u in
                let s : Holder nodes n.0 a r = role_at nodes table n.0 a r n.1 in
                (n.0, n.1, d.role s.x r n.0 s.node (has_at x s.x a s.holder h));
            anchored = λ i anchor e (j, m, k) u.
                let n : Numbered (Name anchor.name) = name_number anchor.name u in
                (n.0, n.1, d.anchored i j n.0 anchor e (key_at nodes table j anchor.key m) (name_at nodes table n.0 anchor.name n.1) k);
            quoting = λ a b c e (i, m, k) u.
                let n : Numbered (Quoting c e) = quoting_number c e u in
                let s : Pair nodes Node.Quote i a b = quoting_at nodes table i a b m in
                let t : Pair nodes Node.Quote n.0 c e = quoting_at nodes table n.0 c e n.1 in
                two_operands s.x s.y t.x t.y a b c e (λ q. (n.0, n.1, q)) s.left s.right t.left t.right
                (d.quoting s.x s.y t.x t.y i n.0 s.node t.node k);
            for_both = λ a b c e (i, m, k) u.
                let n : Numbered (For c e) = for_number c e u in
                let s : Pair nodes Node.For i a b = for_at nodes table i a b m in
                let t : Pair nodes Node.For n.0 c e = for_at nodes table n.0 c e n.1 in
                two_operands s.x s.y t.x t.y a b c e (λ q. (n.0, n.1, q)) s.left s.right t.left t.right
                (d.for_both s.x s.y t.x t.y i n.0 s.node t.node k);
            role_under = λ a c r (i, m, k) u.
                let n : Numbered (InRole c r) = role_number c r u in
                let s : Holder nodes i a r = role_at nodes table i a r m in
                let t : Holder nodes n.0 c r = role_at nodes table n.0 c r n.1 in
                one_operand s.x t.x a c (λ q. (n.0, n.1, q)) s.holder t.holder (d.role_under s.x t.x r i n.0 s.node t.node k);
            handed = λ i claim e (l, m, k). handed_named x claim l m (d.handed i l claim e m k);
          }

      are_targets : HaveLeftsNumbers nodes claims → AreTargets Target claims Finished HasNamed
      are_targets lefts = record {
        operands_in = target_operands;
        left_in = lefts;
        right_in = λ i claim x e f (l, m, k). let h : IsHandedAt nodes claims Finished Has x claim l = (finished x f).handed i l claim e m k in inl (h.right, h.right_is);
      }

      -- a finished row that begins with the goal has the numbers of what answers it
      pub has_number : HaveLeftsNumbers nodes claims → (goal : Goal ℕ) (i : ℕ) → IsGoalBelow (length nodes) goal → i < length nodes →
          IsAnswerAt nodes anchors claims goal i → (x : X) → Finished x → BeginsAt nodes claims Has goal x → Has x i
      has_number lefts goal i g h d x f b =
          has_at x i (named nodes i) (h, refl)
          (finished_has Target anchors claims Finished HasNamed (are_targets lefts) row_finished
          (goal_by (named nodes) goal) (named nodes i) (inl (i, (h, refl))) d x f (begins_named goal x g b))

-- a finished row that begins with the goal and is sound has exactly the numbers of what answers it
pub finished_decide : {X : Type 0} (nodes : List Node) (anchors : List Anchor) (claims : List Claim) (Finished : X → Type 0) (Has : X → ℕ → Type 0) →
    IsNodeTable nodes → HaveLeftsNumbers nodes claims → ((x : X) → Finished x → IsFinishedAt nodes anchors claims Finished Has x) →
    (x : X) (goal : Goal ℕ) → Finished x → IsGoalBelow (length nodes) goal → BeginsAt nodes claims Has goal x →
    IsSoundAt nodes anchors claims goal (Has x) → (i : ℕ) → i < length nodes → IsAnswerAt nodes anchors claims goal i ↔ Has x i
finished_decide nodes anchors claims Finished Has table lefts finished x goal f g b sound i h = (
  λ d. has_number nodes table anchors claims Finished Has finished lefts goal i g h d x f b,
  sound i h,
)

-- what finished rows refuse does not answer
pub finished_refute : {X : Type 0} (nodes : List Node) (anchors : List Anchor) (claims : List Claim) (Finished : X → Type 0) (Has : X → ℕ → Type 0) →
    IsNodeTable nodes → HaveLeftsNumbers nodes claims → ((x : X) → Finished x → IsFinishedAt nodes anchors claims Finished Has x) →
    (goal : Goal ℕ) (i : ℕ) → IsGoalBelow (length nodes) goal → i < length nodes →
    RefusesAt nodes claims Finished Has goal i → IsAnswerAt nodes anchors claims goal i → ⊥
finished_refute nodes anchors claims Finished Has table lefts finished goal i g h r d =
    r.lacks (has_number nodes table anchors claims Finished Has finished lefts goal i g h d r.row r.finished r.begins)

pub numbers_decide : (nodes : List Node) (anchors : List Anchor) (claims : List Claim) (rows : List (List ℕ)) →
    NumbersDecide nodes anchors claims rows
numbers_decide nodes anchors claims rows table lefts finished row goal f g b sound i h =
    finished_decide nodes anchors claims (Contains rows) Contains table lefts finished row goal f g b sound i h

pub numbers_refute : (nodes : List Node) (anchors : List Anchor) (claims : List Claim) (rows : List (List ℕ)) →
    NumbersRefute nodes anchors claims rows
numbers_refute nodes anchors claims rows table lefts finished goal i g h r d =
    finished_refute nodes anchors claims (Contains rows) Contains table lefts finished goal i g h r d
