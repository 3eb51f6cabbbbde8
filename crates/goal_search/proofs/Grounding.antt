-- What stands in a row for a reason answers what the row is asked for.
use Rattle.std.proofs.Common.{◌≡◌, inl, inr, ℕ, zero, suc, ◌+◌, ◌<◌, slice_get, Some, refl, sym, ◌∙◌, ap, length, All, arith}
use Rattle.std.specs.Prelude.{option_map}
use Rattle.std.proofs.lemmas.Option.{same_Some, slice_get-map, slice_get_within}
use Rattle.taos_calculus.specs.declared.line.Node.{Node}
use Rattle.taos_calculus.specs.Tables.{named, IsNodeTable, OperandsBelow}
use Rattle.taos_calculus.proofs.Induction.{All-at}
use Rattle.taos_calculus.proofs.Naming.{operands_below}
use Rattle.term_pool.specs.declared.cited.Cited.{Cited}
use Rattle.term_pool.specs.Claims.{CitedIn, claim_by}
use Rattle.goal_search.specs.Goals.{Goal, ForWhom, WhoSays}
use Rattle.goal_search.specs.NumberedRows.{IsAnswerAt}
use Rattle.goal_search.specs.NumberedAdding as Adds
use Rattle.goal_search.specs.NumberedAdding.{AddsAt, IsPassedTo}
use Rattle.goal_search.specs.Reasons.{About, IsPassed, IsSaid, IsEdge, IsReason}
use Rattle.goal_search.specs.Reasons as Reasons
use Rattle.goal_search.specs.Cells.{held_at, stamp_of, reason_of}
use Rattle.goal_search.specs.Searching.{Core, about, claims_in, Has, HadBefore, IsGoalOf, of_number, of_statement, IsReady}
use Rattle.goal_search.proofs.NumberedAdding.{adding_gives_answers, answer_said}

module _ (a : About) (table : IsNodeTable a.nodes) (within : All (CitedIn (length a.nodes)) a.cited) where
  -- the number answers whatever the row is asked for
  pub Answers : ℕ → ℕ → Type 0
  Answers row number = (goal : Goal ℕ) → IsGoalOf a row goal → IsAnswerAt a.nodes a.anchors (claims_in a) goal number

  claim_stands : (i : ℕ) (c : Cited) → slice_get a.cited i ≡ Some c → slice_get (claims_in a) i ≡ Some (claim_by (named a.nodes) c)
  claim_stands i c e = slice_get-map (claim_by (named a.nodes)) a.cited i ∙ ap (option_map (claim_by (named a.nodes))) e

  cited_below : (i : ℕ) (c : Cited) → slice_get a.cited i ≡ Some c → CitedIn (length a.nodes) c
  cited_below i c e = All-at (CitedIn (length a.nodes)) a.cited i c within e

  node_below : (i : ℕ) (node : Node) → slice_get a.nodes i ≡ Some node → OperandsBelow (length a.nodes) node
  node_below i node e = operands_below i (length a.nodes) node (table.ordered i node e) (slice_get_within a.nodes i node e)

  adds : (goal : Goal ℕ) (i : ℕ) → AddsAt a.nodes a.anchors (claims_in a) (IsAnswerAt a.nodes a.anchors (claims_in a)) goal i → IsAnswerAt a.nodes a.anchors (claims_in a) goal i
  adds goal i k = adding_gives_answers a.nodes a.anchors (claims_in a) table goal i k

  module _ (Had : ℕ → ℕ → Type 0) (sound : (row number : ℕ) → Had row number → Answers row number) where
    passed : (x y : ℕ) → x < length a.nodes → IsPassed Had x y → IsPassedTo (IsAnswerAt a.nodes a.anchors (claims_in a)) x y
    unfolding Answers
    passed x y h (inl e) = inl e
    passed x y h (inr k) = inr (sound x y k (ForWhom x) (of_number h refl))

    said : (i : ℕ) (c : Cited) (t : ℕ) → slice_get a.cited i ≡ Some c → IsSaid a Had i c t → IsAnswerAt a.nodes a.anchors (claims_in a) (WhoSays c.left c.right) t
    unfolding Answers
    said i c t e (inl k) = sound (length a.nodes + i) t k (WhoSays c.left c.right) (of_statement i e refl refl)
    said i c t e (inr k) =
        answer_said a.nodes a.anchors (claims_in a) table i (claim_by (named a.nodes) c) c.speaker c.left c.right t (claim_stands i c e) refl refl refl
        (sound c.speaker t k (ForWhom c.speaker) (of_number (cited_below i c e).speaker refl))

    edge_answers : (goal : Goal ℕ) (from to : ℕ) → IsAnswerAt a.nodes a.anchors (claims_in a) goal from → IsEdge a Had from to → IsAnswerAt a.nodes a.anchors (claims_in a) goal to
    edge_answers goal from to k (Reasons.left e) = adds goal to (Adds.left e k)
    edge_answers goal from to k (Reasons.right e) = adds goal to (Adds.right e k)
    edge_answers goal from to k (Reasons.role e) = adds goal to (Adds.role e k)
    edge_answers goal from to k (Reasons.anchored {anchor} i s e f) = adds goal to (Adds.anchored {anchor = anchor} i s e f k)
    edge_answers goal from to k (Reasons.quoting {a = x} {b = y} {c = z} {d = w} e f p q) =
        let h : (x < length a.nodes) × (y < length a.nodes) = node_below from (Node.Quote x y) e in
        adds goal to (Adds.quoting e f k (passed x z h.0 p) (passed y w h.1 q))
    edge_answers goal from to k (Reasons.for_both {a = x} {b = y} {c = z} {d = w} e f p q) =
        let h : (x < length a.nodes) × (y < length a.nodes) = node_below from (Node.For x y) e in
        adds goal to (Adds.for_both e f k (passed x z h.0 p) (passed y w h.1 q))
    edge_answers goal from to k (Reasons.role_under {a = x} {c = z} {r = r} e f p) =
        let h : x < length a.nodes = node_below from (Node.AsRole x r) e in
        adds goal to (Adds.role_under e f k (passed x z h p))
    edge_answers goal from to k (Reasons.hand_off {c} i e l r s) =
        let m : IsAnswerAt a.nodes a.anchors (claims_in a) (WhoSays from to) to = rw (l, r) (said i c c.right e (rw r at s)) in
        adds goal to (Adds.hand_off {l = from} k m)
    edge_answers goal from to k (Reasons.delegate {a = x} {c = c} i e l r p q s) =
        let m : IsAnswerAt a.nodes a.anchors (claims_in a) (WhoSays from to) x = rw (l, r) (said i c x e s) in
        adds goal to (Adds.delegate p q k m)

    pub reason_answers : (row number reason : ℕ) → IsReason a Had row number reason → Answers row number
    unfolding Answers
    reason_answers row number reason (Reasons.itself h e w) goal (of_number h' q) =
        adds goal number (Adds.itself {a = number} (q ∙ ap (λ (n : ℕ). ForWhom n) (sym e)))
    reason_answers row number reason (Reasons.itself h e w) goal (of_statement i s p q) = absurd (omega arith)
    reason_answers row number reason (Reasons.speaker i k e f alike p n w) goal (of_number h' q) = absurd (omega arith)
    reason_answers row number reason (Reasons.speaker {c} {d} i k e f alike p n w) goal (of_statement {c = c'} j s p' q) =
        let same : k ≡ j = omega arith in
        let is : d ≡ c' = same_Some d c' (sym f ∙ (ap (slice_get a.cited) same ∙ s)) in
        let l : c'.left ≡ c.left = ap (λ (x : Cited). x.left) (sym is) ∙ sym alike.0 in
        let r : c'.right ≡ c.right = ap (λ (x : Cited). x.right) (sym is) ∙ sym alike.1 in
        adds goal number
        (Adds.speaker {claim = claim_by (named a.nodes) c} {w = number} {l = c.left} {r = c.right} i (claim_stands i c e) (ap (named a.nodes) n) refl refl
        (q ∙ (ap (λ (x : ℕ). WhoSays x c'.right) l ∙ ap (λ (y : ℕ). WhoSays c.left y) r)))
    reason_answers row number reason (Reasons.both {a = x} {b = y} e h k w) goal g =
        adds goal number (Adds.both e (sound row x h goal g) (sound row y k goal g))
    reason_answers row number reason (Reasons.onward h k e) goal g =
        edge_answers goal reason number (sound row reason k goal g) e

-- what was filled before a stamp is sound, and so what is filled is
module _ (s : Core) (ready : IsReady s) where
  sound_before : (stamp row number : ℕ) → HadBefore s stamp row number → Answers (about s) ready.table ready.cited_in row number
  sound_before zero row number h = absurd (omega (arith, h.1))
  sound_before (suc stamp) row number h =
      reason_answers (about s) ready.table ready.cited_in (HadBefore s (stamp_of (held_at s.cells row number)))
      (λ r c k. sound_before stamp r c (k.0, omega (arith, k.1, h.1)))
      row number (reason_of (held_at s.cells row number)) (ready.grounded row number h.0)

  pub has_answers : (row number : ℕ) → Has s row number → (goal : Goal ℕ) → IsGoalOf (about s) row goal → IsAnswerAt s.nodes s.anchors (claims_in (about s)) goal number
  unfolding Answers
  has_answers row number h goal g =
      sound_before (suc (stamp_of (held_at s.cells row number))) row number (h, omega arith) goal g
