-- What may be added to a row of numbers may be added to the row of their principals.
use Rattle.std.proofs.Common.{◌≡◌, inl, inr, ℕ, List, slice_get, Some, refl, sym, ◌∙◌, subst, ap, ap₂}
use Rattle.prin_term.specs.declared.term.Anchor.{Anchor}
use Rattle.prin_term.specs.Principal.{Principal, Key, Name, And, Quoting, InRole, For}
use Rattle.taos_calculus.specs.declared.line.Node.{Node}
use Rattle.taos_calculus.specs.Rules.{Claim}
use Rattle.taos_calculus.specs.Tables.{shape, named, IsNodeTable}
use Rattle.taos_calculus.proofs.Naming.{named_reads}
use Rattle.goal_search.specs.Goals.{Goal, ForWhom, WhoSays, IsAnswer}
use Rattle.goal_search.specs.Adding.{Adds}
use Rattle.goal_search.specs.Adding
use Rattle.goal_search.specs.NumberedRows.{goal_by, IsAnswerAt}
use Rattle.goal_search.specs.NumberedAdding.{IsPassedTo, AddsAt, itself, speaker, left, right, both, role, anchored, quoting, for_both, role_under, hand_off, delegate, onward}
use Rattle.goal_search.specs.DecidedNumbers.{AddingGivesAnswers}
use Rattle.goal_search.proofs.Adding.{answer_added}

module _ (nodes : List Node) (table : IsNodeTable nodes) (anchors : List Anchor) (claims : List Claim) where
  abbrev p : ℕ → Principal
  p i = named nodes i

  reads : (i : ℕ) (node : Node) → slice_get nodes i ≡ Some node → p i ≡ shape p node
  reads i node e = named_reads nodes table i node e

  abbrev Told : Goal Principal → Principal → Type 0
  Told goal q = IsAnswer anchors claims goal q

  abbrev May : Goal ℕ → Principal → Type 0
  May goal q = Adds anchors claims Told (goal_by p goal) q

  told : (goal : Goal ℕ) (i : ℕ) (q : Principal) → p i ≡ q → IsAnswerAt nodes anchors claims goal i → Told (goal_by p goal) q
  told goal i q e k = subst (Told (goal_by p goal)) e k

  may : (goal : Goal ℕ) (i : ℕ) (q : Principal) → p i ≡ q → May goal q → May goal (p i)
  may goal i q e k = subst (May goal) (sym e) k

  passed : (a c : ℕ) → IsPassedTo (IsAnswerAt nodes anchors claims) a c → Told (ForWhom (p a)) (p c)
  passed a c (inl e) = subst (λ c. Told (ForWhom (p a)) (p c)) e (answer_added anchors claims (ForWhom (p a)) (p a) (Adding.itself refl))
  passed a c (inr k) = k

  adds : (goal : Goal ℕ) (i : ℕ) → AddsAt nodes anchors claims (IsAnswerAt nodes anchors claims) goal i → May goal (p i)
  adds goal i (itself e) = Adding.itself (ap (goal_by p) e)
  adds goal i (speaker {claim} {w} {l} {r} k e pw pl pr q) =
      may goal w claim.speaker pw (Adding.speaker {claim = claim} k e (ap (goal_by p) q ∙ ap₂ (λ (a b : Principal). WhoSays a b) pl pr))
  adds goal i (left {a} {b} {c} e k) = Adding.left {b = p b} (told goal c (And (p a) (p b)) (reads c (Node.And a b) e) k)
  adds goal i (right {a} {b} {c} e k) = Adding.right {a = p a} (told goal c (And (p a) (p b)) (reads c (Node.And a b) e) k)
  adds goal i (both {a} {b} {c} e k m) = may goal c (And (p a) (p b)) (reads c (Node.And a b) e) (Adding.both k m)
  adds goal i (role {a} {r} {c} e k) = may goal c (InRole (p a) r) (reads c (Node.AsRole a r) e) (Adding.role k)
  adds goal i (anchored {anchor} {c} {d} k e f g h) =
      may goal d (Name anchor.name) (reads d (Node.Name anchor.name) g)
      (Adding.anchored {anchor = anchor} k e (told goal c (Key anchor.key) (reads c (Node.Key anchor.key) f) h))
  adds goal i (quoting {a} {b} {c} {d} {i = x} {j = y} e f k m n) =
      may goal y (Quoting (p c) (p d)) (reads y (Node.Quote c d) f)
      (Adding.quoting {a = p a} {b = p b} (told goal x (Quoting (p a) (p b)) (reads x (Node.Quote a b) e) k) (passed a c m) (passed b d n))
  adds goal i (for_both {a} {b} {c} {d} {i = x} {j = y} e f k m n) =
      may goal y (For (p c) (p d)) (reads y (Node.For c d) f)
      (Adding.for_both {a = p a} {b = p b} (told goal x (For (p a) (p b)) (reads x (Node.For a b) e) k) (passed a c m) (passed b d n))
  adds goal i (role_under {a} {c} {r} {i = x} {j = y} e f k m) =
      may goal y (InRole (p c) r) (reads y (Node.AsRole c r) f)
      (Adding.role_under {a = p a} (told goal x (InRole (p a) r) (reads x (Node.AsRole a r) e) k) (passed a c m))
  adds goal i (hand_off {l} {t} k m) = Adding.hand_off {l = p l} k m
  adds goal i (delegate {a} {b} {i = x} {j = y} e f k m) =
      let ex : p x ≡ Quoting (p b) (p a) = reads x (Node.Quote b a) e in
      let ey : p y ≡ For (p b) (p a) = reads y (Node.For b a) f in
      may goal y (For (p b) (p a)) ey
      (Adding.delegate (told goal x (Quoting (p b) (p a)) ex k)
      (subst (λ r. Told (WhoSays (Quoting (p b) (p a)) r) (p a)) ey (subst (λ l. Told (WhoSays l (p y)) (p a)) ex m)))
  adds goal i (onward {u} {v} k m) = Adding.onward {u = p u} k m

pub adding_gives_answers : (nodes : List Node) (anchors : List Anchor) (claims : List Claim) → AddingGivesAnswers nodes anchors claims
adding_gives_answers nodes anchors claims table goal i a =
    answer_added anchors claims (goal_by (named nodes) goal) (named nodes i) (adds nodes table anchors claims goal i a)

-- whoever the speaker of a certificate speaks for says its statement
pub answer_said : (nodes : List Node) (anchors : List Anchor) (claims : List Claim) → IsNodeTable nodes →
    (i : ℕ) (claim : Claim) (w l r t : ℕ) → slice_get claims i ≡ Some claim →
    named nodes w ≡ claim.speaker → named nodes l ≡ claim.left → named nodes r ≡ claim.right →
    IsAnswerAt nodes anchors claims (ForWhom w) t → IsAnswerAt nodes anchors claims (WhoSays l r) t
answer_said nodes anchors claims table i claim w l r t e pw pl pr k =
    let s : IsAnswerAt nodes anchors claims (WhoSays l r) w =
    adding_gives_answers nodes anchors claims table (WhoSays l r) w (speaker {claim = claim} i e pw pl pr refl) in
    adding_gives_answers nodes anchors claims table (WhoSays l r) t (onward {u = w} s k)
