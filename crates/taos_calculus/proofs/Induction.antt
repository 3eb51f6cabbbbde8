-- What holds of the conclusion of each rule, where it holds of the premises, holds of each derivable fact.
use Rattle.std.proofs.Common.{◌≡◌, ℕ, List, [], ◌∷◌, ◌++◌, slice_get, Some, subst, All}
use Rattle.std.proofs.lemmas.List.Elements.{All-push, All-nil, All-cons}
use Rattle.std.proofs.lemmas.Option.{get_or_from_slice_get, slice_get_within, none-some, same_Some}
use Rattle.prin_term.specs.declared.term.Anchor.{Anchor}
use Rattle.taos_calculus.specs.Rules.{Claim, Judgement, Line, Follows, EachFollows, last_fact, Derivable}

-- the element that stands at a number
pub All-at : {X : Type 0} (P : X → Type 0) (xs : List X) (i : ℕ) (x : X) → All P xs → slice_get xs i ≡ Some x → P x
All-at P xs i x all e = subst P (get_or_from_slice_get xs i x x e) (all i x (slice_get_within xs i x e))

pub All-one : {X : Type 0} (P : X → Type 0) (x : X) → P x → All P (x ∷ [])
All-one P x p = All-cons P x [] p (All-nil P)

pub All-two : {X : Type 0} (P : X → Type 0) (x y : X) → P x → P y → All P (x ∷ y ∷ [])
All-two P x y p q = All-cons P x (y ∷ []) p (All-one P y q)

-- whatever follows from facts with P has P
abbrev pub IsKept : (Judgement → Type 0) → List Anchor → List Claim → Type 0
IsKept P anchors claims = (earlier : List Judgement) (line : Line) → All P earlier → Follows anchors claims earlier line → P line.fact

module _ (P : Judgement → Type 0) (anchors : List Anchor) (claims : List Claim) (kept : IsKept P anchors claims) where
  last_has : (earlier : List Judgement) (lines : List Line) (fact : Judgement) →
      All P earlier → EachFollows anchors claims earlier lines → last_fact lines ≡ Some fact → P fact
  last_has earlier [] fact all each e = absurd (none-some fact e)
  last_has earlier (l ∷ []) fact all each e = subst P (same_Some l.fact fact e) (kept earlier l all each.0)
  last_has earlier (l ∷ m ∷ rest) fact all each e =
      last_has (earlier ++ l.fact ∷ []) (m ∷ rest) fact (All-push P earlier l.fact all (kept earlier l all each.0)) each.1 e

  pub rule_induction : (fact : Judgement) → Derivable anchors claims fact → P fact
  rule_induction fact d = last_has [] d.lines fact (All-nil P) d.proves.follow d.proves.last
