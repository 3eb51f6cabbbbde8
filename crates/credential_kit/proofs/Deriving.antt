-- Each rule of the calculus, as a step from what is derivable to what is.
use Rattle.std.proofs.Common.{◌≡◌, ℕ, List, [], ◌∷◌, slice_get, Some, refl}
use Rattle.std.proofs.lemmas.List.Elements.{All-nil, All-cons}
use Rattle.prin_term.specs.declared.term.Anchor.{Anchor}
use Rattle.prin_term.specs.Principal.{Principal, Key, Name, And, Quoting, InRole, For}
use Rattle.taos_calculus.specs.declared.line.Step.{Step}
use Rattle.taos_calculus.specs.Rules.{Claim, Judgement, SpeaksFor, Says, Line, line, Follows, same, chain, left, both, quoting, for_both, role, anchored, said, lift, hand_off, delegate}
use Rattle.taos_calculus.specs.Tidy.{DerivableWithin}
use Rattle.taos_calculus.proofs.Building.{within_saturated}
use Rattle.taos_calculus.proofs.Staying.{Any, within_any}

module _ (anchors : List Anchor) (claims : List Claim) where
  -- derivable, by whatever principals
  abbrev pub Known : Judgement → Type 0
  Known fact = DerivableWithin Any anchors claims fact

  none : (l : Line) → Follows anchors claims [] l → Known l.fact
  none l f = within_saturated anchors claims Any [] l (All-nil Known) f (within_any l.fact)

  one : (x : Judgement) (l : Line) → Known x → Follows anchors claims (x ∷ []) l → Known l.fact
  one x l h f = within_saturated anchors claims Any (x ∷ []) l (All-cons Known x [] h (All-nil Known)) f (within_any l.fact)

  two : (x y : Judgement) (l : Line) → Known x → Known y → Follows anchors claims (x ∷ y ∷ []) l → Known l.fact
  two x y l h k f = within_saturated anchors claims Any (x ∷ y ∷ []) l (All-cons Known x (y ∷ []) h (All-cons Known y [] k (All-nil Known))) f (within_any l.fact)

  pub itself : (a : Principal) → Known (SpeaksFor a a)
  itself a = none (line (SpeaksFor a a) Step.Same) same

  pub chained : (a b c : Principal) → Known (SpeaksFor a b) → Known (SpeaksFor b c) → Known (SpeaksFor a c)
  chained a b c h k = two (SpeaksFor a b) (SpeaksFor b c) (line (SpeaksFor a c) (Step.Chain 0 1)) h k (chain refl refl)

  pub first_part : (a b : Principal) → Known (SpeaksFor (And a b) a)
  first_part a b = none (line (SpeaksFor (And a b) a) Step.Left) left

  pub for_two : (a b c : Principal) → Known (SpeaksFor c a) → Known (SpeaksFor c b) → Known (SpeaksFor c (And a b))
  for_two a b c h k = two (SpeaksFor c a) (SpeaksFor c b) (line (SpeaksFor c (And a b)) (Step.Both 0 1)) h k (both refl refl)

  pub quotes : (a a' b : Principal) → Known (SpeaksFor a a') → Known (SpeaksFor (Quoting a b) (Quoting a' b))
  quotes a a' b h = two (SpeaksFor a a') (SpeaksFor b b) (line (SpeaksFor (Quoting a b) (Quoting a' b)) (Step.Quote 0 1)) h (itself b) (quoting refl refl)

  pub acts_for : (a a' b : Principal) → Known (SpeaksFor a a') → Known (SpeaksFor (For a b) (For a' b))
  acts_for a a' b h = two (SpeaksFor a a') (SpeaksFor b b) (line (SpeaksFor (For a b) (For a' b)) (Step.For 0 1)) h (itself b) (for_both refl refl)

  pub takes_role : (a : Principal) (r : ℕ) → Known (SpeaksFor a (InRole a r))
  takes_role a r = none (line (SpeaksFor a (InRole a r)) Step.Role) role

  pub named : (i : ℕ) (anchor : Anchor) → slice_get anchors i ≡ Some anchor → Known (SpeaksFor (Key anchor.key) (Name anchor.name))
  named i anchor e = none (line (SpeaksFor (Key anchor.key) (Name anchor.name)) (Step.Anchor i)) (anchored {anchor = anchor} {i = i} e)

  pub claimed : (i : ℕ) (c : Claim) → slice_get claims i ≡ Some c → Known (Says c.speaker c.left c.right)
  claimed i c e = none (line (Says c.speaker c.left c.right) (Step.Said i)) (said {claim = c} {i = i} e)

  pub lifted : (a b l r : Principal) → Known (Says a l r) → Known (SpeaksFor a b) → Known (Says b l r)
  lifted a b l r h k = two (Says a l r) (SpeaksFor a b) (line (Says b l r) (Step.Lift 0 1)) h k (lift refl refl)

  pub handed : (l t : Principal) → Known (Says t l t) → Known (SpeaksFor l t)
  handed l t h = one (Says t l t) (line (SpeaksFor l t) (Step.HandOff 0)) h (hand_off refl)

  pub delegated : (a b : Principal) → Known (Says a (Quoting b a) (For b a)) → Known (SpeaksFor (Quoting b a) (For b a))
  delegated a b h = one (Says a (Quoting b a) (For b a)) (line (SpeaksFor (Quoting b a) (For b a)) (Step.Delegate 0)) h (delegate refl)
