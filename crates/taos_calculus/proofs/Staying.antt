-- Derivations within a table, and under other lists of certificates.
use Rattle.std.proofs.Common.{◌≡◌, ℕ, List, [], slice_get, Some, Contains}
use Rattle.std.proofs.lemmas.List.Elements.{All-nil}
use Rattle.prin_term.specs.declared.term.Anchor.{Anchor}
use Rattle.taos_calculus.specs.declared.line.Step.{Step}
use Rattle.prin_term.specs.Principal.{Principal}
use Rattle.taos_calculus.specs.Rules.{Claim, Judgement, SpeaksFor, Says, line, said}
use Rattle.taos_calculus.specs.Saturation.{IsWithin}
use Rattle.taos_calculus.specs.Tidy.{DerivableWithin, StaysWithin, DerivesMore, premises_of, moved}
use Rattle.taos_calculus.proofs.Moving.{Stands, follows_moved}
use Rattle.taos_calculus.proofs.Induction.{IsKept, rule_induction}
use Rattle.taos_calculus.proofs.Building.{All-of, within_saturated}
use Rattle.taos_calculus.proofs.Completeness.{complete}

pub stays_within : (anchors : List Anchor) (claims : List Claim) (table : List Principal) → StaysWithin anchors claims table
stays_within anchors claims table t fact w d =
    complete (Contains table) (DerivableWithin (Contains table) anchors claims) anchors claims t
    (within_saturated anchors claims (Contains table)) fact w d

-- no limit on the principals
abbrev pub Any : Principal → Type 0
Any p = Unit {0}

pub within_any : (fact : Judgement) → IsWithin Any fact
within_any (SpeaksFor a b) = (tt, tt)
within_any (Says a l r) = (tt, tt, tt)

module _ (anchors : List Anchor) (claims more : List Claim)
    (found : (i : ℕ) (c : Claim) → slice_get claims i ≡ Some c → (k : ℕ) × (slice_get more k ≡ Some c)) where
  -- a line that follows by the fewer certificates gives a fact that is derivable by the more
  kept : IsKept (DerivableWithin Any anchors more) anchors claims
  kept earlier l all (said {claim} {i} e) =
      let (k, s) = found i claim e in
      within_saturated anchors more Any [] (line (Says claim.speaker claim.left claim.right) (Step.Said k)) (All-nil (DerivableWithin Any anchors more)) (said s) (tt, tt, tt)
  kept earlier l all f =
      within_saturated anchors more Any earlier (line l.fact (moved (λ i. i) (λ i. i) l.step)) all
      (follows_moved anchors claims more earlier earlier (λ i. i) (λ i. i) l
      (All-of (Stands earlier earlier (λ i. i)) (premises_of l.step) (λ i x h. h))
      (All-nil (Stands claims more (λ i. i))) f)
      (within_any l.fact)

pub derives_more : (anchors : List Anchor) (claims more : List Claim) → DerivesMore anchors claims more
derives_more anchors claims more found fact d =
    let w : DerivableWithin Any anchors more fact = rule_induction (DerivableWithin Any anchors more) anchors claims (kept anchors claims more found) fact d in
    record { lines = w.lines; proves = w.proves }
