-- A term of bytes that were cut is read, or found lacking at the cut.
use Rattle.std.proofs.Common.{◌≡◌, ◌⊎◌, ℕ, ◌+◌, ◌-◌, ◌<◌, List, ◌++◌, length, take, drop, Ok, Err, sym, ap, ◌∙◌, arith, inl, inr, refl, length-append, length-drop}
use Rattle.std.proofs.lemmas.Bool.{cases_lt}
use Rattle.std.proofs.lemmas.List.{take-append-le, drop-append-le, take-append-drop, take_at}
use Rattle.byte_fields.specs.Steps.{with_fault}
use Rattle.byte_fields.proofs.Cuts.{Cuts}
use Rattle.byte_fields.proofs.FieldLaws.{IsBytes}
use Rattle.byte_fields.proofs.Results.{with_fault_ok}
use Rattle.prin_term.specs.declared.fault.TermFault.{TermFault}
use Rattle.prin_term.specs.declared.fault.TermFault.TheVariants.{Short}
use Rattle.prin_term.specs.Principal.{spelling}
use Rattle.prin_term.specs.Reading.{term_at}
use Rattle.prin_term.proofs.Whole.{found_at, again_at, prefix_refused, refused_again_at}

-- where a list is parted in two ways, one part begins the other
parts : (p more s r : List ℕ) → p ++ more ≡ s ++ r → ((rest : List ℕ) × (p ≡ s ++ rest)) ⊎ ((rest : List ℕ) × (s ≡ p ++ rest) × (0 < length rest))
parts p more s r e =
    elim (cases_lt (length p) (length s)) [
      | inl lt ↦
          let front : take (length p) s ≡ p = sym (take-append-le (length p) s r (omega (arith, lt))) ∙ ap (take (length p)) (sym e) ∙ take_at p more (length p) refl in
          inr (drop (length p) s, sym (take-append-drop (length p) s) ∙ ap (λ (l : List ℕ). l ++ drop (length p) s) front, omega (arith, length-drop (length p) s, lt))
      | inr le ↦
          let front : take (length s) p ≡ s = sym (take-append-le (length s) p more le) ∙ ap (take (length s)) e ∙ take_at s r (length s) refl in
          inl (drop (length s) p, sym (take-append-drop (length s) p) ∙ ap (λ (l : List ℕ). l ++ drop (length s) p) front)
    ]

pub cuts_term : {E : Type 0} (seen_as : TermFault → E) (nodes : ℕ) (front more : List ℕ) → IsBytes (front ++ more)
    → Cuts front (seen_as (Short (length front))) (λ at. with_fault seen_as (term_at nodes front at)) (λ at. with_fault seen_as (term_at nodes (front ++ more) at))
cuts_term {E} seen_as nodes front more ok = record {
  at_cut = λ at x le e.
      let f = found_at nodes at (front ++ more) x (omega (arith, le, length-append front more)) ok (with_fault_ok seen_as (term_at nodes (front ++ more) at) x e) in
      let text : drop at front ++ more ≡ spelling x.0 ++ f.0.text.0 = sym (drop-append-le at front more le) ∙ f.0.text.1 in
      elim (parts (drop at front) more (spelling x.0) f.0.text.0 text) [
        | inl whole ↦
            let read = again_at nodes at front whole.0 x.0 le f.0.limits whole.1 in
            let len : length front - at ≡ length (spelling x.0) + length whole.0 = sym (length-drop at front) ∙ ap length whole.1 ∙ length-append (spelling x.0) whole.0 in
            inl (ap (with_fault seen_as) read ∙ ap (λ (k : ℕ). Ok (x.0, k)) (sym f.1), omega (arith, f.1, len, le))
        | inr cut ↦
            let is = prefix_refused nodes at x.0 (drop at front) cut.0 f.0.limits cut.1 cut.2 in
            let place : at + length (drop at front) ≡ length front = omega (arith, length-drop at front, le) in
            let none = refused_again_at nodes at front (Short (at + length (drop at front))) le is in
            inr (ap (with_fault seen_as) none ∙ ap (λ (k : ℕ). Err (seen_as (Short k))) place)
      ];
}
