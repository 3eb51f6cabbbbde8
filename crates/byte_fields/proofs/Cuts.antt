-- Readers of bytes that were cut: what stands whole before the cut is read, and else bytes are lacking there.
use Rattle.std.proofs.Common.{◌≡◌, ◌⊎◌, ℕ, zero, suc, ◌+◌, ◌-◌, ◌≤◌, Bool, true, false, cond, eqb, ltb, List, [], ◌∷◌, ◌++◌, length, get_or, take, drop, Option, Some, None, Ok, Err, refl, ap, subst, ◌∙◌, arith, inl, inr, length-drop}
use Rattle.std.specs.Int.{Width, byte_len, from_be_bytes}
use Rattle.std.proofs.lemmas.Bool.{cases_lt, lt-ltb, le-ltb}
use Rattle.std.proofs.lemmas.List.{get_or_append_left, take-append-le, drop-append-le}
use Rattle.byte_fields.specs.Readers.{Reader, followed, passing, made, given, items_behind, counted}
use Rattle.byte_fields.specs.Steps.{◌>>=◌, byte_at, bytes_at, number_at, counted_at, optional_at}
use Rattle.byte_fields.proofs.Results.{bind_ok, ok_is, chosen_ok, chosen, refused_ok}

-- the reader of the cut bytes reads what the reader of the whole does, or finds bytes lacking
pub record Cuts {A E : Type 0} (front : List ℕ) (lack : E) (cut whole : Reader A E) : Type 0 where
  pub at_cut : (at : ℕ) (x : A × ℕ) → at ≤ length front → whole at ≡ Ok x → ((cut at ≡ Ok x) × (x.1 ≤ length front)) ⊎ (cut at ≡ Err lack)

-- ---- one behind another, a test, another value

pub cuts_followed : {A B E : Type 0} {front : List ℕ} {lack : E} {cut whole : Reader A E} {next next_whole : A → Reader B E}
    → Cuts front lack cut whole → ((a : A) → Cuts front lack (next a) (next_whole a)) → Cuts front lack (followed cut next) (followed whole next_whole)
cuts_followed {A} {B} {E} {front} {lack} {cut} {whole} {next} {next_whole} one two = record {
  at_cut = λ at x le e.
      let a = bind_ok (whole at) (λ a. next_whole a.0 a.1 >>= λ b. Ok ((a.0, b.0), b.1)) x e in
      let b = bind_ok (next_whole a.0.0 a.0.1) (λ b. Ok ((a.0.0, b.0), b.1)) x a.2 in
      let both : (A × B) × ℕ = ((a.0.0, b.0.0), b.0.1) in
      let same : both ≡ x = ok_is E both x b.2 in
      elim (one.at_cut at a.0 le a.1) [
        | inl first ↦ elim ((two a.0.0).at_cut a.0.1 b.0 first.1 b.1) [
          | inl second ↦ inl (subst (λ (y : (A × B) × ℕ). (followed cut next at ≡ Ok y) × (y.1 ≤ length front)) same (rw (first.0, second.0) refl, second.1))
          | inr lacking ↦ inr (rw (first.0, lacking) refl)
        ]
        | inr lacking ↦ inr (rw lacking refl)
      ];
}

pub cuts_passing : {A E : Type 0} {front : List ℕ} {lack : E} {cut whole : Reader A E} (test : A → Bool) (fault : ℕ → E) → Cuts front lack cut whole → Cuts front lack (passing test fault cut) (passing test fault whole)
cuts_passing {A} {E} {front} {lack} {cut} {whole} test fault one = record {
  at_cut = λ at x le e.
      let a = bind_ok (whole at) (λ a. cond (test a.0) (Ok a) (Err (fault at))) x e in
      let g = chosen_ok (test a.0.0) (fault at) a.0 x a.2 in
      elim (one.at_cut at a.0 le a.1) [
        | inl first ↦ inl (subst (λ (y : A × ℕ). (passing test fault cut at ≡ Ok y) × (y.1 ≤ length front)) g.1 (rw (first.0, g.0) refl, first.1))
        | inr lacking ↦ inr (rw lacking refl)
      ];
}

pub cuts_made : {A B E : Type 0} {front : List ℕ} {lack : E} {cut whole : Reader A E} (f : A → B) → Cuts front lack cut whole → Cuts front lack (made f cut) (made f whole)
cuts_made {A} {B} {E} {front} {lack} {cut} {whole} f one = record {
  at_cut = λ at x le e.
      let a = bind_ok (whole at) (λ a. Ok (f a.0, a.1)) x e in
      let seen : B × ℕ = (f a.0.0, a.0.1) in
      let same : seen ≡ x = ok_is E seen x a.2 in
      elim (one.at_cut at a.0 le a.1) [
        | inl first ↦ inl (subst (λ (y : B × ℕ). (made f cut at ≡ Ok y) × (y.1 ≤ length front)) same (rw first.0 refl, first.1))
        | inr lacking ↦ inr (rw lacking refl)
      ];
}

pub cuts_given : {A E : Type 0} (front : List ℕ) (lack : E) (x : A) → Cuts front lack (given x) (given x)
cuts_given {A} {E} front lack x = record {
  at_cut = λ at y le e.
      let here : A × ℕ = (x, at) in
      let same : here ≡ y = ok_is E here y e in
      inl (subst (λ (z : A × ℕ). (given {E = E} x at ≡ Ok z) × (z.1 ≤ length front)) same (refl, le));
}

pub cuts_if : {A E : Type 0} {front : List ℕ} {lack : E} (test : Bool) (cut other whole other_whole : Reader A E) → Cuts front lack cut whole → Cuts front lack other other_whole → Cuts front lack (λ at. cond test (cut at) (other at)) (λ at. cond test (whole at) (other_whole at))
cuts_if true cut other whole other_whole one two = one
cuts_if false cut other whole other_whole one two = two

-- ---- items

items_cut : {A E : Type 0} {front : List ℕ} {lack : E} (item whole : List A → Reader A E) → ((before : List A) → Cuts front lack (item before) (whole before)) → (n : ℕ) (before : List A) → Cuts front lack (items_behind item n before) (items_behind whole n before)
unfolding items_behind
items_cut {A} {E} {front} {lack} item whole step zero before = record {
  at_cut = λ at y le e.
      let here : List A × ℕ = (before, at) in
      let same : here ≡ y = ok_is E here y e in
      inl (subst (λ (z : List A × ℕ). (items_behind item zero before at ≡ Ok z) × (z.1 ≤ length front)) same (refl, le));
}
items_cut {A} {E} {front} {lack} item whole step (suc n) before = record {
  at_cut = λ at y le e.
      let a = bind_ok (whole before at) (λ next. items_behind whole n (before ++ next.0 ∷ []) next.1) y e in
      elim ((step before).at_cut at a.0 le a.1) [
        | inl first ↦ elim ((items_cut item whole step n (before ++ a.0.0 ∷ [])).at_cut a.0.1 y first.1 a.2) [
          | inl second ↦ inl (rw (first.0, second.0) refl, second.1)
          | inr lacking ↦ inr (rw (first.0, lacking) refl)
        ]
        | inr lacking ↦ inr (rw lacking refl)
      ];
}

pub cuts_counted : {A E : Type 0} {front : List ℕ} {lack : E} {count count_whole : Reader ℕ E} {item whole : List A → Reader A E} (most : ℕ) (fault : ℕ → E) → Cuts front lack count count_whole → ((before : List A) → Cuts front lack (item before) (whole before))
    → Cuts front lack (counted most fault count item) (counted most fault count_whole whole)
cuts_counted {A} {E} {front} {lack} {count} {count_whole} {item} {whole} most fault one step =
    cuts_made (λ (p : ℕ × List A). p.1) (cuts_followed (cuts_passing _ fault one) (λ n. items_cut item whole step n []))

-- ---- fields

module _ {E : Type 0} (lack short : E) (front more : List ℕ) where
  pub cuts_byte : Cuts front lack (byte_at lack front) (byte_at short (front ++ more))
  unfolding byte_at
  cuts_byte = record {
    at_cut = λ at x le e.
        let g = chosen_ok (ltb at (length (front ++ more))) short (get_or (front ++ more) at 0, at + 1) x e in
        elim (cases_lt at (length front)) [
          | inl lt ↦
              let test : ltb at (length front) ≡ true = lt-ltb _ _ lt in
              let same : get_or (front ++ more) at 0 ≡ get_or front at 0 = get_or_append_left front more 0 at lt in
              inl (subst (λ (y : ℕ × ℕ). (cond (ltb at (length front)) (Ok (get_or front at 0, at + 1)) (Err lack) ≡ Ok y) × (y.1 ≤ length front)) g.1 (rw (test, same) refl, omega (arith, lt)))
          | inr past ↦
              let test : ltb at (length front) ≡ false = le-ltb _ _ past in
              inr (rw test refl)
        ];
  }

  -- so many bytes stand before the cut, or some of them are lacking
  same_bytes : (n at : ℕ) → at + n ≤ length front → take n (drop at (front ++ more)) ≡ take n (drop at front)
  same_bytes n at le =
      ap (take n) (drop-append-le at front more (omega (arith, le))) ∙ take-append-le n (drop at front) more (omega (arith, length-drop at front, le))

  pub cuts_bytes : (n : ℕ) → Cuts front lack (bytes_at lack n front) (bytes_at short n (front ++ more))
  unfolding bytes_at
  cuts_bytes n = record {
    at_cut = λ at x le e.
        let g = refused_ok (ltb (length (front ++ more) - at) n) short (take n (drop at (front ++ more)), at + n) x e in
        elim (cases_lt (length front - at) n) [
          | inl lt ↦
              let test : ltb (length front - at) n ≡ true = lt-ltb _ _ lt in
              inr (rw test refl)
          | inr long ↦
              let test : ltb (length front - at) n ≡ false = le-ltb _ _ long in
              let within : at + n ≤ length front = omega (arith, long, le) in
              inl (subst (λ (y : List ℕ × ℕ). (cond (ltb (length front - at) n) (Err lack) (Ok (take n (drop at front), at + n)) ≡ Ok y) × (y.1 ≤ length front)) g.1 (rw (test, same_bytes n at within) refl, within))
        ];
  }

  pub cuts_number : (w : Width) → Cuts front lack (number_at lack w front) (number_at short w (front ++ more))
  unfolding number_at
  cuts_number w = record {
    at_cut = λ at x le e.
        let n = byte_len w in
        let g = refused_ok (ltb (length (front ++ more) - at) n) short (from_be_bytes w (take n (drop at (front ++ more))), at + n) x e in
        elim (cases_lt (length front - at) n) [
          | inl lt ↦
              let test : ltb (length front - at) n ≡ true = lt-ltb _ _ lt in
              inr (rw test refl)
          | inr long ↦
              let test : ltb (length front - at) n ≡ false = le-ltb _ _ long in
              let within : at + n ≤ length front = omega (arith, long, le) in
              inl (subst (λ (y : ℕ × ℕ). (cond (ltb (length front - at) n) (Err lack) (Ok (from_be_bytes w (take n (drop at front)), at + n)) ≡ Ok y) × (y.1 ≤ length front)) g.1 (rw (test, same_bytes n at within) refl, within))
        ];
  }

  pub cuts_counted_bytes : (w : Width) → Cuts front lack (counted_at lack w front) (counted_at short w (front ++ more))
  unfolding counted_at
  cuts_counted_bytes w = record {
    at_cut = λ at x le e.
        let a = bind_ok (number_at short w (front ++ more) at) (λ n. bytes_at short n.0 (front ++ more) n.1) x e in
        elim ((cuts_number w).at_cut at a.0 le a.1) [
          | inl first ↦ elim ((cuts_bytes a.0.0).at_cut a.0.1 x first.1 a.2) [
            | inl second ↦ inl (rw (first.0, second.0) refl, second.1)
            | inr lacking ↦ inr (rw (first.0, lacking) refl)
          ]
          | inr lacking ↦ inr (rw lacking refl)
        ];
  }

  pub cuts_optional : {A : Type 0} (bad : ℕ → E) (item whole : Reader A E) → Cuts front lack item whole → Cuts front lack (λ at. optional_at lack (bad at) item front at) (λ at. optional_at short (bad at) whole (front ++ more) at)
  unfolding optional_at
  cuts_optional {A} bad item whole one = record {
    at_cut = λ at x le e.
        let a = bind_ok (byte_at short (front ++ more) at) (λ flag. cond (eqb flag.0 0) (Ok (None, flag.1)) (cond (eqb flag.0 1) (whole flag.1 >>= λ x. Ok (Some x.0, x.1)) (Err (bad at)))) x e in
        elim (cuts_byte.at_cut at a.0 le a.1) [
          | inl first ↦ elim (chosen (eqb a.0.0 0) (Ok (None, a.0.1)) (cond (eqb a.0.0 1) (whole a.0.1 >>= λ x. Ok (Some x.0, x.1)) (Err (bad at))) (Ok x) a.2) [
            | inl none ↦
                let here : Option A × ℕ = (None, a.0.1) in
                let same : here ≡ x = ok_is E here x none.1 in
                inl (rw (first.0, none.0) none.1, subst (λ (y : Option A × ℕ). y.1 ≤ length front) same first.1)
            | inr some ↦ elim (chosen (eqb a.0.0 1) (whole a.0.1 >>= λ x. Ok (Some x.0, x.1)) (Err (bad at)) (Ok x) some.1) [
              | inl is_one ↦
                  let b = bind_ok (whole a.0.1) (λ x. Ok (Some x.0, x.1)) x is_one.1 in
                  let made : Option A × ℕ = (Some b.0.0, b.0.1) in
                  let same : made ≡ x = ok_is E made x b.2 in
                  elim (one.at_cut a.0.1 b.0 first.1 b.1) [
                    | inl second ↦ inl (rw (first.0, some.0, is_one.0, second.0) b.2, subst (λ (y : Option A × ℕ). y.1 ≤ length front) same second.1)
                    | inr lacking ↦ inr (rw (first.0, some.0, is_one.0, lacking) refl)
                  ]
              | inr other ↦ absurd (cc (other.1))
            ]
          ]
          | inr lacking ↦ inr (rw lacking refl)
        ];
  }
