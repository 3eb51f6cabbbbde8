-- More readers by their laws: of nothing, by a test, of a term, of an option, and of bytes behind their length.
use Rattle.std.proofs.Common.{◌≡◌, ℕ, ◌+◌, ◌-◌, ◌<◌, ◌≤◌, Bool, true, false, cond, List, [], ◌++◌, length, drop, Option, Some, None, refl, sym, ap, subst, ◌∙◌, arith, length-append, length-drop}
use Rattle.std.specs.Prelude.{All, IfSome}
use Rattle.std.specs.Int.{Width, to_be_bytes}
use Rattle.std.proofs.lemmas.List.{drop_at}
use Rattle.std.proofs.lemmas.List.Elements.{All-drop}
use Rattle.byte_fields.specs.Readers.{Reader, given}
use Rattle.byte_fields.specs.Steps.{counted, counted_at, optional, optional_at}
use Rattle.byte_fields.proofs.FieldLaws.{IsBytes, IsBytes-drop, IsWide, OptionFits, TakesAt, TakesAt-none, counted_takes, counted_again, optional_takes, optional_again}
use Rattle.byte_fields.proofs.ReaderLaws.{Reads, IsBytes-front}
use Rattle.byte_fields.proofs.Results.{ok_is}

-- a text that is not empty stands within the bytes
pub begins_within : (bytes text rest : List ℕ) (at : ℕ) → drop at bytes ≡ text ++ rest → 0 < length text → at ≤ length bytes
begins_within bytes text rest at e some =
    let len : length bytes - at ≡ length text + length rest = sym (length-drop at bytes) ∙ ap length e ∙ length-append text rest in
    omega (arith, len, some)

-- ---- nothing, and a test

pub reads_given : {A E : Type 0} (bytes : List ℕ) (x : A) → Reads {E = E} bytes (given x) (λ _. []) (λ y. y ≡ x)
reads_given {A} {E} bytes x = record {
  takes = λ ok at y le e.
      let here : A × ℕ = (x, at) in
      subst (λ (y : A × ℕ). TakesAt bytes at [] y.1 × (y.0 ≡ x)) (ok_is E here y e) (TakesAt-none bytes at, refl);
  again = λ at y rest is e.
      let place : at + 0 ≡ at = omega arith in
      rw (is, place) refl;
}

pub reads_if : {A E : Type 0} {bytes : List ℕ} (test : Bool) (first second : Reader A E) (spell : A → List ℕ) (Fits : A → Type 0) → (test ≡ true → Reads bytes first spell Fits) → (test ≡ false → Reads bytes second spell Fits)
    → Reads bytes (λ at. cond test (first at) (second at)) spell Fits
reads_if true first second spell Fits holds fails = holds refl
reads_if false first second spell Fits holds fails = fails refl

-- ---- an option

optional_some : {A : Type 0} (spell : A → List ℕ) (o : Option A) → 0 < length (optional spell o)
optional_some spell None = omega arith
optional_some spell (Some x) = omega arith

fits_if : {A : Type 0} (Fits : A → Type 0) (o : Option A) → OptionFits Fits o → IfSome o Fits
fits_if Fits None is = tt
fits_if Fits (Some x) is = is

if_fits : {A : Type 0} (Fits : A → Type 0) (o : Option A) → IfSome o Fits → OptionFits Fits o
if_fits Fits None is = tt
if_fits Fits (Some x) is = is

pub reads_optional : {A E : Type 0} {bytes : List ℕ} {item : Reader A E} {spell : A → List ℕ} {Fits : A → Type 0} (short : E) (bad : ℕ → E) → Reads bytes item spell Fits
    → Reads bytes (λ at. optional_at short (bad at) item bytes at) (optional spell) (λ o. IfSome o Fits)
reads_optional {A} {E} {bytes} {item} {spell} {Fits} short bad one = record {
  takes = λ ok at x le e.
      let t = optional_takes short (bad at) item spell Fits bytes at x (λ at x le e. one.takes ok at x le e) le e in
      (t.0, fits_if Fits x.0 t.1);
  again = λ at o rest fits e.
      optional_again short (bad at) item spell Fits bytes rest at o (λ at x rest le fits e. one.again at x rest fits e) (begins_within bytes (optional spell o) rest at e (optional_some spell o)) (if_fits Fits o fits) e;
}

-- ---- bytes behind their length

All-behind : (xs ys : List ℕ) → All (λ b. b < 256) (xs ++ ys) → All (λ b. b < 256) ys
All-behind xs ys all = subst (All (λ b. b < 256)) (drop_at xs ys (length xs) refl) (All-drop (λ b. b < 256) (length xs) (xs ++ ys) all)

pub reads_counted_bytes : {E : Type 0} (short : E) (w : Width) (limit : ℕ) → IsWide w limit → (bytes : List ℕ) → Reads bytes (counted_at short w bytes) (counted w) (λ text. (length text < limit) × All (λ b. b < 256) text)
reads_counted_bytes short w limit wide bytes = record {
  takes = λ ok at x le e.
      let t = counted_takes short w limit wide bytes at x ok e in
      let whole : IsBytes ((to_be_bytes w (length x.0) ++ x.0) ++ drop x.1 bytes) = subst (λ (l : List ℕ). IsBytes l) t.0.parts (IsBytes-drop at bytes ok) in
      (t.0, (t.1, All-behind (to_be_bytes w (length x.0)) x.0 (IsBytes-front (to_be_bytes w (length x.0) ++ x.0) (drop x.1 bytes) whole)));
  again = λ at text rest fits e. counted_again short w limit wide bytes text rest at fits.0 e;
}
