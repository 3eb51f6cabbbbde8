-- Readers by halves: what a reader takes is what it spells, for each value that a byte before it names; and what is spelled is read.
use Rattle.std.proofs.Common.{◌≡◌, ℕ, ◌+◌, ◌≤◌, Bool, true, false, cond, List, [], ◌++◌, length, drop, Ok, refl, sym, ap, subst, ◌∙◌, arith}
use Rattle.byte_fields.specs.declared.fault.FormatFault.{FormatFault}
use Rattle.byte_fields.specs.Formats.{FormatReader}
use Rattle.byte_fields.specs.Readers.{given, made}
use Rattle.byte_fields.proofs.FieldLaws.{IsBytes, TakesAt}
use Rattle.byte_fields.proofs.FieldReaders.{reads_given}
use Rattle.byte_fields.proofs.ReaderLaws.{Reads}
use Rattle.byte_fields.proofs.Results.{bind_ok, ok_is}

-- what a reader takes is what it spells
abbrev pub Takes : {A : Type 0} → List ℕ → FormatReader A → (A → List ℕ) → (A → Type 0) → Type 0
Takes {A} bytes r spell Fits = IsBytes bytes → (at : ℕ) (x : A × ℕ) → at ≤ length bytes → r at ≡ Ok x → TakesAt bytes at (spell x.0) x.1 × Fits x.0

pub takes_if : {A : Type 0} (bytes : List ℕ) (test : Bool) (first second : FormatReader A) (spell : A → List ℕ) (Fits : A → Type 0) → (test ≡ true → Takes bytes first spell Fits) → (test ≡ false → Takes bytes second spell Fits)
    → Takes bytes (λ at. cond test (first at) (second at)) spell Fits
takes_if bytes true first second spell Fits holds fails = holds refl
takes_if bytes false first second spell Fits holds fails = fails refl

pub takes_made : {A B : Type 0} {bytes : List ℕ} {r : FormatReader A} {sa : A → List ℕ} {Fa : A → Type 0} (f : A → B) (spell : B → List ℕ) (Fits : B → Type 0) → Reads bytes r sa Fa → ((a : A) → Fa a → Fits (f a) × (sa a ≡ spell (f a))) → Takes bytes (made f r) spell Fits
takes_made {A} {B} {bytes} {r} {sa} {Fa} f spell Fits reads forth ok at x le e =
    let a = bind_ok (r at) (λ a. Ok (f a.0, a.1)) x e in
    let t = reads.takes ok at a.0 le a.1 in
    let to = forth a.0.0 t.1 in
    let whole : B × ℕ = (f a.0.0, a.0.1) in
    subst (λ (y : B × ℕ). TakesAt bytes at (spell y.0) y.1 × Fits y.0) (ok_is FormatFault whole x a.2) (subst (λ (l : List ℕ). TakesAt bytes at l a.0.1) to.1 t.0, to.0)

pub takes_given : {B : Type 0} (bytes : List ℕ) (b : B) (spell : B → List ℕ) (Fits : B → Type 0) → spell b ≡ [] → Fits b → Takes bytes (given b) spell Fits
takes_given {B} bytes b spell Fits none fits ok at x le e =
    let reads : Reads {E = FormatFault} bytes (given b) (λ _. []) (λ y. y ≡ b) = reads_given bytes b in
    let t = reads.takes ok at x le e in
    let same : spell x.0 ≡ [] = ap spell t.1 ∙ none in
    (subst (λ (l : List ℕ). TakesAt bytes at l x.1) (sym same) t.0, subst Fits (sym t.1) fits)

-- what is spelled is read, as another value
pub again_made : {A B : Type 0} {bytes : List ℕ} {r : FormatReader A} {sa : A → List ℕ} {Fa : A → Type 0} (f : A → B) → Reads bytes r sa Fa → (at : ℕ) (a : A) (rest : List ℕ) → Fa a → drop at bytes ≡ sa a ++ rest → made f r at ≡ Ok (f a, at + length (sa a))
again_made f reads at a rest fits e = rw (reads.again at a rest fits e) refl

pub again_given : {B : Type 0} (b : B) (at : ℕ) → given {E = FormatFault} b at ≡ Ok (b, at + 0)
again_given b at = let place : at + 0 ≡ at = omega arith in rw place refl
