-- What reading a certificate answers, from what it gives as a function.
use Rattle.std.proofs.Common.{◌≡◌, ℕ, ◌+◌, ◌≤◌, List, length, Result, Ok, Err, ap}
use Rattle.std.specs.Prelude.{IfOk, MatchResult}
use Rattle.byte_fields.specs.Steps.{Gives}
use Rattle.byte_fields.proofs.Results.{gives_found, gives_only}
use Rattle.byte_fields.proofs.FieldLaws.{IsBytes}
use Rattle.byte_fields.specs.declared.fault.FormatFault.{FormatFault}
use Rattle.byte_fields.specs.declared.fault.FormatFault.TheVariants.{NoMemory}
use Rattle.stmt_codec.specs.Certificates.{Certificate, body_spelling, IsBodyAt}
use Rattle.stmt_codec.specs.Reading.{body_at}
use Rattle.stmt_codec.proofs.Bodies.{found_at, again_at}

-- of a reader whose values are seen as certificates
pub is_found : {X : Type 0} (see : X → Certificate) (at : ℕ) (bytes : List ℕ) (r : Result (X × ℕ) FormatFault) → at ≤ length bytes → IsBytes bytes → Gives NoMemory (λ x. (see x.0, x.1)) r (body_at bytes at)
    → IfOk r (λ x. IsBodyAt bytes at (see x.0) × (x.1 ≡ at + length (body_spelling (see x.0))))
is_found see at bytes r le fits given =
    gives_found (λ (y : Certificate × ℕ). IsBodyAt bytes at y.0 × (y.1 ≡ at + length (body_spelling y.0))) NoMemory (λ x. (see x.0, x.1)) r (body_at bytes at) given (λ y e. found_at bytes at y le fits e)

-- the value alone, of a reader that gives it with the offset after it
pub value_of : {X Y : Type 0} (see : X → Y) (r : Result (X × ℕ) FormatFault) (y : Y × ℕ) → MatchResult r (λ x. (see x.0, x.1) ≡ y) (λ e. e ≡ NoMemory) → MatchResult r (λ x. see x.0 ≡ y.0) (λ e. e ≡ NoMemory)
value_of {X} {Y} see (Ok x) y h = ap (λ (p : Y × ℕ). p.0) h
value_of see (Err e) y h = h

pub is_only : {X : Type 0} (see : X → Certificate) (at : ℕ) (bytes : List ℕ) (r : Result (X × ℕ) FormatFault) → at ≤ length bytes → Gives NoMemory (λ x. (see x.0, x.1)) r (body_at bytes at)
    → (c : Certificate) → IsBodyAt bytes at c → MatchResult r (λ x. see x.0 ≡ c) (λ e. e ≡ NoMemory)
is_only see at bytes r le given c is =
    let end = at + length (body_spelling c) in
    value_of see r (c, end) (gives_only NoMemory (λ x. (see x.0, x.1)) r (body_at bytes at) (c, end) given (again_at bytes at c le is))
