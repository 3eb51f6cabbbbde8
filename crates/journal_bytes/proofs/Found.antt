-- What the readers of an entry answer, from what they give as functions.
use Rattle.std.proofs.Common.{◌≡◌, ℕ, ◌+◌, ◌≤◌, List, length, Result, refl}
use Rattle.std.specs.Prelude.{IfOk, MatchResult}
use Rattle.byte_fields.specs.declared.fault.FormatFault.{FormatFault}
use Rattle.byte_fields.specs.declared.fault.FormatFault.TheVariants.{NoMemory}
use Rattle.byte_fields.specs.Steps.{Gives}
use Rattle.byte_fields.proofs.FieldLaws.{IsBytes}
use Rattle.byte_fields.proofs.Results.{gives_found, gives_only}
use Rattle.object_core.specs.Objects.{ObjectEntry}
use Rattle.stmt_codec.proofs.Certs.{value_of}
use Rattle.journal_bytes.specs.Limits.{IsEntryAt, IsRuledAt}
use Rattle.journal_bytes.specs.Reading.{entry_at, ruled_at}
use Rattle.journal_bytes.specs.Spelled.{SpelledEntry}
use Rattle.journal_bytes.specs.Spelling.{entry_bytes, ruled_bytes}
use Rattle.journal_bytes.proofs.Entries.{entry_takes, entry_again}
use Rattle.journal_bytes.proofs.Rulings.{ruled_takes_all, ruled_again_all}

module _ {X : Type 0} (bytes : List ℕ) (at : ℕ) (r : Result (X × ℕ) FormatFault) where
  pub entry_found : (see : X → SpelledEntry) → at ≤ length bytes → IsBytes bytes → Gives NoMemory (λ x. (see x.0, x.1)) r (entry_at bytes at) → IfOk r (λ x. IsEntryAt bytes at (see x.0) × (x.1 ≡ at + length (entry_bytes (see x.0))))
  entry_found see le ok given =
      gives_found (λ (y : SpelledEntry × ℕ). IsEntryAt bytes at y.0 × (y.1 ≡ at + length (entry_bytes y.0))) NoMemory (λ x. (see x.0, x.1)) r (entry_at bytes at) given (λ y e. entry_takes bytes ok y.0 at y.1 le e)

  pub entry_only : (see : X → SpelledEntry) → Gives NoMemory (λ x. (see x.0, x.1)) r (entry_at bytes at) → (e : SpelledEntry) → IsEntryAt bytes at e → MatchResult r (λ x. see x.0 ≡ e) (λ f. f ≡ NoMemory)
  entry_only see given e is =
      let end = at + length (entry_bytes e) in
      value_of see r (e, end) (gives_only NoMemory (λ x. (see x.0, x.1)) r (entry_at bytes at) (e, end) given (entry_again bytes e at end is refl))

  pub ruled_found : (see : X → ObjectEntry) → at ≤ length bytes → IsBytes bytes → Gives NoMemory (λ x. (see x.0, x.1)) r (ruled_at bytes at) → IfOk r (λ x. IsRuledAt bytes at (see x.0) × (x.1 ≡ at + length (ruled_bytes (see x.0))))
  ruled_found see le ok given =
      gives_found (λ (y : ObjectEntry × ℕ). IsRuledAt bytes at y.0 × (y.1 ≡ at + length (ruled_bytes y.0))) NoMemory (λ x. (see x.0, x.1)) r (ruled_at bytes at) given (λ y e. ruled_takes_all bytes ok y.0 at y.1 le e)

  pub ruled_only : (see : X → ObjectEntry) → Gives NoMemory (λ x. (see x.0, x.1)) r (ruled_at bytes at) → (e : ObjectEntry) → IsRuledAt bytes at e → MatchResult r (λ x. see x.0 ≡ e) (λ f. f ≡ NoMemory)
  ruled_only see given e is =
      let end = at + length (ruled_bytes e) in
      value_of see r (e, end) (gives_only NoMemory (λ x. (see x.0, x.1)) r (ruled_at bytes at) (e, end) given (ruled_again_all bytes e at end is refl))
