-- Terms as fields of other formats, by their laws.
use Rattle.std.proofs.Common.{ℕ, ◌<◌, List, length, arith}
use Rattle.std.specs.Prelude.{IfSome}
use Rattle.byte_fields.specs.declared.fault.FormatFault.TheVariants.{Malformed}
use Rattle.byte_fields.specs.Formats.{ended}
use Rattle.byte_fields.specs.Steps.{with_fault, optional}
use Rattle.byte_fields.proofs.FieldReaders.{begins_within, reads_optional}
use Rattle.byte_fields.proofs.ReaderLaws.{Reads}
use Rattle.prin_term.specs.declared.fault.TermFault.{TermFault}
use Rattle.prin_term.specs.Principal.{Principal, Key, Name, And, Quoting, InRole, For, spelling}
use Rattle.prin_term.specs.Reading.{term_at}
use Rattle.prin_term.specs.Refusal.{FitsLimits}
use Rattle.prin_term.specs.TermFields.{seen_as, optional_term_in}
use Rattle.prin_term.proofs.Whole.{term_takes_at, term_again_at}

pub spelling_some : (t : Principal) → 0 < length (spelling t)
spelling_some (Key k) = omega arith
spelling_some (Name n) = omega arith
spelling_some (And a b) = omega arith
spelling_some (Quoting a b) = omega arith
spelling_some (InRole a r) = omega arith
spelling_some (For a b) = omega arith

pub reads_term : {E : Type 0} (seen_as : TermFault → E) (nodes : ℕ) (bytes : List ℕ) → Reads bytes (λ at. with_fault seen_as (term_at nodes bytes at)) spelling (FitsLimits nodes)
reads_term seen_as nodes bytes = record {
  takes = λ ok at x le e. term_takes_at seen_as nodes bytes ok at x le e;
  again = λ at t rest fits e. term_again_at seen_as nodes bytes at t rest (begins_within bytes (spelling t) rest at e (spelling_some t)) fits e;
}

-- nothing, or a term
pub reads_optional_term : (bytes : List ℕ) (nodes : ℕ) → Reads bytes (optional_term_in nodes bytes) (optional spelling) (λ o. IfSome o (FitsLimits nodes))
reads_optional_term bytes nodes = reads_optional (ended bytes) Malformed (reads_term seen_as nodes bytes)
