-- Terms as fields of other formats, with the faults of these.
use Rattle.std.specs.Prelude.{ℕ, List, Option}
use Rattle.byte_fields.specs.declared.fault.FormatFault.{FormatFault}
use Rattle.byte_fields.specs.declared.fault.FormatFault.TheVariants.{Malformed, NoMemory}
use Rattle.byte_fields.specs.Formats.{FormatReader, ended}
use Rattle.byte_fields.specs.Steps.{with_fault, optional_at}
use Rattle.prin_term.specs.declared.fault.TermFault.{TermFault}
use Rattle.prin_term.specs.declared.fault.TermFault.TheVariants as terms
use Rattle.prin_term.specs.Principal.{Principal}
use Rattle.prin_term.specs.Reading.{term_at}

-- a term's fault, as a format's
abbrev pub seen_as : TermFault → FormatFault
seen_as (terms.Tag o) = Malformed o
seen_as (terms.Short o) = Malformed o
seen_as (terms.TooDeep o) = Malformed o
seen_as (terms.TooLarge o) = Malformed o
seen_as terms.NoMemory = NoMemory

-- a term of at most so many nodes
abbrev pub term_in : ℕ → List ℕ → FormatReader Principal
term_in nodes bytes at = with_fault seen_as (term_at nodes bytes at)

-- nothing, or a term of at most so many nodes, after a byte that says whether there is one
abbrev pub optional_term_in : ℕ → List ℕ → FormatReader (Option Principal)
optional_term_in nodes bytes at =
    optional_at (ended bytes) (Malformed at) (term_in nodes bytes) bytes at
