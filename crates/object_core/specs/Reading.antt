-- Reading a content, an access list and an operation from left to right, with the first fault that is met.
use Rattle.std.specs.Prelude.{ℕ, List, ◌==◌, if◌then◌else◌}
use Rattle.object_core.specs.declared.limits.TheConstants.{MAX_CONTENT, MAX_ENTRIES, MAX_RIGHTS}
use Rattle.object_core.specs.declared.operation.TheConstants.{LAST_KIND}
use Rattle.object_core.specs.Operation.{Op, Read, Write, SetList, Hold, Discard, Forget, Sweep, Withdraw}
use Rattle.byte_fields.specs.declared.fault.FormatFault.TheVariants.{Malformed}
use Rattle.prin_term.specs.declared.limits.TheConstants.{ENTRY_NODES}
use Rattle.byte_fields.specs.Formats.{FormatReader, ended, u8_in, u16_in, u32_in, within}
use Rattle.byte_fields.specs.Formats.{at_most}
use Rattle.prin_term.specs.TermFields.{term_in}
use Rattle.byte_fields.specs.Readers.{followed, made, given, counted}
use Rattle.byte_fields.specs.Steps.{bytes_at}
use Rattle.prin_term.specs.View.{Grant}

-- a content, after its length
unfoldable pub content_at : List ℕ → FormatReader (List ℕ)
content_at bytes =
    made (λ p. p.1)
    (followed (at_most MAX_CONTENT (u16_in bytes)) (λ n. bytes_at (ended bytes) n bytes))

-- an entry of an access list: its rights, then who has them
unfoldable pub entry_at : List ℕ → FormatReader Grant
entry_at bytes =
    made (λ x. record { rights = x.0; who = x.1 })
    (followed (within 1 MAX_RIGHTS (u8_in bytes)) (λ _. term_in ENTRY_NODES bytes))

-- an access list, after its count
unfoldable pub list_at : List ℕ → FormatReader (List Grant)
list_at bytes = counted MAX_ENTRIES Malformed (u8_in bytes) (λ _. entry_at bytes)

-- the byte that names an operation
abbrev pub kind_at : List ℕ → FormatReader ℕ
kind_at bytes = within 1 LAST_KIND (u8_in bytes)

-- the fields of the operation that a byte names
unfoldable pub fields_at : List ℕ → ℕ → FormatReader Op
fields_at bytes kind at =
    if kind == 1 then given Read at
    else (if kind == 2 then made Write (content_at bytes) at
    else (if kind == 3 then made SetList (list_at bytes) at
    else (if kind == 4 then given Hold at
    else (if kind == 5 then made Discard (bytes_at (ended bytes) 32 bytes) at
    else (if kind == 6 then made Forget (u32_in bytes) at
    else (if kind == 7 then given Sweep at
    else made Withdraw (u32_in bytes) at))))))
