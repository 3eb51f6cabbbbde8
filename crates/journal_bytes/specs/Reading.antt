-- Reading an entry from left to right, with the first fault that is met.
use Rattle.std.specs.Prelude.{ℕ, List, ◌==◌, if◌then◌else◌}
use Rattle.byte_fields.specs.declared.fault.FormatFault.TheVariants.{Malformed}
use Rattle.byte_fields.specs.Formats.{FormatReader, ended, u8_in, u32_in, u64_in, within}
use Rattle.byte_fields.specs.Readers.{followed, passing, made, given}
use Rattle.byte_fields.specs.Steps.{bytes_at}
use Rattle.prin_term.specs.declared.limits.TheConstants.{ENTRY_NODES}
use Rattle.prin_term.specs.TermFields.{term_in}
use Rattle.stmt_codec.specs.Lists.{cited_at}
use Rattle.taos_calculus.specs.ProofReading.{proof_at}
use Rattle.object_core.specs.Objects.{ObjectEntry}
use Rattle.object_core.specs.Operation.{Op}
use Rattle.object_core.specs.Reading as object
use Rattle.object_core.specs.Reading.{list_at, kind_at}
use Rattle.object_core.specs.declared.ruling.Ruling.{Ruling}
use Rattle.object_core.specs.declared.ruling.Ruling.TheVariants as ruling
use Rattle.agent_core.specs.declared.told.DropCause.{DropCause}
use Rattle.agent_core.specs.declared.told.Told.{Told}
use Rattle.agent_core.specs.State.{Ask}
use Rattle.journal_bytes.specs.declared.limits.TheConstants.{LAST_EVENT, MAX_BODIES, MAX_CITES}
use Rattle.journal_bytes.specs.Spelled.{SpelledEvent, Asks, Keeps, Holds, Discards, Forgets}
use Rattle.journal_bytes.specs.Spelled.{Expires, Withdraws, SpelledEntry}
use Rattle.journal_bytes.specs.Limits.{is_right}

-- ---- events

-- a right; another byte is refused at its place
unfoldable pub right_at : List ℕ → FormatReader ℕ
right_at bytes = passing is_right Malformed (u8_in bytes)

-- an Ask
unfoldable pub ask_at : List ℕ → FormatReader Ask
ask_at bytes =
    made (λ x. record {
      channel = x.0;
      seq = x.1.0;
      reading = x.1.1.0;
      subject = x.1.1.1.0;
      list = x.1.1.1.1.0;
      right = x.1.1.1.1.1.0;
      presented = x.1.1.1.1.1.1;
    })
    (followed (u32_in bytes)
    (λ _. followed (u64_in bytes)
    (λ _. followed (u64_in bytes)
    (λ _. followed (term_in ENTRY_NODES bytes)
    (λ _. followed (list_at bytes)
    (λ _. followed (right_at bytes)
    (λ _. cited_at MAX_BODIES bytes)))))))

-- a proof that is to be kept
unfoldable pub keep_at : List ℕ → FormatReader SpelledEvent
keep_at bytes =
    made (λ x. Keeps x.0 x.1.0 x.1.1.0 x.1.1.1)
    (followed (u64_in bytes)
    (λ _. followed (u8_in bytes)
    (λ _. followed (proof_at bytes)
    (λ _. cited_at MAX_CITES bytes))))

-- the fields of the event that a byte names
unfoldable pub event_at : List ℕ → ℕ → FormatReader SpelledEvent
event_at bytes kind at =
    if kind == 1 then made Asks (ask_at bytes) at
    else (if kind == 2 then keep_at bytes at
    else (if kind == 3 then made Holds (cited_at MAX_BODIES bytes) at
    else (if kind == 4 then made Discards (bytes_at (ended bytes) 32 bytes) at
    else (if kind == 5 then made Forgets (u32_in bytes) at
    else (if kind == 6 then made Expires (u64_in bytes) at
    else made Withdraws (u32_in bytes) at)))))

-- ---- what was told

-- what was told of an Ask, by the byte before it
unfoldable pub asked_at : List ℕ → ℕ → FormatReader Told
asked_at bytes mark at =
    if mark == 0 then given Told.Miss at
    else (if mark == 1 then made Told.Hit (u8_in bytes) at
    else (if mark == 2 then made Told.Replayed (u64_in bytes) at
    else made Told.Full (u8_in bytes) at))

-- what was told of a proof that is to be kept, by the byte before it
unfoldable pub kept_at : List ℕ → ℕ → FormatReader Told
kept_at bytes mark at =
    if mark == 0 then given Told.Kept at
    else (if mark == 1
    then made (λ digest. Told.Dropped (DropCause.NotHeld digest)) (bytes_at (ended bytes) 32 bytes) at
    else made (λ x. Told.Dropped (DropCause.Lapsed x.0 x.1))
    (followed (u64_in bytes) (λ _. u64_in bytes)) at)

-- what was told of certificates that are to be held, by the byte before it
unfoldable pub held_at : List ℕ → ℕ → FormatReader Told
held_at bytes mark at =
    if mark == 0 then made Told.Held (u8_in bytes) at
    else made Told.CommonsFull (u8_in bytes) at

-- what was told of an issuer that is to be withdrawn, by the byte before it
unfoldable pub left_at : List ℕ → ℕ → FormatReader Told
left_at bytes mark at =
    if mark == 0 then made Told.Removed (u32_in bytes) at
    else made Told.WithdrawnFull (u8_in bytes) at

-- one of so many answers, by a byte
unfoldable pub answer_at : ℕ → (ℕ → FormatReader Told) → List ℕ → FormatReader Told
answer_at last fields bytes =
    made (λ x. x.1) (followed (within 0 last (u8_in bytes)) (λ mark. fields mark))

-- what was told of an event of this kind
unfoldable pub told_at : List ℕ → ℕ → FormatReader Told
told_at bytes kind at =
    if kind == 1 then answer_at 3 (asked_at bytes) bytes at
    else (if kind == 2 then answer_at 2 (kept_at bytes) bytes at
    else (if kind == 3 then answer_at 1 (held_at bytes) bytes at
    else (if kind == 7 then answer_at 1 (left_at bytes) bytes at
    else made Told.Removed (u32_in bytes) at)))

-- ---- entries

-- an entry of a shard: the byte that names the event, what the event says, and what was told
unfoldable pub entry_at : List ℕ → FormatReader SpelledEntry
entry_at bytes =
    made (λ x. record { event = x.1.0; told = x.1.1 })
    (followed (within 1 LAST_EVENT (u8_in bytes))
    (λ kind. followed (event_at bytes kind) (λ _. told_at bytes kind)))

-- what a ruling says, by the byte before it
unfoldable pub ruled_by : List ℕ → ℕ → FormatReader Ruling
ruled_by bytes mark at =
    if mark == 0 then given ruling.Denied at else made ruling.Granted (u8_in bytes) at

-- a ruling
unfoldable pub ruling_at : List ℕ → FormatReader Ruling
ruling_at bytes =
    made (λ x. x.1) (followed (within 0 1 (u8_in bytes)) (λ mark. ruled_by bytes mark))

-- an operation, after the byte that names it
unfoldable pub op_at : List ℕ → FormatReader Op
op_at bytes = made (λ x. x.1) (followed (kind_at bytes) (λ kind. object.fields_at bytes kind))

-- an entry of an object
unfoldable pub ruled_at : List ℕ → FormatReader ObjectEntry
ruled_at bytes =
    made (λ x. record { shard = x.0; place = x.1.0; op = x.1.1.0; ruling = x.1.1.1 })
    (followed (u32_in bytes)
    (λ _. followed (u64_in bytes)
    (λ _. followed (op_at bytes)
    (λ _. ruling_at bytes))))
