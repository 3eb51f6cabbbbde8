-- Reading all journals from left to right, with the first fault that is met.
use Rattle.std.specs.Prelude.{◌≡◌, ℕ, List, [], length, Bool, Result, Ok, Err, nat_le, nat_lt}
use Rattle.std.specs.Prelude.{if◌then◌else◌}
use Rattle.byte_fields.specs.declared.fault.FormatFault.{FormatFault}
use Rattle.byte_fields.specs.declared.fault.FormatFault.TheVariants.{Malformed}
use Rattle.byte_fields.specs.Formats.{FormatReader, u8_in, u32_in, u64_in, within}
use Rattle.byte_fields.specs.Readers.{followed, passing, made, items_behind, is_new}
use Rattle.byte_fields.specs.Steps.{◌>>=◌}
use Rattle.object_core.specs.Objects.{ObjectEntry}
use Rattle.journal_bytes.specs.declared.limits.TheConstants.{JOURNALS, VERSION}
use Rattle.journal_bytes.specs.Spelled.{SpelledEntry, ObjectJournal, Journals}
use Rattle.journal_bytes.specs.Reading.{entry_at, ruled_at}

-- a count of any value, and that many items
abbrev pub items_at : {A : Type 0} → FormatReader ℕ → (List A → FormatReader A)
    → FormatReader (List A)
items_at count item = made (λ x. x.1) (followed count (λ n. items_behind item n []))

-- the journal of a shard
unfoldable pub shard_at : List ℕ → FormatReader (List SpelledEntry)
shard_at bytes = items_at (u64_in bytes) (λ _. entry_at bytes)

-- the entries of an object
unfoldable pub rulings_at : List ℕ → FormatReader (List ObjectEntry)
rulings_at bytes = items_at (u64_in bytes) (λ _. ruled_at bytes)

-- the number is above those of the objects before
abbrev pub is_above : List ObjectJournal → ℕ → Bool
is_above before n = is_new (λ (o : ObjectJournal). nat_le n o.number) before

-- the numbers above those of the objects before are those from this least one on
abbrev pub IsLeastAbove : ℕ → List ObjectJournal → Type 0
IsLeastAbove least before = (n : ℕ) → is_above before n ≡ nat_le least n

-- the journal of an object, whose number passes a test; another number is refused at its first byte
unfoldable pub object_by : (ℕ → Bool) → List ℕ → FormatReader ObjectJournal
object_by may_stand bytes =
    made (λ x. record { number = x.0; entries = x.1 })
    (followed (passing may_stand Malformed (u32_in bytes)) (λ _. rulings_at bytes))

-- the journal of an object, whose number is above those before
abbrev pub object_at : List ℕ → List ObjectJournal → FormatReader ObjectJournal
object_at bytes before = object_by (is_above before) bytes

-- the journals of all shards
unfoldable pub shards_at : List ℕ → FormatReader (List (List SpelledEntry))
shards_at bytes = items_at (u32_in bytes) (λ _. shard_at bytes)

-- the journals of all objects
unfoldable pub objects_at : List ℕ → FormatReader (List ObjectJournal)
objects_at bytes = items_at (u32_in bytes) (λ before. object_at bytes before)

-- the byte that says what it is, and the version
unfoldable pub head_at : List ℕ → FormatReader ℕ
head_at bytes =
    made (λ x. x.1)
    (followed (within JOURNALS JOURNALS (u8_in bytes))
    (λ _. within VERSION VERSION (u8_in bytes)))

-- the journals, after what says that they are some
unfoldable pub journals_at : List ℕ → FormatReader Journals
journals_at bytes =
    made (λ x. record { shards = x.1.0; objects = x.1.1 })
    (followed (head_at bytes)
    (λ _. followed (shards_at bytes)
    (λ _. objects_at bytes)))

-- the journals that the bytes spell, or the fault: nothing stands after them. The clauses of
-- `read_journals` pin it to `Spells`, which does not read
unfoldable pub journals_in : List ℕ → Result Journals FormatFault
journals_in bytes = do
  x ← journals_at bytes 0
  if nat_lt x.1 (length bytes) then Err (Malformed x.1) else Ok x.0
