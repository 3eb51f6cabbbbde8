-- Reading an opening from left to right, with the first fault that is met.
use Rattle.std.specs.Prelude.{ℕ, Bool, ◌&&◌, List, length, Result, Ok, Err, nat_le, nat_lt}
use Rattle.std.specs.Prelude.{◌==◌, if◌then◌else◌}
use Rattle.keyed_seal.specs.Keys.{Entries}
use Rattle.object_core.specs.Reading.{content_at, list_at}
use Rattle.prin_term.specs.declared.term.Anchor.{Anchor}
use Rattle.byte_fields.specs.declared.fault.FormatFault.{FormatFault}
use Rattle.byte_fields.specs.declared.fault.FormatFault.TheVariants.{Malformed, NoMemory}
use Rattle.byte_fields.specs.Formats.{FormatReader, ended, u8_in, u16_in, u32_in, u64_in, within}
use Rattle.byte_fields.specs.Readers.{followed, passing, made, counted, is_new}
use Rattle.byte_fields.specs.Steps.{◌>>=◌, with_fault, bytes_at}
use Rattle.sealed_cert.specs.Refusals.{opened}
use Rattle.stmt_codec.specs.Certificates.{Certificate}
use Rattle.stmt_codec.specs.Equality.{same_certificate}
use Rattle.node_file.specs.declared.limits.TheConstants.{MAX_KEEP, MAX_LIMIT, MAX_CHANNELS}
use Rattle.node_file.specs.declared.limits.TheConstants.{MAX_ANCHORS, MAX_COMMONS, MAX_OBJECTS}
use Rattle.node_file.specs.declared.limits.TheConstants.{MAX_SHARDS, MAX_ROOM}
use Rattle.prin_text.specs.declared.lines.fault.FileFault.{FileFault}
use Rattle.prin_text.specs.declared.lines.fault.FileFault.TheVariants.{Line, Byte}
use Rattle.prin_text.specs.declared.lines.fault.FileFault.TheVariants as files
use Rattle.node_file.specs.declared.opening.head.Head.{Head}
use Rattle.object_core.specs.Objects.{ObjectPlan}
use Rattle.node_file.specs.Opening.{Opening, journal_room, no_texts}

-- a key of 32 bytes
abbrev pub key_in : List ℕ → FormatReader (List ℕ)
key_in bytes = bytes_at (ended bytes) 32 bytes

-- a number that has to be this one; another is refused at its first byte
abbrev pub exactly : ℕ → FormatReader ℕ → FormatReader ℕ
exactly wanted r = passing (λ n. n == wanted) Malformed r

-- ---- the fields before the lists

-- the mark of an opening: the bytes 0 and 1
unfoldable pub mark_at : List ℕ → FormatReader (ℕ × ℕ)
mark_at bytes = followed (exactly 0 (u8_in bytes)) (λ _. exactly 1 (u8_in bytes))

-- a number of eight bytes that lies between the two
unfoldable pub number_in : ℕ → ℕ → List ℕ → FormatReader ℕ
number_in low high bytes = within low high (u64_in bytes)

-- how many shards there are, from one to the most
unfoldable pub shards_at : List ℕ → FormatReader ℕ
shards_at bytes = within 1 MAX_SHARDS (u32_in bytes)

-- the mark, the node's number, its relay key, how many shards, `keep` and `limit`
unfoldable pub head_at : List ℕ → FormatReader Head
head_at bytes =
    made (λ x. record {
      node = x.1.0;
      relay_key = x.1.1.0;
      shards = x.1.1.1.0;
      keep = x.1.1.1.1.0;
      limit = x.1.1.1.1.1;
    })
    (followed (mark_at bytes)
    (λ _. followed (u32_in bytes)
    (λ _. followed (key_in bytes)
    (λ _. followed (shards_at bytes)
    (λ _. followed (number_in 1 MAX_KEEP bytes)
    (λ _. number_in 1 MAX_LIMIT bytes))))))

-- ---- channels

-- a channel's number that none of the channels before has
unfoldable pub new_channel_at : List ℕ → Entries → FormatReader ℕ
new_channel_at bytes before =
    passing (λ n. is_new (λ (c : ℕ × List ℕ). c.0 == n) before) Malformed (u32_in bytes)

-- a channel whose number is new, with its key
unfoldable pub channel_at : List ℕ → Entries → FormatReader (ℕ × List ℕ)
channel_at bytes before = followed (new_channel_at bytes before) (λ _. key_in bytes)

-- the channels, after their count
unfoldable pub channels_at : List ℕ → FormatReader Entries
channels_at bytes = counted MAX_CHANNELS Malformed (u16_in bytes) (channel_at bytes)

-- ---- anchors

-- both have one key and one name
abbrev pub same_anchor : Anchor → Anchor → Bool
same_anchor a b = (b.key == a.key) && (b.name == a.name)

-- an anchor that is not among those before
unfoldable pub anchor_at : List ℕ → List Anchor → FormatReader Anchor
anchor_at bytes before =
    passing (λ a. is_new (same_anchor a) before) Malformed
    (made (λ x. record { key = x.0; name = x.1 })
    (followed (u32_in bytes) (λ _. u32_in bytes)))

-- the anchors, after their count
unfoldable pub anchors_at : List ℕ → FormatReader (List Anchor)
anchors_at bytes = counted MAX_ANCHORS Malformed (u8_in bytes) (anchor_at bytes)

-- ---- the certificates held in common

-- the certificate that so many bytes open to under the relay's key; where they open to none the
-- fault is at their first
unfoldable pub opened_in : List ℕ → List ℕ → ℕ → FormatReader Certificate
opened_in bytes relay_key count at = do
  text ← bytes_at (ended bytes) count bytes at
  c ← with_fault (λ _. Malformed at) (opened relay_key text.0)
  Ok (c, text.1)

-- a length, and a certificate of that length that is not among those before
unfoldable pub common_at : List ℕ → List ℕ → List Certificate → FormatReader Certificate
common_at bytes relay_key before =
    made (λ p. p.1)
    (followed (u16_in bytes)
    (λ count. passing (λ c. is_new (same_certificate c) before) Malformed
    (opened_in bytes relay_key count)))

-- the certificates held in common, after their count
unfoldable pub commons_at : List ℕ → List ℕ → FormatReader (List Certificate)
commons_at bytes relay_key = counted MAX_COMMONS Malformed (u8_in bytes) (common_at bytes relay_key)

-- ---- objects

-- an object's number that none of the objects before has
unfoldable pub new_object_at : List ℕ → List ObjectPlan → FormatReader ℕ
new_object_at bytes before =
    passing (λ n. is_new (λ (p : ObjectPlan). p.number == n) before) Malformed (u32_in bytes)

-- an object whose number is new: then its content and its access list
unfoldable pub object_at : List ℕ → List ObjectPlan → FormatReader ObjectPlan
object_at bytes before =
    made (λ x. record { number = x.0; content = x.1.0; list = x.1.1 })
    (followed (new_object_at bytes before)
    (λ _. followed (content_at bytes) (λ _. list_at bytes)))

-- the objects, after their count
unfoldable pub objects_at : List ℕ → FormatReader (List ObjectPlan)
objects_at bytes = counted MAX_OBJECTS Malformed (u16_in bytes) (object_at bytes)

-- ---- the whole

-- all fields in their order; the commons open under the relay key that was read
unfoldable pub fields_at : List ℕ → FormatReader Opening
fields_at bytes =
    made (λ x. record {
      node = x.0.node;
      relay_key = x.0.relay_key;
      shards = x.0.shards;
      keep = x.0.keep;
      limit = x.0.limit;
      names = no_texts;
      channels = x.1.0;
      anchors = x.1.1.0;
      commons = x.1.1.1.0;
      objects = x.1.1.1.1;
    })
    (followed (head_at bytes)
    (λ head. followed (channels_at bytes)
    (λ _. followed (anchors_at bytes)
    (λ _. followed (commons_at bytes head.relay_key)
    (λ _. objects_at bytes)))))

-- the opening that the bytes spell, or the fault: nothing stands after the fields, and the
-- journals have room. The clauses of `read_opening` pin it to `Spells`, which does not read
unfoldable pub opening_of : List ℕ → Result Opening FormatFault
opening_of bytes = do
  x ← fields_at bytes 0
  if nat_lt x.1 (length bytes) then Err (Malformed x.1)
      else (if nat_le (journal_room x.0) MAX_ROOM then Ok x.0 else Err (ended bytes))

-- a fault of the binary form, as a file's
abbrev pub at_byte : FormatFault → FileFault
at_byte (Malformed o) = Byte o
at_byte NoMemory = files.NoMemory
