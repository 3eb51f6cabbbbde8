-- Reading a reply from left to right, with the first fault that is met.
use Rattle.std.specs.Prelude.{ℕ, Bool, List, length, Result, Ok, Err, nat_le}
use Rattle.std.specs.Prelude.{nat_lt, ◌==◌, if◌then◌else◌}
use Rattle.std.specs.Int.{w16}
use Rattle.prin_term.specs.declared.limits.TheConstants.{ENTRY_NODES}
use Rattle.byte_fields.specs.Readers.{followed, passing, made, given}
use Rattle.byte_fields.specs.Steps.{◌>>=◌, bytes_at, counted_at}
use Rattle.stmt_codec.specs.Lists.{cited_at}
use Rattle.taos_calculus.specs.ProofReading.{proof_at}
use Rattle.byte_fields.specs.declared.fault.FormatFault.{FormatFault as WireFault}
use Rattle.byte_fields.specs.declared.fault.FormatFault.TheVariants as faults
use Rattle.taos_wire.specs.declared.reply.TheConstants.{LAST_STATUS, MAX_CITED}
use Rattle.byte_fields.specs.Formats.{FormatReader, ended, u8_in}
use Rattle.byte_fields.specs.Formats.{u32_in, u64_in, within}
use Rattle.prin_term.specs.TermFields.{term_in}
use Rattle.taos_wire.specs.Reply.{Reply, Granted, Denied, Malformed, UnknownChannel, BadSeal}
use Rattle.taos_wire.specs.Reply.{Replayed, CertRefused, ChannelFull, RelayFailed, UnknownObject}
use Rattle.taos_wire.specs.Reply.{JournalFull, NoMemory, CommonsFull, NotHeld, WithdrawnFull, LinkSent}
use Rattle.taos_wire.specs.Reply.{Expired, Missing, NoEntry, Early}
use Rattle.taos_wire.specs.RequestReading.{tag_at}

-- the version, the channel and the number that are answered
unfoldable pub answered_at : List ℕ → FormatReader (ℕ × ℕ)
answered_at bytes =
    made (λ x. x.1)
    (followed (within 4 4 (u8_in bytes))
    (λ _. followed (u32_in bytes) (λ _. u64_in bytes)))

-- a shard, and a place of its journal
unfoldable pub place_at : List ℕ → FormatReader (ℕ × ℕ)
place_at bytes = followed (u32_in bytes) (λ _. u64_in bytes)

-- ---- a grant

-- the fields of a grant
unfoldable pub granted_at : List ℕ → FormatReader Reply
granted_at bytes =
    made (λ x. Granted (x.0 == 1) x.1.0 x.1.1.0.0 x.1.1.0.1 x.1.1.1.0 x.1.1.1.1.0 x.1.1.1.1.1)
    (followed (within 0 1 (u8_in bytes))
    (λ _. followed (u8_in bytes)
    (λ _. followed (place_at bytes)
    (λ _. followed (proof_at bytes)
    (λ _. followed (cited_at MAX_CITED bytes)
    (λ _. counted_at (ended bytes) w16 bytes))))))

-- ---- a denial

-- an entry, and the digest of a certificate
unfoldable pub digest_at : List ℕ → FormatReader (ℕ × List ℕ)
digest_at bytes = followed (u8_in bytes) (λ _. bytes_at (ended bytes) 32 bytes)

-- the link that a byte names
unfoldable pub named_at : List ℕ → ℕ → FormatReader LinkSent
named_at bytes kind at =
    if kind == 1 then made (λ x. Expired x.0 x.1) (digest_at bytes) at
    else (if kind == 2 then made (λ x. Missing x.0 x.1)
    (followed (u8_in bytes) (λ _. term_in ENTRY_NODES bytes)) at
    else (if kind == 3 then given NoEntry at
    else made (λ x. Early x.0 x.1) (digest_at bytes) at))

-- what a denial names, by the byte before it
unfoldable pub link_at : List ℕ → FormatReader LinkSent
link_at bytes = made (λ x. x.1) (followed (within 1 4 (u8_in bytes)) (λ kind. named_at bytes kind))

-- the fields of a denial
unfoldable pub denied_at : List ℕ → FormatReader Reply
denied_at bytes =
    made (λ x. Denied x.0.0 x.0.1 x.1) (followed (place_at bytes) (λ _. link_at bytes))

-- ---- the whole

-- the byte names a kind of reply
abbrev pub is_status : ℕ → Bool
is_status s = nat_le s LAST_STATUS

-- the fields that a status has
unfoldable pub fields_at : List ℕ → ℕ → FormatReader Reply
fields_at bytes status at =
    if status == 0 then granted_at bytes at
    else (if status == 1 then denied_at bytes at
    else (if status == 2 then made Malformed (u32_in bytes) at
    else (if status == 3 then made UnknownChannel (u32_in bytes) at
    else (if status == 4 then given BadSeal at
    else (if status == 5 then made Replayed (u64_in bytes) at
    else (if status == 6 then made (λ x. CertRefused x.0 x.1)
    (followed (u8_in bytes) (λ _. u8_in bytes)) at
    else (if status == 7 then made ChannelFull (u8_in bytes) at
    else (if status == 8 then made RelayFailed (u8_in bytes) at
    else (if status == 9 then made UnknownObject (u32_in bytes) at
    else (if status == 10 then made (λ x. JournalFull x.0 x.1.0 x.1.1)
    (followed (within 0 1 (u8_in bytes)) (λ _. place_at bytes)) at
    else (if status == 11 then given NoMemory at
    else (if status == 12 then made (λ x. CommonsFull x.0 x.1)
    (followed (u8_in bytes) (λ _. u32_in bytes)) at
    else (if status == 13 then made NotHeld (bytes_at (ended bytes) 32 bytes) at
    else made (λ x. WithdrawnFull x.0 x.1)
    (followed (u8_in bytes) (λ _. u32_in bytes)) at)))))))))))))

-- the status, and the fields that it has
unfoldable pub status_at : List ℕ → FormatReader Reply
status_at bytes =
    made (λ x. x.1)
    (followed (passing is_status faults.Malformed (u8_in bytes)) (λ status. fields_at bytes status))

-- the channel, the number and the reply; and the tag
unfoldable pub reply_at : List ℕ → FormatReader ((ℕ × ℕ × Reply) × List ℕ)
reply_at bytes =
    made (λ x. ((x.0.0, x.0.1, x.1.0), x.1.1))
    (followed (answered_at bytes)
    (λ _. followed (status_at bytes)
    (λ _. tag_at bytes)))

-- the channel, the number and the reply that the bytes spell, or the fault: nothing stands after
-- the tag. The clauses of `read_reply` pin it to `SpellsReply`, which does not read
unfoldable pub reply_of : List ℕ → Result (ℕ × ℕ × Reply) WireFault
reply_of bytes = do
  x ← reply_at bytes 0
  if nat_lt x.1 (length bytes) then Err (faults.Malformed x.1) else Ok x.0.0
