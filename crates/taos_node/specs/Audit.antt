-- What an audit prints: the journals of a connection that a node served.
use Rattle.std.specs.Prelude.{◌≡◌, ◌⊎◌, ℕ, ◌<◌, ◌≤◌, List, ◌++◌, length, All, Option, Some}
use Rattle.std.specs.Io.KnownBytes.{Appends, Keeps}
use Rattle.frame_link.specs.declared.outcome.Outcome.{Outcome}
use Rattle.frame_link.specs.declared.outcome.Outcome.TheVariants.{End, NoMemory, WriteFault}
use Rattle.frame_link.specs.declared.service.TheConstants.{MAX_PAYLOAD}
use Rattle.frame_link.specs.Frames.{framed}
use Rattle.frame_link.specs.Served.{FaultCounts, CountsCause, Line, StandStill, counts_of}
use Rattle.node_journals.specs.declared.audit.AuditEnd.{AuditEnd}
use Rattle.node_journals.specs.declared.audit.AuditEnd.TheVariants as audit
use Rattle.taos_node.specs.Calls.{LaneUsed, clock_count}

-- the outcome is the end of whole frames
abbrev pub IsEnd : Outcome → Type 0
IsEnd outcome = (frames : ℕ) × (outcome ≡ End frames)

-- What is written of the text, by how it ends: where the connection ended with whole frames the text,
-- or a proper front of it where a write failed; else nothing.
abbrev pub WritesAudit : List ℕ → Outcome → (out0 out1 : Option (List ℕ)) → AuditEnd → Type 0
WritesAudit text outcome out0 out1 audit.Done = IsEnd outcome × Appends out0 out1 text
WritesAudit text outcome out0 out1 (audit.Stopped other) =
    (other ≡ outcome) × (IsEnd outcome → ⊥) × Keeps out0 out1
WritesAudit text outcome out0 out1 audit.WriteFault =
    IsEnd outcome
    × ((part more : List ℕ) × (text ≡ part ++ more) × (0 < length more) × Appends out0 out1 part)
WritesAudit text outcome out0 out1 audit.NoMemory = IsEnd outcome × Keeps out0 out1

-- so often the input, the output and the clock have failed
abbrev pub counts : (input output clock : ℕ) → FaultCounts
counts input output clock = record { input = input; output = output; clock = clock }

-- when a fault may be answered: its count rose, and each other stayed as it was
abbrev pub AuditCauses : FaultCounts → FaultCounts → AuditEnd → Type 0
AuditCauses before after audit.Done = after ≡ before
AuditCauses before after (audit.Stopped outcome) = CountsCause before after outcome
AuditCauses before after audit.WriteFault = CountsCause before after WriteFault
AuditCauses before after audit.NoMemory = after ≡ before

-- the same of what the first lane's connection was served over
abbrev pub HasAuditCauses : (before after : Line LaneUsed) → AuditEnd → Type 0
HasAuditCauses before after =
    AuditCauses (counts_of clock_count before) (counts_of clock_count after)

-- Nothing else stops it: where the input is whole frames, not more than may be answered, and no count
-- rises, the text is written, unless memory was refused.
abbrev pub AuditIsComplete : ℕ → Option (List ℕ) → FaultCounts → FaultCounts → AuditEnd → Type 0
AuditIsComplete limit input before after end =
    (payloads : List (List ℕ)) → input ≡ Some (framed payloads) →
    All (λ p. length p ≤ MAX_PAYLOAD) payloads → length payloads ≤ limit →
    StandStill before after →
    (end ≡ audit.Done) ⊎ ((end ≡ audit.NoMemory) ⊎ (end ≡ audit.Stopped NoMemory))

-- the same of what the first lane's connection was served over
abbrev pub EndsAuditWhole : ℕ → (before after : Line LaneUsed) → AuditEnd → Type 0
EndsAuditWhole limit before after =
    AuditIsComplete limit before.input.told (counts_of clock_count before)
    (counts_of clock_count after)
