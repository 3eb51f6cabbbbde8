-- What is printed of the journals of a node.
use Rattle.std.specs.Prelude.{◌≡◌, ◌↔◌, ℕ, ◌<◌, ◌≤◌, List, ◌++◌, length, map, Contains, IsSome, Option}
use Rattle.std.specs.Io.KnownBytes.{Appends, Keeps}
use Rattle.std.specs.List.{flat_map, range_with_len}
use Rattle.std.specs.List.Sorted.{IsStrictlyIncreasing}
use Rattle.audit_text.specs.ObjectLines.{object_text}
use Rattle.audit_text.specs.ShardLines.{shard_text}
use Rattle.frame_link.specs.Faults.{Rose}
use Rattle.journal_bytes.specs.Spelled.{Journals as Spelled, numbered, spelled}
use Rattle.journal_bytes.specs.Spelling.{journals_bytes}
use Rattle.audit_replay.specs.declared.replayed.Replayed.{Replayed}
use Rattle.audit_replay.specs.Replays.{IsReplayed}
use Rattle.node_file.specs.Opening.{Opening}
use Rattle.shard_core.specs.Cells.{AreCellsOf, Cells}
use Rattle.object_core.specs.Objects.{object_of}
use Rattle.request_course.specs.Cells.{Journals}
use Rattle.node_journals.specs.declared.audit.Form.{Form}
use Rattle.node_journals.specs.declared.audit.Form.TheVariants as form
use Rattle.node_journals.specs.declared.audit.AuditEnd.{AuditEnd}
use Rattle.node_journals.specs.declared.audit.AuditEnd.TheVariants as audit

-- these are the numbers of the opening's objects, ascending
pub record AreNumbersOf (o : Opening) (numbers : List ℕ) : Type 0 where
  pub ascending : IsStrictlyIncreasing numbers
  pub are : (number : ℕ) → Contains numbers number ↔ IsSome (object_of o.objects number)

-- the text of so many shards' journals, in order, and then of those of the objects of these numbers
abbrev pub journals_text : ℕ → List ℕ → Journals → List ℕ
journals_text shards numbers j =
    flat_map (λ shard. shard_text shard (j.shards shard)) (range_with_len 0 shards)
    ++ flat_map (λ number. object_text number (j.objects number)) numbers

-- the same journals, as they are spelled
abbrev pub journals_spelled : ℕ → List ℕ → Journals → Spelled
journals_spelled shards numbers j = record {
  shards = map (λ shard. map spelled (j.shards shard)) (range_with_len 0 shards);
  objects = map (λ number. numbered number (j.objects number)) numbers;
}

-- the journals in this form: as text, or as bytes
abbrev pub journals_in : Form → ℕ → List ℕ → Journals → List ℕ
journals_in form.Text shards numbers j = journals_text shards numbers j
journals_in form.Bytes shards numbers j = journals_bytes (journals_spelled shards numbers j)

-- what is printed of the journals of a node of the opening
pub record IsAuditOf (form : Form) (o : Opening) (j : Journals) (text : List ℕ) : Type 0 where
  pub numbers : List ℕ
  pub are : AreNumbersOf o numbers
  pub is : text ≡ journals_in form o.shards numbers j

-- bytes are replayed as those of legal journals, beside the cells of the opening
pub record AreReplayedAt (o : Opening) (bytes : List ℕ) : Type 0 where
  pub cells : Cells
  pub are : AreCellsOf o cells
  pub entries : ℕ
  pub legal : IsReplayed cells bytes (Replayed.Legal entries)

-- so are those of journals that are printed as bytes
abbrev pub AreLegalAs : Form → Opening → List ℕ → Type 0
AreLegalAs form.Text o text = Unit {0}
AreLegalAs form.Bytes o text = AreReplayedAt o text

-- the text was made, and written, or a proper front of it
abbrev pub WasMade : AuditEnd → Type 0
WasMade audit.Done = Unit {0}
WasMade (audit.Stopped outcome) = ⊥
WasMade audit.WriteFault = Unit {0}
WasMade audit.NoMemory = ⊥

-- what is written of a text: all, or a proper front where a write failed, or nothing
abbrev pub WritesText : List ℕ → (out0 out1 : Option (List ℕ)) → AuditEnd → Type 0
WritesText text out0 out1 audit.Done = Appends out0 out1 text
WritesText text out0 out1 (audit.Stopped other) = ⊥
WritesText text out0 out1 audit.WriteFault =
    (part more : List ℕ) × (text ≡ part ++ more) × (0 < length more) × Appends out0 out1 part
WritesText text out0 out1 audit.NoMemory = Keeps out0 out1

-- the output's count rose where its fault is answered, and else stayed
abbrev pub TextHasCause : ℕ → ℕ → AuditEnd → Type 0
TextHasCause out0 out1 audit.WriteFault = (out0 ≤ out1) × Rose out0 out1
TextHasCause out0 out1 other = out1 ≡ out0
