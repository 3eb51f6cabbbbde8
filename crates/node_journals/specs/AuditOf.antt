-- The text of the journals that shards and objects have.
use Rattle.std.specs.Prelude.{ℕ, List, ◌++◌, map}
use Rattle.agent_core.specs.Journals.{ShardSeen}
use Rattle.audit_text.specs.Lines.{text_of}
use Rattle.audit_text.specs.ObjectLines.{object_text}
use Rattle.audit_text.specs.ShardLines.{shard_text}
use Rattle.journal_bytes.specs.Limits.{Spells}
use Rattle.journal_bytes.specs.Spelled.{Journals, journals_of}
use Rattle.journal_bytes.specs.Spelling.{journals_bytes}
use Rattle.object_core.specs.Objects.{ObjectEntry, ObjectSeen}
use Rattle.node_journals.specs.declared.audit.Form.{Form}
use Rattle.node_journals.specs.declared.audit.Form.TheVariants as form

-- of journals of shards, in order
abbrev pub shards_text : List ShardSeen → List ℕ
shards_text shards = text_of shard_text (map (λ (s : ShardSeen). s.journal) shards)

-- an object's number, with its journal
abbrev pub numbered_journal : ObjectSeen → ℕ × List ObjectEntry
numbered_journal o = (o.plan.number, o.journal)

-- of objects, in order
abbrev pub objects_text : List ObjectSeen → List ℕ
objects_text objects =
    text_of (λ place (x : ℕ × List ObjectEntry). object_text x.0 x.1) (map numbered_journal objects)

-- of both
abbrev pub all_text : List ShardSeen → List ObjectSeen → List ℕ
all_text shards objects = shards_text shards ++ objects_text objects

-- the journals can be spelled where they are to be bytes: these are the spelling
abbrev pub SpellsAs : Form → Journals → Type 0
SpellsAs form.Text j = Unit {0}
SpellsAs form.Bytes j = Spells j (journals_bytes j)

-- the journals in this form: as text, or as bytes
abbrev pub all_in : Form → List ShardSeen → List ObjectSeen → List ℕ
all_in form.Text shards objects = all_text shards objects
all_in form.Bytes shards objects = journals_bytes (journals_of shards objects)
