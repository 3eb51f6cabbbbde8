-- the text is that of the node's journals
use Rattle.std.proofs.KnownBytes.{Keeps-refl}
use Rattle.std.proofs.Common.{◌≡◌, List, subst₂}
use Rattle.std.specs.Prelude.{All}
use Rattle.agent_core.specs.Journals.{ShardSeen}
use Rattle.object_core.specs.Objects.{ObjectSeen}
use Rattle.journal_bytes.specs.Limits.{AsksWithin, NumbersRise}
use Rattle.journal_bytes.specs.Spelled.{journals_of}
use Rattle.node_journals.specs.AuditOf.{SpellsAs}
use Rattle.node_journals.specs.declared.audit.Form.{Form}
use Rattle.node_journals.proofs.audit.write_text.Goals as goal

-- of these shards and objects
abbrev CanBeSpelled : Form → List ShardSeen → List ObjectSeen → Type 0
CanBeSpelled form shards objects = All AsksWithin shards → NumbersRise objects → SpellsAs form (journals_of shards objects)

pub returns-in_default-clause-writes : goal.returns-in_default-clause-writes
returns-in_default-clause-writes g c = Keeps-refl (g.O.Sink.shown c.args.output.now).told

pub returns-clause-writes : goal.returns-clause-writes
returns-clause-writes g c =
    let part = c.in-Err.ensures.part in
    (part.0, part.1, cc (c.in-Ok.ensures.text, c.deref.ensures.value, c.deref-2.ensures.value, c.close-shards.ensures, c.close-objects.ensures, c.deref-3.ensures.value, part.2), part.3, part.4)

pub returns-in_default-clause-spelled : goal.returns-in_default-clause-spelled
returns-in_default-clause-spelled g c = λ within rise none. absurd none

pub returns-in-Ok-pour-clause-spelled : goal.returns-in-Ok-pour-clause-spelled
returns-in-Ok-pour-clause-spelled g c = λ within rise made.
    let shards : c.deref.result.now ≡ c.args.node.shards.shards = cc (c.deref.ensures.value, c.close-shards.ensures) in
    let objects : c.deref-2.result.now ≡ c.args.node.shelf.objects = cc (c.deref-2.ensures.value, c.close-objects.ensures) in
    subst₂ (CanBeSpelled c.args.form) shards objects c.in-Ok.ensures.spelled within rise

pub returns-clause-spelled : goal.returns-clause-spelled
returns-clause-spelled g c = λ within rise made.
    let shards : c.deref.result.now ≡ c.args.node.shards.shards = cc (c.deref.ensures.value, c.close-shards.ensures) in
    let objects : c.deref-2.result.now ≡ c.args.node.shelf.objects = cc (c.deref-2.ensures.value, c.close-objects.ensures) in
    subst₂ (CanBeSpelled c.args.form) shards objects c.in-Ok.ensures.spelled within rise
