-- the text of this journal stands behind those before
use Rattle.std.proofs.Common.{ℕ, List, [], ◌++◌, ap, ap₂, sym, ◌∙◌, arith, append-nil}
use Rattle.std.specs.Prelude.{string_bytes}
use Rattle.std.proofs.lemmas.List.{take_all}
use Rattle.agent_core.specs.Journals.{Entry, ShardSeen}
use Rattle.audit_text.specs.ObjectLines.{object_text}
use Rattle.audit_text.specs.ShardLines.{shard_text}
use Rattle.audit_text.proofs.Numbering.{told_then}
use Rattle.object_core.specs.Objects.{ObjectEntry, ObjectSeen}
use Rattle.node_journals.specs.AuditOf.{numbered_journal, objects_text, shards_text}
use Rattle.node_journals.proofs.audit.text_of.Goals as goal

pub loop-shard-preserved : goal.loop-shard-preserved
loop-shard-preserved c = (
  omega (arith, c.loop-shard.invariant.0),
  told_then shard_text (λ (s : ShardSeen). s.journal) c.args.shards.now c.loop-shard.shard-index c.shard-item.result [] (string_bytes c.loop-shard.text) (string_bytes c.audit_shard.new.out)
      c.loop-shard-test.true c.shard-item.is c.loop-shard.invariant.1
      (c.in_ok-audit_shard.ensures.told ∙ ap₂ (λ (n : ℕ) (j : List Entry). string_bytes c.loop-shard.text ++ shard_text n j) c.loop-shard.invariant.0 c.journal.ensures.value),
)

pub loop-object-init : goal.loop-object-init
loop-object-init c = c.loop-shard.invariant.1 ∙ ap shards_text (take_all c.loop-shard.shard-index c.args.shards.now (omega (arith, c.loop-shard-test.false))) ∙ sym (append-nil (shards_text c.args.shards.now))

pub loop-object-preserved : goal.loop-object-preserved
loop-object-preserved c =
    told_then (λ place (x : ℕ × List ObjectEntry). object_text x.0 x.1) numbered_journal c.args.objects.now c.loop-object.object-index c.object-item.result (shards_text c.args.shards.now) (string_bytes c.loop-object.text) (string_bytes c.audit_object.new.out)
    c.loop-object-test.true c.object-item.is c.loop-object.invariant
    (c.in_ok-audit_object.ensures.told ∙ ap₂ (λ (n : ℕ) (j : List ObjectEntry). string_bytes c.loop-object.text ++ object_text n j) c.number.ensures c.journal-in-loop-object.ensures.value)

pub returns : goal.returns
returns c = rw c.into_bytes.ensures.value (c.loop-object.invariant ∙ ap (λ (l : List ObjectSeen). shards_text c.args.shards.now ++ objects_text l) (take_all c.loop-object.object-index c.args.objects.now (omega (arith, c.loop-object-test.false))))
