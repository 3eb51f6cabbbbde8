-- the journals before this one are told
use Rattle.std.proofs.Common.{◌≡◌, ◌++◌, take}
use Rattle.std.specs.Prelude.{string_bytes}
use Rattle.node_journals.specs.AuditOf.{objects_text, shards_text}
use Rattle.node_journals.proofs.audit.text_of.Given as goal

abbrev pub invariant-loop-shard : goal.invariant-loop-shard
invariant-loop-shard l = (l.number ≡ l.shard-index) × (string_bytes l.text ≡ shards_text (take l.shard-index l.fn.shards))

abbrev pub invariant-loop-object : goal.invariant-loop-object
invariant-loop-object l = string_bytes l.text ≡ shards_text l.fn.shards ++ objects_text (take l.object-index l.fn.objects)
