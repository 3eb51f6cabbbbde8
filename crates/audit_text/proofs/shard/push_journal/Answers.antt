-- the line of this entry stands after those before
use Rattle.std.proofs.Common.{arith}
use Rattle.std.specs.Prelude.{string_bytes}
use Rattle.agent_core.specs.Views.{entry_of}
use Rattle.audit_text.specs.ShardLines.{shard_line}
use Rattle.audit_text.proofs.Numbering.{told_then}
use Rattle.audit_text.proofs.shard.push_journal.Goals as goal

pub loop-place-preserved : goal.loop-place-preserved
loop-place-preserved c =
    told_then (shard_line c.args.shard) entry_of c.args.journal.now c.loop-place.place c.index-journal-place.result
    (string_bytes c.args.out.now) (string_bytes c.loop-place.out) (string_bytes c.push_entry.new.out)
    (omega arith) c.index-journal-place.is c.loop-place.invariant c.in_ok-push_entry.ensures
