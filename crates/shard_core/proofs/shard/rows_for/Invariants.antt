use Rattle.shard_core.specs.Kept.{AreNew}
use Rattle.shard_core.proofs.shard.rows_for.Given as goal

abbrev pub invariant-loop-i : goal.invariant-loop-i
invariant-loop-i l = AreNew l.rows.items l.i
