use Rattle.stmt_codec.specs.View.{certificates}
use Rattle.shard_core.specs.Kept.{DiffersBefore}
use Rattle.shard_core.proofs.shard.keepable.is_first.Given as goal

abbrev pub invariant-loop-earlier : goal.invariant-loop-earlier
invariant-loop-earlier l = DiffersBefore (certificates l.cites) l.place l.earlier
