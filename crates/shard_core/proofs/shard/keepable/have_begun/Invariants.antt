use Rattle.std.proofs.Common.{ℕ, ◌<◌, map}
use Rattle.stmt_codec.specs.View.{certificates}
use Rattle.agent_core.specs.Journals.{moment_at}
use Rattle.shard_core.specs.Kept.{HasBegun}
use Rattle.agent_core.specs.State.{Plan}
use Rattle.agent_core.specs.Views.{entry_of}
use Rattle.shard_core.proofs.shard.keepable.have_begun.Given as goal

abbrev pub invariant-loop-place : goal.invariant-loop-place
invariant-loop-place l = (plan : Plan) (k : ℕ) → k < l.place → HasBegun (certificates l.cites) (moment_at plan (map entry_of l.entries) l.ask) k
