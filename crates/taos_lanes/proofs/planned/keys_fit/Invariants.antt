use Rattle.std.proofs.Common.{◌≡◌, ℕ, ◌<◌, List, Some, slice_get}
use Rattle.shard_core.specs.Alone.{plans_in}
use Rattle.taos_monitor.specs.Planned.{IsPlanned}
use Rattle.taos_lanes.proofs.planned.keys_fit.Given as goal

abbrev pub invariant-loop-place : goal.invariant-loop-place
invariant-loop-place l = (k : ℕ) (e : ℕ × List ℕ) → k < l.place → slice_get l.keys.channels.entries k ≡ Some e → IsPlanned (plans_in l.shards.shards) e.0
