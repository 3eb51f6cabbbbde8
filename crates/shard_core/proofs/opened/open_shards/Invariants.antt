use Rattle.std.proofs.Common.{◌≡◌, map}
use Rattle.std.specs.List.{range_with_len}
use Rattle.stmt_codec.specs.View.{certificates}
use Rattle.agent_core.specs.Opened.{plan_for}
use Rattle.shard_core.specs.Opened.{new_shard}
use Rattle.shard_core.proofs.opened.open_shards.Given as goal

abbrev pub invariant-loop-number : goal.invariant-loop-number
invariant-loop-number l =
    l.opened.items ≡ map new_shard (map (plan_for l.channels l.shards l.anchors.value.items (certificates l.commons) l.keep l.limit) (range_with_len 0 l.number))
