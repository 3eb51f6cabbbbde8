use Rattle.std.proofs.Common.{◌≡◌, take}
use Rattle.agent_core.specs.Opened.{own_channels}
use Rattle.shard_core.proofs.opened.channels_of.Given as goal

abbrev pub invariant-loop-place : goal.invariant-loop-place
invariant-loop-place l = l.own.items ≡ own_channels (take l.place l.channels) l.shards l.number
