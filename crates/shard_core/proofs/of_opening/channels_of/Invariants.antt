use Rattle.std.proofs.Common.{◌≡◌, take}
use Rattle.shard_core.specs.Cells.{numbers_of}
use Rattle.shard_core.proofs.of_opening.channels_of.Given as goal

abbrev pub invariant-loop-place : goal.invariant-loop-place
invariant-loop-place l = l.numbers.items ≡ numbers_of (take l.place l.table.entries)
