use Rattle.std.proofs.Common.{◌≡◌, map, take}
use Rattle.prin_term.specs.View.{grant}
use Rattle.shard_core.proofs.of_opening.list_of.Given as goal

abbrev pub invariant-loop-place : goal.invariant-loop-place
invariant-loop-place l = map grant l.entries.items ≡ map grant (take l.place l.list.value.items)
