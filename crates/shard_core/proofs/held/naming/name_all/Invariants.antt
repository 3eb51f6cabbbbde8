use Rattle.std.proofs.Common.{◌≡◌, ◌++◌, map, take}
use Rattle.shard_core.specs.Names.{name_in}
use Rattle.shard_core.proofs.held.naming.name_all.Given as goal

abbrev pub invariant-loop-at : goal.invariant-loop-at
invariant-loop-at l = l.names.items ≡ l.initial.names.items ++ map (name_in l.entry) (take l.at l.places.items)
