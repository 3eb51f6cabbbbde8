use Rattle.std.proofs.Common.{◌≡◌, ◌++◌}
use Rattle.agent_shards.specs.Objects.{AreObjectsOpened}
use Rattle.agent_shards.proofs.shelving.open_objects.Given as goal

abbrev pub invariant-loop-object : goal.invariant-loop-object
invariant-loop-object l = record {
  opened : AreObjectsOpened l.yielded l.cells.items l.passes.items;
  left : l.yielded ++ l.object-iterator.rest.items ≡ l.fn.objects.items;
}
