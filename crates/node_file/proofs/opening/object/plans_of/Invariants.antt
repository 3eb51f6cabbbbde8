use Rattle.std.proofs.Common.{◌≤◌, List, [], length}
use Rattle.object_core.specs.Objects.{ObjectPlan}
use Rattle.node_file.specs.OpeningReading.{object_at}
use Rattle.node_file.specs.Plans.{HoldsPlans}
use Rattle.byte_fields.specs.Readers.{items_behind}
use Rattle.byte_fields.proofs.Loops.{IsSoFar}
use Rattle.node_file.proofs.opening.object.plans_of.Given as goal

abbrev pub invariant-loop : goal.invariant-loop
invariant-loop l = record {
  before : List ObjectPlan;
  held : HoldsPlans l.plans before;
  so_far : IsSoFar (object_at l.bytes) l.count l.counter before l.next (items_behind (object_at l.bytes) l.count [] l.at);
  within : l.next ≤ length l.bytes;
}
