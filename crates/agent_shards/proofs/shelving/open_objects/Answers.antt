-- one cell more, of the next object
use Rattle.agent_shards.specs.Objects.{IsObjectOpened}
use Rattle.agent_shards.proofs.Rows.{each3_next, left_next}
use Rattle.agent_shards.proofs.shelving.open_objects.Goals as goal

pub loop-object-preserved : goal.loop-object-preserved
loop-object-preserved c = let i = c.loop-object.invariant in record {
  opened = each3_next IsObjectOpened c.loop-object.yielded c.loop-object.cells.items c.push.new.self.items c.loop-object.passes.items c.push-in-loop-object.new.self.items
      c.in-Some.object c.in_ok-cell.cell c.in_ok-cell.pass i.opened c.in_ok-push.ensures.items c.in_ok-push-2.ensures.items c.in_ok-cell.ensures;
  left = left_next c.loop-object.yielded c.in-Some.object c.loop-object.object-iterator.rest.items c.next.new.self.rest.items c.args.objects.items c.in-Some.ensures.steps.0 i.left;
}
