-- Who fails has no socket any more.
use Rattle.std.proofs.Common.{refl, false}
use Rattle.system_hub.proofs.Flooring.{done_leaves}
use Rattle.system_hub.proofs.floor.Floor.fail.Goals as goal

pub invariant_of-self-2 : goal.invariant_of-self-2
invariant_of-self-2 c = record {
  law = done_leaves c.args.self.now.hub c.fail.new.hub c.args.self.now.clients.items c.args.seat c.in_ok-place.place.now c.take.new.self c.in_ok-client.client false
      c.args.self.now.law c.in_ok-place.ensures.item.3.0 c.in_ok-place.ensures.value c.in_ok-client.ensures.value c.in_ok-client.ensures.after refl c.fail.ensures.left;
}
