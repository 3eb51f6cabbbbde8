-- A client that is looked at keeps its socket.
use Rattle.system_hub.proofs.Flooring.{looked_at}
use Rattle.system_hub.proofs.floor.Floor.lateness.Goals as goal

pub invariant_of-self-2 : goal.invariant_of-self-2
invariant_of-self-2 c = record {
  law = looked_at c.args.self.now.hub c.args.self.now.clients.items c.args.seat c.in_ok-place.place.now c.in_ok-client.client c.lateness-why.new.self
      c.args.self.now.law c.in_ok-place.ensures.item.3.0 c.in_ok-place.ensures.value c.in_ok-client.ensures.value c.lateness-why.ensures;
}
