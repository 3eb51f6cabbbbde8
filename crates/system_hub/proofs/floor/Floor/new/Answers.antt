-- Nobody sits, and there is no socket.
use Rattle.system_hub.proofs.Flooring.{floor_begins}
use Rattle.system_hub.proofs.floor.Floor.new.Goals as goal

pub invariant_of-result : goal.invariant_of-result
invariant_of-result c = record {
  law = floor_begins c.args.hub c.in_ok-clients.clients.items c.args.seats c.requires.history c.requires.settled c.requires.empty c.requires.size c.in_ok-clients.ensures;
}
