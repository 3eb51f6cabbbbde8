-- Nobody comes or goes as a lane is handed a frame.
use Rattle.std.proofs.Common.{[], ◌∷◌}
use Rattle.system_hub.specs.Calls.{NobodyWaits}
use Rattle.system_hub.specs.Events.{Took}
use Rattle.system_hub.proofs.Flooring.{floor_next}
use Rattle.system_hub.proofs.floor.Floor.next.Goals as goal

pub invariant_of-self : goal.invariant_of-self
invariant_of-self c = record {
  law = floor_next c.args.self.now.hub c.next.new.self c.args.self.now.clients.items c.next.result (NobodyWaits c.args.lane c.args.self.now.hub)
      (λ client. Took c.args.lane client c.next.new.out.items ∷ []) c.args.self.now.law c.next.ensures.taken c.next.ensures.seats;
}
