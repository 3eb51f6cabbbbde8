-- Who goes has no socket any more.
use Rattle.std.proofs.Common.{[], ◌∷◌, refl, false}
use Rattle.system_hub.specs.Events.{Failed, Closed}
use Rattle.system_hub.proofs.Staying.{left_done}
use Rattle.system_hub.proofs.Flooring.{done_leaves}
use Rattle.system_hub.proofs.floor.Floor.stop.Goals as goal

pub invariant_of-self-then-is_served_out : goal.invariant_of-self-then-is_served_out
invariant_of-self-then-is_served_out c =
    let n = c.in_ok-client.client.number in
    record {
      law = done_leaves c.args.self.now.hub c.failed.new.self c.args.self.now.clients.items c.args.seat c.in_ok-place.place.now c.take.new.self c.in_ok-client.client false
          c.args.self.now.law c.in_ok-place.ensures.item.3.0 c.in_ok-place.ensures.value c.in_ok-client.ensures.value c.in_ok-client.ensures.after refl
          (left_done n (Failed n ∷ Closed n ∷ []) c.args.self.now.hub c.failed.new.self c.failed.ensures.gone c.failed.ensures.left c.failed.ensures.others);
    }
