-- Who comes has its socket at its place.
use Rattle.system_hub.proofs.Flooring.{floor_comes}
use Rattle.system_hub.proofs.floor.Floor.seat.Goals as goal

pub invariant_of-self-2 : goal.invariant_of-self-2
invariant_of-self-2 c =
    let number = c.in_ok-number.number in
    record {
      law = floor_comes c.args.self.now.hub c.opened.new.self c.args.self.now.clients.items c.place_of-seat.result number c.new.result c.args.self.now.law
          c.in_ok-place.ensures.item.3.0 c.place_of-seat.ensures.place c.new.ensures c.in_ok-number.ensures.came c.in_ok-number.ensures.seats;
    }
