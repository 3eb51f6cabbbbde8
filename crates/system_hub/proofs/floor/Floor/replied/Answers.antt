-- Nobody comes or goes by a reply, but who fails by it.
use Rattle.std.proofs.Common.{ℕ, List, [], ◌∷◌, sym, subst, Option}
use Rattle.system_hub.specs.Events.{Replied, Failed, Closed}
use Rattle.system_hub.specs.Kept.{Kept}
use Rattle.system_hub.specs.Floors.{IsFloor}
use Rattle.system_hub.specs.declared.client.Client.{Client}
use Rattle.system_hub.proofs.Flooring.{floor_goes_on, floor_vacated, well_sits}
use Rattle.system_hub.proofs.floor.Floor.replied.Goals as goal

pub invariant_of-self : goal.invariant_of-self
invariant_of-self c = record {
  law = floor_goes_on c.args.self.now.hub c.replied.new.self c.args.self.now.clients.items (Replied c.args.lane c.args.payload.now ∷ []) c.args.self.now.law
      c.in-For.ensures.answered.3 c.in-For.ensures.seats;
}

pub invariant_of-self-in-Nobody : goal.invariant_of-self-in-Nobody
invariant_of-self-in-Nobody c = record {
  law = floor_goes_on c.args.self.now.hub c.replied.new.self c.args.self.now.clients.items (Replied c.args.lane c.args.payload.now ∷ []) c.args.self.now.law
      c.in-Nobody.ensures.answered.0 c.in-Nobody.ensures.seats;
}

pub invariant_of-self-in-Slow : goal.invariant_of-self-in-Slow
invariant_of-self-in-Slow c =
    let old : Kept = c.args.self.now.hub in
    let new : Kept = c.replied.new.self in
    let client : ℕ = c.in-Slow.client in
    let answered = c.in-Slow.ensures.answered in
    let seats = c.in-Slow.ensures.seats in
    let place = c.place_of-seat in record {
      law = subst (λ (l : List (Option Client)). ∥ IsFloor new l ∥₁) (sym c.vacate.ensures)
          (floor_vacated old new c.args.self.now.clients.items place.result client (Replied c.args.lane c.args.payload.now ∷ Failed client ∷ Closed client ∷ []) c.args.self.now.law
          place.ensures.within place.ensures.place (well_sits old client answered.1) answered.3 seats.0 seats.1);
    }

pub invariant_of-self-in-NoMemory : goal.invariant_of-self-in-NoMemory
invariant_of-self-in-NoMemory c =
    let old : Kept = c.args.self.now.hub in
    let new : Kept = c.replied.new.self in
    let client : ℕ = c.in-NoMemory.client in
    let answered = c.in-NoMemory.ensures.answered in
    let seats = c.in-NoMemory.ensures.seats in
    let place = c.place_of-seat-in-NoMemory in record {
      law = subst (λ (l : List (Option Client)). ∥ IsFloor new l ∥₁) (sym c.vacate-in-NoMemory.ensures)
          (floor_vacated old new c.args.self.now.clients.items place.result client (Replied c.args.lane c.args.payload.now ∷ Failed client ∷ Closed client ∷ []) c.args.self.now.law
          place.ensures.within place.ensures.place (well_sits old client answered.1) answered.3 seats.0 seats.1);
    }
