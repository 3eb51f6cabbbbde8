-- Who may not leave is in service.
use Rattle.system_hub.proofs.Seating.{in_service}
use Rattle.system_hub.proofs.machine.laws.seats_are_of_who_is_served.Goals as goal

pub returns : goal.returns
returns c = in_service
