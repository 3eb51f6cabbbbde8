-- Who has a seat and is not well may leave.
use Rattle.system_hub.proofs.Seating.{nobody_sits}
use Rattle.system_hub.proofs.machine.laws.seats_are_of_who_is_well.Goals as goal

pub returns : goal.returns
returns c = nobody_sits
