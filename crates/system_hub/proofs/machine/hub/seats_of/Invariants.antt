-- The seats so far, each as it is made.
use Rattle.std.proofs.Common.{◌≡◌, ℕ, length, Some}
use Rattle.std.specs.List.{slice_get}
use Rattle.system_hub.specs.declared.machine.seat.Seat.{Seat}
use Rattle.system_hub.specs.Kept.{blank}
use Rattle.system_hub.specs.declared.machine.seat.Standing.TheVariants.{Free}
use Rattle.system_hub.proofs.machine.hub.seats_of.Given as goal

abbrev pub invariant-loop-client : goal.invariant-loop-client
invariant-loop-client l = (length l.seats.items ≡ l.client)
    × ((k : ℕ) (seat : Seat) → slice_get l.seats.items k ≡ Some seat → seat ≡ blank k Free)
