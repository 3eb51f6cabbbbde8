-- No seat that was looked at is taken.
use Rattle.std.proofs.Common.{◌≡◌, ℕ, ◌<◌, Some}
use Rattle.std.specs.List.{slice_get}
use Rattle.system_hub.specs.Kept.{IsTaken}
use Rattle.system_hub.specs.declared.machine.seat.Seat.{Seat}
use Rattle.system_hub.proofs.machine.hub.Hub.is_empty.Given as goal

abbrev pub invariant-loop-seat : goal.invariant-loop-seat
invariant-loop-seat l = (k : ℕ) (seat : Seat) → k < l.seat-index → slice_get l.fn.self.seats k ≡ Some seat → IsTaken seat.standing → ⊥
