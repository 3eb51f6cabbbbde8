use Rattle.turn_cell.specs.Steps.{Stays}
use Rattle.turn_cell.proofs.waiting.draw_alone.Given as goal

abbrev pub invariant-loop : goal.invariant-loop
invariant-loop g l = Stays l.initial.seat l.seat
