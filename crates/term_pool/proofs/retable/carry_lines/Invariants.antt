use Rattle.std.proofs.Common.{◌≤◌, take}
use Rattle.std.specs.Prelude.{vec_capacity}
use Rattle.term_pool.specs.Carrying.{AreCarried, CarriesLines}
use Rattle.term_pool.proofs.retable.carry_lines.Given as goal

abbrev pub invariant-loop-i : goal.invariant-loop-i
invariant-loop-i l = record {
  carries : CarriesLines l.nodes l.used (take l.i l.lines) l.new.items l.out.items;
  room : 1296 ≤ vec_capacity l.new;
  known : AreCarried l.nodes l.new.items l.numbers.items;
}
