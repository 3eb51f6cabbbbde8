use Rattle.std.proofs.Common.{◌≡◌, ◌≤◌, take, map}
use Rattle.std.specs.Prelude.{vec_capacity}
use Rattle.term_pool.specs.Finding.{statement_of}
use Rattle.taos_saturate.proofs.gather.state_all.Given as goal

abbrev pub invariant-loop-i : goal.invariant-loop-i
invariant-loop-i l = record {
  stated : l.statements.items ≡ map statement_of (take l.i l.cited);
  capacity : vec_capacity l.fn.statements ≤ vec_capacity l.statements;
}
