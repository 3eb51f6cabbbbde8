use Rattle.std.proofs.Common.{◌*◌, ◌≤◌, take, map, length}
use Rattle.std.specs.Prelude.{vec_capacity}
use Rattle.stmt_codec.specs.View.{certificates}
use Rattle.taos_calculus.specs.Question.{claim_of, picked}
use Rattle.taos_saturate.specs.Gathering.{Widens, Gathers}
use Rattle.taos_saturate.proofs.gather.take_certs.Given as goal

abbrev pub invariant-loop-i : goal.invariant-loop-i
invariant-loop-i l = record {
  widens : Widens l.fn.nodes.items l.nodes.items (16 * l.i);
  gathers : Gathers l.nodes.items l.cited.items
      (picked 0 (take l.i (map claim_of (certificates l.certs))) (take l.i l.chosen));
  few : length l.cited.items ≤ l.i;
  capacity : vec_capacity l.fn.nodes ≤ vec_capacity l.nodes;
  cited_capacity : vec_capacity l.fn.cited ≤ vec_capacity l.cited;
}
