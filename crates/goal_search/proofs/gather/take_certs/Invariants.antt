use Rattle.std.proofs.Common.{◌≡◌, ◌*◌, ◌≤◌, map, length}
use Rattle.std.specs.Prelude.{vec_capacity}
use Rattle.stmt_codec.specs.View.{certificates}
use Rattle.taos_calculus.specs.Question.{claim_of}
use Rattle.goal_search.specs.Taking.{Holds, Widens}
use Rattle.goal_search.proofs.gather.take_certs.Given as goal

abbrev pub invariant-loop-i : goal.invariant-loop-i
invariant-loop-i l = record {
  widens : Widens l.fn.pool l.pool (16 * l.i);
  holds : Holds l.pool l.held.items (map claim_of (certificates l.certs)) l.taken;
  count : length l.held.items ≡ l.i;
  capacity : vec_capacity l.fn.held ≤ vec_capacity l.held;
}
