use Rattle.std.proofs.Common.{◌≡◌, ◌*◌, ◌<◌, ◌≤◌, ℕ, take, map, length, All}
use Rattle.std.specs.Prelude.{vec_capacity}
use Rattle.prin_term.specs.View.{principal}
use Rattle.goal_search.specs.Taking.{Widens, principal_at}
use Rattle.goal_search.proofs.gather.take_list.Given as goal

abbrev pub invariant-loop-i : goal.invariant-loop-i
invariant-loop-i l = record {
  widens : Widens l.fn.pool l.pool (16 * l.i);
  within : All (λ (n : ℕ). n < length l.pool.terms) l.numbers.items;
  named_are : map (principal_at l.pool) l.numbers.items ≡ map (λ e. principal e.who) (take l.i l.list);
  count : length l.numbers.items ≡ l.i;
  capacity : vec_capacity l.fn.numbers ≤ vec_capacity l.numbers;
}
