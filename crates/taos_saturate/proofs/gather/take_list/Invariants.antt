use Rattle.std.proofs.Common.{◌≡◌, ◌*◌, ◌<◌, ◌≤◌, ℕ, take, map, length, All}
use Rattle.std.specs.Prelude.{vec_capacity}
use Rattle.prin_term.specs.View.{principal}
use Rattle.taos_calculus.specs.Tables.{named}
use Rattle.taos_saturate.specs.Gathering.{Widens}
use Rattle.taos_saturate.proofs.gather.take_list.Given as goal

abbrev pub invariant-loop-i : goal.invariant-loop-i
invariant-loop-i l = record {
  widens : Widens l.fn.nodes.items l.nodes.items (16 * l.i);
  within : All (λ (n : ℕ). n < length l.nodes.items) l.numbers.items;
  named_are : map (named l.nodes.items) l.numbers.items ≡ map (λ e. principal e.who) (take l.i l.list);
  count : length l.numbers.items ≡ l.i;
  capacity : vec_capacity l.fn.nodes ≤ vec_capacity l.nodes;
  numbers_capacity : vec_capacity l.fn.numbers ≤ vec_capacity l.numbers;
}
