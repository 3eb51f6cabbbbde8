use Rattle.std.proofs.Common.{◌≡◌, ℕ, ◌<◌, ◌≤◌, false, get_or}
use Rattle.std.specs.Mem.Slots.{slots_filled, slots_items, slots_len}
use Rattle.std.specs.Mem.Slots.Ownership.{Filled, SameOutside}
use Rattle.turn_cell.proofs.closing.drop_between.Given as goal

abbrev pub invariant-loop-place : goal.invariant-loop-place
invariant-loop-place g l = record {
  left : Filled (slots_filled l.closed.slots) l.place l.end;
  empty : (k : ℕ) → l.first ≤ k → k < l.place → get_or (slots_filled l.closed.slots) k false ≡ false;
  others : SameOutside false (slots_filled l.fn.closed.slots) (slots_filled l.closed.slots) l.first l.end;
  items : slots_items l.closed.slots ≡ slots_items l.fn.closed.slots;
  count : slots_len l.closed.slots ≡ slots_len l.fn.closed.slots;
}
