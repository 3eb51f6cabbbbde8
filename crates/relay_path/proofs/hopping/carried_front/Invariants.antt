use Rattle.std.proofs.Common.{◌≡◌, ◌+◌, ◌*◌, ◌≤◌, ◌∷◌, [], length, take}
use Rattle.std.specs.Int.{w32, to_be_bytes}
use Rattle.byte_fields.proofs.Pieces.{AreWritten}
use Rattle.relay_path.proofs.hopping.carried_front.Given as goal

abbrev pub invariant-loop-number : goal.invariant-loop-number
invariant-loop-number l = record {
  written : AreWritten (to_be_bytes w32) l.visited l.number-index (3 ∷ length l.visited ∷ []) l.front.items;
  long : length l.front.items ≡ 2 + 4 * l.number-index;
}
