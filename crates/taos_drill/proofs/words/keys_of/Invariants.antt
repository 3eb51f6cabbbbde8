use Rattle.std.proofs.Common.{◌≡◌, length, ◌*◌, map}
use Rattle.std.specs.List.{range_with_len}
use Rattle.taos_drill.specs.Words.{generator_at, key_at}
use Rattle.taos_drill.proofs.words.keys_of.Given as goal

abbrev pub invariant-loop : goal.invariant-loop
invariant-loop l = record {
  generator : l.rng ≡ generator_at l.seed 1 (8 * l.counter);
  count : length l.keys.items ≡ l.counter;
  so_far : l.keys.items ≡ map (key_at l.seed) (range_with_len 0 l.counter);
}
