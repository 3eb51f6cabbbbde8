use Rattle.std.proofs.Common.{◌≡◌, length}
use Rattle.taos_drill.specs.Words.{generator_at, words_of}
use Rattle.taos_drill.proofs.words.words_of.Given as goal

abbrev pub invariant-loop : goal.invariant-loop
invariant-loop l = record {
  generator : l.rng ≡ generator_at l.seed 0 l.counter;
  count : length l.words.items ≡ l.counter;
  so_far : l.words.items ≡ words_of l.seed l.counter;
}
