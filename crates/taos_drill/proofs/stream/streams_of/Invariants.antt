use Rattle.std.proofs.Common.{◌≡◌, ℕ, map}
use Rattle.std.specs.List.{range_with_len}
use Rattle.taos_wire.specs.View.{text_of}
use Rattle.taos_drill.specs.Sent.{drill_stream}
use Rattle.taos_drill.specs.Words.{keys_of, words_of}
use Rattle.taos_drill.proofs.stream.streams_of.Given as goal

abbrev pub invariant-lanes : goal.invariant-lanes
invariant-lanes l =
    (seed requests : ℕ) → l.keys ≡ keys_of seed l.lanes → l.words ≡ words_of seed requests
    → map text_of l.streams.items ≡ map (drill_stream seed requests l.lanes) (range_with_len 0 l.lane)
