use Rattle.std.proofs.Common.{◌≡◌, ◌+◌, ℕ}
use Rattle.taos_drill.specs.Sent.{drill_stream, presented}
use Rattle.taos_drill.specs.Words.{key_at, words_of}
use Rattle.taos_drill.proofs.stream.stream_of.Given as goal

abbrev pub invariant-loop-i : goal.invariant-loop-i
invariant-loop-i l =
    (seed requests : ℕ) → l.words ≡ words_of seed requests → l.caller.key ≡ key_at seed (l.lane + 1) → l.caller.cert.items ≡ presented seed (l.lane + 1)
    → l.stream.items ≡ drill_stream seed l.i l.lanes l.lane
