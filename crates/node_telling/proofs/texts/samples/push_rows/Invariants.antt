use Rattle.std.proofs.Common.{◌≡◌, ◌++◌, map, take}
use Rattle.std.specs.Prelude.{string_bytes}
use Rattle.node_telling.specs.Samples.{rows}
use Rattle.node_telling.proofs.texts.samples.push_rows.Given as goal

-- the words before this one have their samples
abbrev pub invariant-loop-place : goal.invariant-loop-place
invariant-loop-place l = string_bytes l.out ≡ string_bytes l.initial.out ++ rows l.name l.key (map (λ s. s.now) (take l.place l.words)) l.counts
