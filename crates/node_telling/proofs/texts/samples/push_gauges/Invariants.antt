use Rattle.std.proofs.Common.{◌≡◌, ◌++◌, take}
use Rattle.std.specs.Prelude.{string_bytes}
use Rattle.node_telling.specs.Page.{gauge_line}
use Rattle.node_telling.specs.Samples.{each_line}
use Rattle.node_telling.proofs.texts.samples.push_gauges.Given as goal

-- the journals before this one have their samples
abbrev pub invariant-loop-place : goal.invariant-loop-place
invariant-loop-place l = string_bytes l.out ≡ string_bytes l.initial.out ++ each_line (gauge_line l.name l.key) (take l.place l.gauges)
