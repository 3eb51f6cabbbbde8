use Rattle.std.proofs.Common.{◌≡◌, ◌*◌, ◌≤◌, ◌++◌, take}
use Rattle.std.specs.Prelude.{string_bytes, sum}
use Rattle.node_telling.specs.Page.{bucket}
use Rattle.node_telling.specs.Samples.{each_line}
use Rattle.node_telling.proofs.texts.page_parts.push_buckets.Given as goal

-- the bounds before this one have their samples, and the total is what the last of them says
abbrev pub invariant-loop-place : goal.invariant-loop-place
invariant-loop-place l = record {
  printed : string_bytes l.out ≡ string_bytes l.initial.out ++ each_line (bucket l.counts) (take l.place l.bounds);
  total : l.total ≡ sum (take l.place l.counts);
  small : l.total ≤ l.place * 18_446_744_073_709_551_615;
}
