use Rattle.std.proofs.Common.{◌≡◌, ◌++◌, ◌≤◌, vec_capacity, take}
use Rattle.std.specs.List.{flat_map}
use Rattle.taos_calculus.specs.Spelling.{line_bytes}
use Rattle.taos_calculus.proofs.writing.push_lines.Given as goal

abbrev pub invariant-loop-line : goal.invariant-loop-line
invariant-loop-line l = record {
  so_far : l.out.items ≡ l.initial.out.items ++ flat_map line_bytes (take l.line-index l.lines);
  capacity : vec_capacity l.initial.out ≤ vec_capacity l.out;
}
