use Rattle.std.proofs.Common.{◌≡◌, ◌++◌}
use Rattle.std.specs.Prelude.{codes, string_bytes}
use Rattle.std.specs.List.{flat_map}
use Rattle.prin_text.specs.Labels.{Rows}
use Rattle.node_file.specs.FilePrinting.{text_line, ended}
use Rattle.node_file.proofs.node_text.printing.push_names.Given as goal

-- the lines before this one are printed
abbrev pub invariant-loop-number : goal.invariant-loop-number
invariant-loop-number l = record {
  before : Rows;
  split : before ++ l.number-iterator ≡ l.names.names;
  printed : string_bytes l.out ≡ string_bytes l.initial.out ++ flat_map (λ row. ended (text_line (codes "name") row)) before;
}
