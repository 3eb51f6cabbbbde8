use Rattle.std.proofs.Common.{◌≡◌, ◌++◌, map, take}
use Rattle.std.specs.Prelude.{string_bytes}
use Rattle.prin_term.specs.View.{grant}
use Rattle.node_file.specs.FilePrinting.{allow_line, text_of_lines}
use Rattle.node_file.proofs.node_text.printing_objects.push_entries.Given as goal

-- the entries before this one are printed
abbrev pub invariant-loop-entry : goal.invariant-loop-entry
invariant-loop-entry l = string_bytes l.out ≡ string_bytes l.initial.out ++ text_of_lines (map (allow_line l.names l.number) (map grant (take l.entry-index l.list)))
