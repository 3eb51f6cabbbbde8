use Rattle.std.proofs.Common.{◌≡◌, ◌++◌, map, take}
use Rattle.std.specs.Prelude.{string_bytes}
use Rattle.node_file.specs.FilePrinting.{anchor_line, text_of_lines}
use Rattle.node_file.proofs.node_text.printing_lists.push_anchors.Given as goal

-- the anchors before this one are printed
abbrev pub invariant-loop-anchor : goal.invariant-loop-anchor
invariant-loop-anchor l = string_bytes l.out ≡ string_bytes l.initial.out ++ text_of_lines (map (anchor_line l.names.names) (take l.anchor-index l.anchors))
