use Rattle.std.proofs.Common.{◌≡◌, ◌++◌, map, take}
use Rattle.std.specs.Prelude.{string_bytes}
use Rattle.node_file.specs.FilePrinting.{common_line, text_of_lines}
use Rattle.node_file.specs.OpeningView.{common}
use Rattle.node_file.proofs.node_text.printing_lists.push_commons.Given as goal

-- the certificates before this one are printed
abbrev pub invariant-loop-cert : goal.invariant-loop-cert
invariant-loop-cert l = string_bytes l.out ≡ string_bytes l.initial.out ++ text_of_lines (map (common_line l.relay_key) (map common (take l.cert-index l.commons)))
