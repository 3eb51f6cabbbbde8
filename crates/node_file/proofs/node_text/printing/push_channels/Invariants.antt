use Rattle.std.proofs.Common.{◌≡◌, ◌++◌, take}
use Rattle.std.specs.Prelude.{codes, string_bytes}
use Rattle.std.specs.List.{flat_map}
use Rattle.node_file.specs.FilePrinting.{bytes_line, ended}
use Rattle.node_file.proofs.node_text.printing.push_channels.Given as goal

-- the lines before the place are printed
abbrev pub invariant-loop-place : goal.invariant-loop-place
invariant-loop-place l = string_bytes l.out ≡ string_bytes l.initial.out ++ flat_map (λ row. ended (bytes_line (codes "channel") row)) (take l.place l.keys.entries)
