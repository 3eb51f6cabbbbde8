use Rattle.std.proofs.Common.{◌≡◌, ◌++◌, take}
use Rattle.std.specs.Prelude.{string_bytes}
use Rattle.std.specs.List.{flat_map}
use Rattle.node_file.specs.FilePrinting.{object_lines, text_of_lines}
use Rattle.node_file.proofs.node_text.printing_objects.push_objects.Given as goal

-- the lines of the objects before the place are printed
abbrev pub invariant-loop-place : goal.invariant-loop-place
invariant-loop-place l = string_bytes l.out ≡ string_bytes l.initial.out ++ flat_map (λ p. text_of_lines (object_lines l.names p)) (take l.place l.objects)
