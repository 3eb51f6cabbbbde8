use Rattle.std.proofs.Common.{◌≡◌, ◌++◌, map, take}
use Rattle.std.specs.List.{flat_map}
use Rattle.std.specs.Prelude.{string_bytes}
use Rattle.prin_term.specs.View.{grant}
use Rattle.prin_text.specs.Printing.{later_text}
use Rattle.prin_text.proofs.list.push_list.Given as goal

-- the first entry and those before this one are printed
abbrev pub invariant-loop-entry : goal.invariant-loop-entry
invariant-loop-entry l = string_bytes l.out ≡ string_bytes l.initial.out ++ flat_map (later_text l.names) (map grant (take l.entry-index l.rest))
