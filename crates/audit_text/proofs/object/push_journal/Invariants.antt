use Rattle.std.proofs.Common.{◌≡◌, ◌++◌, map, take}
use Rattle.std.specs.Prelude.{string_bytes}
use Rattle.object_core.specs.ObjectView.{object_entry}
use Rattle.audit_text.specs.ObjectLines.{object_text}
use Rattle.audit_text.proofs.object.push_journal.Given as goal

-- the lines of the entries before this one are told
abbrev pub invariant-loop-place : goal.invariant-loop-place
invariant-loop-place l = string_bytes l.out ≡ string_bytes l.initial.out ++ object_text l.number (map object_entry (take l.place l.journal))
