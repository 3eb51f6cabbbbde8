use Rattle.std.specs.Prelude.{All, take}
use Rattle.object_core.specs.ObjectView.{object_entry}
use Rattle.object_core.specs.declared.entry.ObjectEntry as code
use Rattle.journal_bytes.specs.Numbers.{RuledNumbers}
use Rattle.journal_bytes.proofs.numbers.rulings_fit.Given as goal

abbrev pub invariant-loop-entry : goal.invariant-loop-entry
invariant-loop-entry l = All (λ (e : code.ObjectEntry). RuledNumbers (object_entry e)) (take l.entry-index l.journal)
