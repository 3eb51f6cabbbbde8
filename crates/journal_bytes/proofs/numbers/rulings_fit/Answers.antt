use Rattle.std.proofs.Common.{arith, subst}
use Rattle.std.specs.Prelude.{All}
use Rattle.std.proofs.lemmas.List.{take_all}
use Rattle.std.proofs.lemmas.List.Elements.{All-map, All-more}
use Rattle.object_core.specs.ObjectView.{object_entry}
use Rattle.object_core.specs.declared.entry.ObjectEntry as code
use Rattle.journal_bytes.specs.Numbers.{RuledNumbers}
use Rattle.journal_bytes.proofs.numbers.rulings_fit.Goals as goal

pub loop-entry-preserved : goal.loop-entry-preserved
loop-entry-preserved c =
    All-more (λ (e : code.ObjectEntry). RuledNumbers (object_entry e)) c.args.journal.now c.loop-entry.entry-index c.entry-item.result c.loop-entry-test.true c.loop-entry.invariant (subst (λ (e : code.ObjectEntry). RuledNumbers (object_entry e)) c.entry-item.is c.ruled_fits.ensures)

pub returns : goal.returns
returns c = All-map RuledNumbers object_entry c.args.journal.now (subst (All (λ (e : code.ObjectEntry). RuledNumbers (object_entry e))) (take_all c.loop-entry.entry-index c.args.journal.now (omega (arith, c.loop-entry-test.false))) c.loop-entry.invariant)
