use Rattle.std.proofs.Common.{List, ap, arith, length, subst}
use Rattle.std.specs.Prelude.{All}
use Rattle.std.proofs.lemmas.List.{length-map}
use Rattle.object_core.specs.Objects.{ObjectEntry}
use Rattle.object_core.specs.ObjectView.{object_entry}
use Rattle.journal_bytes.specs.Numbers.{RuledNumbers}
use Rattle.journal_bytes.proofs.Fitting.{object_fits}
use Rattle.journal_bytes.proofs.numbers.object_fits.Goals as goal

pub returns : goal.returns
returns c =
    let same = c.journal-journal.ensures.value in
    object_fits c.args.object.now (omega (arith, c.number.ensures, c.number_fits.ensures)) (omega (arith, ap (λ (j : List ObjectEntry). length j) same, length-map c.journal-journal.result.now object_entry, c.long_fits.ensures)) c.requires.fit
    (subst (All RuledNumbers) same c.rulings_fit.ensures)
