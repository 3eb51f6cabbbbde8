use Rattle.std.proofs.Common.{List, ap, arith, length, subst}
use Rattle.std.specs.Prelude.{All}
use Rattle.std.proofs.lemmas.List.{length-map}
use Rattle.agent_core.specs.Journals.{Entry}
use Rattle.agent_core.specs.Views.{entry_of}
use Rattle.journal_bytes.specs.Numbers.{EntryNumbers}
use Rattle.journal_bytes.proofs.Fitting.{shard_fits}
use Rattle.journal_bytes.proofs.numbers.shard_fits.Goals as goal

pub returns : goal.returns
returns c =
    let same = c.journal-journal.ensures.value in
    shard_fits c.args.shard.now (omega (arith, ap (λ (j : List Entry). length j) same, length-map c.journal-journal.result.now entry_of, c.long_fits.ensures)) c.journal-journal.ensures.legal c.journal-journal.ensures.fits c.requires.few
    (subst (All EntryNumbers) same c.entries_fit.ensures)
