use Rattle.std.proofs.Common.{arith, subst}
use Rattle.std.specs.Prelude.{All}
use Rattle.std.proofs.lemmas.List.{take_all}
use Rattle.std.proofs.lemmas.List.Elements.{All-map, All-more}
use Rattle.agent_core.specs.Views.{entry_of}
use Rattle.agent_core.specs.declared.event.ShardEntry.{ShardEntry}
use Rattle.journal_bytes.specs.Numbers.{EntryNumbers}
use Rattle.journal_bytes.proofs.numbers.entries_fit.Goals as goal

pub loop-entry-preserved : goal.loop-entry-preserved
loop-entry-preserved c =
    All-more (λ (e : ShardEntry). EntryNumbers (entry_of e)) c.args.journal.now c.loop-entry.entry-index c.entry-item.result c.loop-entry-test.true c.loop-entry.invariant (subst (λ (e : ShardEntry). EntryNumbers (entry_of e)) c.entry-item.is c.entry_fits.ensures)

pub returns : goal.returns
returns c = All-map EntryNumbers entry_of c.args.journal.now (subst (All (λ (e : ShardEntry). EntryNumbers (entry_of e))) (take_all c.loop-entry.entry-index c.args.journal.now (omega (arith, c.loop-entry-test.false))) c.loop-entry.invariant)
