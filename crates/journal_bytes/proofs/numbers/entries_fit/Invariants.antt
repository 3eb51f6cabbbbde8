use Rattle.std.specs.Prelude.{All, take}
use Rattle.agent_core.specs.Views.{entry_of}
use Rattle.agent_core.specs.declared.event.ShardEntry.{ShardEntry}
use Rattle.journal_bytes.specs.Numbers.{EntryNumbers}
use Rattle.journal_bytes.proofs.numbers.entries_fit.Given as goal

abbrev pub invariant-loop-entry : goal.invariant-loop-entry
invariant-loop-entry l = All (λ (e : ShardEntry). EntryNumbers (entry_of e)) (take l.entry-index l.journal)
