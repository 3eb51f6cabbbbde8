use Rattle.std.proofs.Common.{List, subst, sym}
use Rattle.std.specs.Prelude.{All}
use Rattle.agent_core.specs.Journals.{Entry}
use Rattle.journal_bytes.specs.Limits.{AreCountable}
use Rattle.journal_bytes.proofs.Countable.{all_countable, are_spelled}
use Rattle.journal_bytes.proofs.journals_writing.push_shard.Goals as goal

pub push_journal-requires : goal.push_journal-requires
push_journal-requires c = record {
  few = subst (λ (j : List Entry). All (λ (e : Entry). AreCountable e.event) j) (sym c.journal.ensures.value) (all_countable c.args.shard.now c.journal.ensures.fits c.requires.few);
}

pub returns : goal.returns
returns c = rw (sym (are_spelled c.journal.result.now c.args.shard.now.journal c.journal.ensures.value)) c.push_journal.ensures
