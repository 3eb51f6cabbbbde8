-- all that a proof cites is held, and an Ask after it is a hit
use Rattle.node_journals.proofs.Ending.{keeps_kept, one_each}
use Rattle.node_journals.proofs.laws.journal_laws.proofs_are_kept.Goals as goal

pub returns-clause-kept : goal.returns-clause-kept
returns-clause-kept c = keeps_kept

pub returns-clause-one : goal.returns-clause-one
returns-clause-one c = one_each
