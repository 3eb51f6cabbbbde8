-- each entry is one of the two
use Rattle.node_journals.proofs.Ending.{entries_counted}
use Rattle.node_journals.proofs.laws.journal_laws.entries_are_counted.Goals as goal

pub returns : goal.returns
returns c = entries_counted
