-- no proof for the channel was to be kept
use Rattle.node_journals.proofs.Hitting.{first_misses}
use Rattle.node_journals.proofs.laws.journal_laws.first_asks_miss.Goals as goal

pub returns : goal.returns
returns c = first_misses
