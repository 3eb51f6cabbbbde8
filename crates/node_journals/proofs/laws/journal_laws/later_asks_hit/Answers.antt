-- a proof for the channel is kept, and stays
use Rattle.node_journals.proofs.Hitting.{later_hit}
use Rattle.node_journals.proofs.laws.journal_laws.later_asks_hit.Goals as goal

pub returns : goal.returns
returns c = later_hit
