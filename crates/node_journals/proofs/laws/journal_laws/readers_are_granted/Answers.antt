-- the certificate of the channel grants it
use Rattle.node_journals.proofs.Hitting.{reader_not_denied}
use Rattle.node_journals.proofs.laws.journal_laws.readers_are_granted.Goals as goal

pub returns : goal.returns
returns c = reader_not_denied
