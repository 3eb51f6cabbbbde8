-- an Ask is judged by its channel's certificate
use Rattle.node_journals.proofs.Hitting.{asks_judged}
use Rattle.node_journals.proofs.laws.journal_laws.asks_are_judged.Goals as goal

pub returns : goal.returns
returns c = asks_judged
