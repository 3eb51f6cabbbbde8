use Rattle.node_journals.proofs.Knowing.{load_journal}
use Rattle.node_journals.proofs.laws.courses.shards_are_loads.Goals as goal

pub returns : goal.returns
returns c d n fits node J works s below = load_journal d fits n node J works s below
