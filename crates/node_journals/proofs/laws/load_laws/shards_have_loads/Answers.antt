use Rattle.node_journals.proofs.Knowing.{load_journal}
use Rattle.node_journals.proofs.LoadOwning.{load_works}
use Rattle.node_journals.proofs.laws.load_laws.shards_have_loads.Goals as goal

-- by the works of the lanes
pub returns : goal.returns
returns c d n limit fits node J runs serves are s below = load_journal d fits n node J (load_works d fits n node J limit runs serves are) s below
