use Rattle.node_journals.proofs.JournalCounting as journals
use Rattle.node_journals.proofs.LoadCounting.{counted}
use Rattle.node_journals.proofs.LoadOwning.{load_works}
use Rattle.node_journals.proofs.laws.load_laws.loads_are_counted.Goals as goal
use Rattle.taos_lanes.specs.Serving.{journals_of}

-- the works of the lanes, and what they count
pub returns : goal.returns
returns c d n limit fits node shards objects runs plans fixed serves are =
    let J = journals_of shards objects in
    counted d n node shards objects plans fixed (journals.counted d fits n node J (load_works d fits n node J limit runs serves are))
