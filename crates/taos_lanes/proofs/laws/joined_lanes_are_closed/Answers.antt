use Rattle.taos_lanes.proofs.Closing.{joins_one_more, joined_are_closed}
use Rattle.taos_lanes.proofs.laws.joined_lanes_are_closed.Goals as goal

pub returns-clause-more : goal.returns-clause-more
returns-clause-more g c = joins_one_more _

pub returns-clause-closed : goal.returns-clause-closed
returns-clause-closed g c = joined_are_closed
