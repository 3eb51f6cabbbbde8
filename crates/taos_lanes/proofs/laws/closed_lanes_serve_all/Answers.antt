use Rattle.taos_lanes.proofs.Closing.{closed_serves_all}
use Rattle.taos_lanes.proofs.laws.closed_lanes_serve_all.Goals as goal

pub returns : goal.returns
returns c n limit = closed_serves_all n limit (c.what_is_answered_stays.ensures n)
