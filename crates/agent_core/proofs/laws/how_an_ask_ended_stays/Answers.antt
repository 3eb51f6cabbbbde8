-- the Ask stands at the same place
use Rattle.agent_core.proofs.Onward.{granted_stays, grant_stays, denied_stays, event_stays}
use Rattle.agent_core.proofs.laws.how_an_ask_ended_stays.Goals as goal

pub returns : goal.returns
returns c plan xs ys a place goes =
    (granted_stays plan xs ys a goes place, grant_stays plan xs ys a goes place, denied_stays plan xs ys a goes place, event_stays plan xs ys a goes place)
