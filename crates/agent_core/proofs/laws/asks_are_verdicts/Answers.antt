-- what is at the place is the verdict
use Rattle.agent_core.proofs.Onward.{granted_verdict, hit_verdict, denied_verdict}
use Rattle.agent_core.proofs.laws.asks_are_verdicts.Goals as goal

pub returns : goal.returns
returns c plan journal a place =
    (granted_verdict plan journal a place, hit_verdict plan journal a place, denied_verdict plan journal a place)
