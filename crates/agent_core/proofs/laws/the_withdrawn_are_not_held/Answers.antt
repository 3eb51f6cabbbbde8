-- by the laws of what is withdrawn
use Rattle.agent_core.proofs.Withdrawing.{not_held, from_then}
use Rattle.agent_core.proofs.laws.the_withdrawn_are_not_held.Goals as goal

pub returns-clause-not_held : goal.returns-clause-not_held
returns-clause-not_held c = not_held

pub returns-clause-from_then : goal.returns-clause-from_then
returns-clause-from_then c = from_then
