use Rattle.credential_kit.proofs.Chains.{delegate_speaks}
use Rattle.credential_kit.proofs.laws.a_delegation_reaches_a_second_machine.Goals as goal

pub returns : goal.returns
returns c = delegate_speaks
