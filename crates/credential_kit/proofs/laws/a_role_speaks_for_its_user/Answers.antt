use Rattle.credential_kit.proofs.Chains.{role_speaks}
use Rattle.credential_kit.proofs.laws.a_role_speaks_for_its_user.Goals as goal

pub returns : goal.returns
returns c = role_speaks
