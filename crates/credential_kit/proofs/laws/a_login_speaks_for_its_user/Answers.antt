use Rattle.credential_kit.proofs.Chains.{login_speaks}
use Rattle.credential_kit.proofs.laws.a_login_speaks_for_its_user.Goals as goal

pub returns : goal.returns
returns c = login_speaks
