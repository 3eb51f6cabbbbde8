use Rattle.cred_pull.proofs.Given.{given_once}
use Rattle.cred_pull.proofs.laws.what_is_given_is_one_list.Goals as goal

pub returns : goal.returns
returns c = given_once
