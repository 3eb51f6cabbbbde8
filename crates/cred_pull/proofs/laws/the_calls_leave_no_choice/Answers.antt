use Rattle.cred_pull.proofs.OnePull.{one_pull}
use Rattle.cred_pull.proofs.laws.the_calls_leave_no_choice.Goals as goal

pub returns : goal.returns
returns c = one_pull
