use Rattle.cred_pull.proofs.Bytes.{pulled_open}
use Rattle.cred_pull.proofs.laws.what_is_appended_opens.Goals as goal

pub returns : goal.returns
returns c = pulled_open
