use Rattle.relay_path.proofs.Leading.{last_opens}
use Rattle.relay_path.proofs.laws.the_last_form_opens.Goals as goal

pub returns : goal.returns
returns c = last_opens
