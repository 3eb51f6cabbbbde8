use Rattle.denial_link.proofs.Once.{one_link}
use Rattle.denial_link.proofs.laws.one_first_link.Goals as goal

pub returns : goal.returns
returns c = one_link
