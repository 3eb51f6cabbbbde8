use Rattle.taos_calculus.proofs.Staying.{derives_more}
use Rattle.taos_calculus.proofs.laws.certificates_only_add.Goals as goal

pub returns : goal.returns
returns c = derives_more
