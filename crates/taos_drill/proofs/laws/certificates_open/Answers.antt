use Rattle.taos_drill.proofs.Asking.{certificate_opens}
use Rattle.taos_drill.proofs.laws.certificates_open.Goals as goal

pub returns : goal.returns
returns c = λ seed channel small. certificate_opens seed channel small
