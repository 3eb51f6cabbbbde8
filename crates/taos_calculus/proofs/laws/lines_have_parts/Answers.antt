use Rattle.taos_calculus.proofs.Numbering.{lines_have_parts}
use Rattle.taos_calculus.proofs.laws.lines_have_parts.Goals as goal

pub returns : goal.returns
returns c = lines_have_parts
