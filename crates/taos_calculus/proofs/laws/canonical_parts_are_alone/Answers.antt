use Rattle.taos_calculus.proofs.Spelled.{numbered-lines_of}
use Rattle.taos_calculus.proofs.laws.canonical_parts_are_alone.Goals as goal

pub returns : goal.returns
returns c = numbered-lines_of
