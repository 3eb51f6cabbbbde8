use Rattle.node_file.proofs.OpeningLaws.{spelled_once}
use Rattle.node_file.proofs.laws.one_opening.Goals as goal

pub returns : goal.returns
returns c = λ o p bytes is_o is_p. spelled_once o p bytes is_o is_p
