use Rattle.prin_term.proofs.Whole.{spelled_once}
use Rattle.prin_term.proofs.laws.one_spelling.Goals as goal

pub returns : goal.returns
returns c = spelled_once
