use Rattle.prin_text.proofs.Whole.{read_is_meant, meant_is_read}
use Rattle.prin_text.proofs.laws.principals_are_read.Goals as goal

pub returns : goal.returns
returns c = λ labels bytes p. (read_is_meant labels bytes p, meant_is_read labels bytes p)
