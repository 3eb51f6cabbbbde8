use Rattle.stmt_codec.proofs.Once.{body_once}
use Rattle.stmt_codec.proofs.laws.one_body_spelling.Goals as goal

pub returns : goal.returns
returns c = body_once
