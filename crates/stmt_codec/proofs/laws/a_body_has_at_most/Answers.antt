use Rattle.stmt_codec.proofs.BodyLengths.{short_body}
use Rattle.stmt_codec.proofs.laws.a_body_has_at_most.Goals as goal

pub returns : goal.returns
returns c = short_body
