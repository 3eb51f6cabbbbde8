use Rattle.prin_text.proofs.Whole.{printed_is_read}
use Rattle.prin_text.proofs.laws.printed_principals_are_read.Goals as goal

pub returns : goal.returns
returns c = printed_is_read
