use Rattle.prin_text.proofs.Listed.{printed_list_is_read}
use Rattle.prin_text.proofs.laws.printed_lists_are_read.Goals as goal

pub returns : goal.returns
returns c = printed_list_is_read
