use Rattle.prin_text.proofs.Entered.{list_is_meant, list_is_read}
use Rattle.prin_text.proofs.laws.lists_are_read.Goals as goal

pub returns : goal.returns
returns c = λ labels bytes entries. (list_is_meant labels bytes entries, list_is_read labels bytes entries)
