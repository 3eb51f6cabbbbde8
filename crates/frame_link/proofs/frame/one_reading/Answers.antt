use Rattle.frame_link.proofs.Splits.{split_once, split_found}
use Rattle.frame_link.proofs.frame.one_reading.Goals as goal

pub returns-clause-exists : goal.returns-clause-exists
returns-clause-exists c = split_found

pub returns-clause-unique : goal.returns-clause-unique
returns-clause-unique c = split_once
