use Rattle.prin_term.proofs.Whole.{prefix_refused, longer_read}
use Rattle.prin_term.proofs.laws.prefixes_are_short.Goals as goal

pub returns-clause-prefix : goal.returns-clause-prefix
returns-clause-prefix c = prefix_refused

pub returns-clause-longer : goal.returns-clause-longer
returns-clause-longer c = longer_read
