use Rattle.stmt_codec.proofs.Living.{dead_not_early, ended, members, others, told}
use Rattle.stmt_codec.proofs.laws.the_live_are_told.Goals as goal

pub returns-clause-told : goal.returns-clause-told
returns-clause-told c = told

pub returns-clause-ended : goal.returns-clause-ended
returns-clause-ended c = ended

pub returns-clause-others : goal.returns-clause-others
returns-clause-others c = others

pub returns-clause-apart : goal.returns-clause-apart
returns-clause-apart c = dead_not_early

pub returns-clause-members : goal.returns-clause-members
returns-clause-members c = members
