use Rattle.stmt_codec.proofs.Members.{members_same, none_twice}
use Rattle.stmt_codec.proofs.laws.each_part_is_counted_once.Goals as goal

pub returns-clause-members : goal.returns-clause-members
returns-clause-members c = members_same

pub returns-clause-apart : goal.returns-clause-apart
returns-clause-apart c = none_twice
