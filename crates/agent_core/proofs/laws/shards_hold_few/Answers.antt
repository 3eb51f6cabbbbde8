-- by the laws of journals
use Rattle.agent_core.proofs.Few.{holds_few, judges_few}
use Rattle.agent_core.proofs.laws.shards_hold_few.Goals as goal

pub returns-clause-held : goal.returns-clause-held
returns-clause-held c = holds_few

pub returns-clause-judged : goal.returns-clause-judged
returns-clause-judged c = judges_few
