-- by the laws of journals
use Rattle.agent_core.proofs.Making.{journal_legal, one_journal}
use Rattle.agent_core.proofs.laws.events_have_one_journal.Goals as goal

pub returns-clause-legal : goal.returns-clause-legal
returns-clause-legal c = journal_legal

pub returns-clause-one : goal.returns-clause-one
returns-clause-one c = one_journal
