-- the certificate of the channel alone decides
use Rattle.node_journals.proofs.Ending.{judged_by_own, verdict_listed, ends_listed}
use Rattle.node_journals.proofs.laws.journal_laws.asks_have_verdicts.Goals as goal

pub returns-clause-judged : goal.returns-clause-judged
returns-clause-judged c = judged_by_own

pub returns-clause-verdict : goal.returns-clause-verdict
returns-clause-verdict c = verdict_listed

pub returns-clause-ends : goal.returns-clause-ends
returns-clause-ends c = ends_listed
