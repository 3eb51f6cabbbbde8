use Rattle.node_journals.proofs.JournalCounting.{counted}
use Rattle.node_journals.proofs.laws.courses.works_are_counted.Goals as goal

pub returns : goal.returns
returns c d n fits node J works = counted d fits n node J works
