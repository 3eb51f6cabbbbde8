use Rattle.node_journals.proofs.Turning.{turned}
use Rattle.node_journals.proofs.laws.courses.courses_are_turned.Goals as goal

pub returns : goal.returns
returns c d n fits node J i is used sent course read had = turned d fits n node i is J used sent course read had
