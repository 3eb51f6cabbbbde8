use Rattle.std.proofs.Common.{sym}
use Rattle.taos_calculus.proofs.Apart.{claims_apart}
use Rattle.taos_calculus.proofs.laws.tidy_cites_differ.Goals as goal

pub returns : goal.returns
returns c = λ anchors said lines cites fact long proves tidy. claims_apart anchors said lines cites (sym long) proves.follow tidy
