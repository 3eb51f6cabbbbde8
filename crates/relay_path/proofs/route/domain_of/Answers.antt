use Rattle.std.proofs.Common.{rules}
use Rattle.std.specs.Prelude.{◌==◌}
use borrow.Author.Tests.{tests}
use Rattle.std.proofs.lemmas.Iterator.{YieldsList-from_slice}
use Rattle.std.proofs.lemmas.Iterator.Search.{find_from_yields_List}
use Rattle.relay_path.proofs.Finding.{lent_knows}
use Rattle.relay_path.proofs.route.domain_of.Goals as goal

pub returns : goal.returns
returns c =
    lent_knows c.find.result c.args.domains.now c.args.number
    (find_from_yields_List (λ d. d.number == c.args.number) _ _ c.find.result c.find.ensures.ran (YieldsList-from_slice c.args.domains.now cc) (λ x b q k. search (rules, tests)))
