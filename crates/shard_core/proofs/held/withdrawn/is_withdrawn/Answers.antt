-- the test of an issuer is that of the definition
use Rattle.std.proofs.Common.{◌==◌, rules, tests}
use Rattle.std.proofs.lemmas.Iterator.{YieldsList-from_slice}
use Rattle.std.proofs.lemmas.Iterator.Search.{any_from_yields_List}
use Rattle.shard_core.proofs.held.withdrawn.is_withdrawn.Goals as goal

pub returns : goal.returns
returns c =
    any_from_yields_List {all = c.args.issuers.now.items} (λ i. c.args.issuer == i) _ _ _ c.any.ensures.ran (YieldsList-from_slice _ cc) (λ x b q k. search (rules, tests))
