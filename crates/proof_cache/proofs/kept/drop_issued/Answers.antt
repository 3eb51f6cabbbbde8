-- each row is tested by what it keeps
use Rattle.std.proofs.Common.{◌∙◌, ap, map, not, rules, tests}
use Rattle.std.proofs.lemmas.Fn.{filter_same}
use Rattle.proof_cache.specs.Cache.{cites_issuer, kept}
use Rattle.proof_cache.proofs.One.{filter-map}
use Rattle.proof_cache.proofs.kept.drop_issued.Goals as goal

pub returns-clause-left : goal.returns-clause-left
returns-clause-left c =
    ap (map kept) (filter_same _ (λ r. not (cites_issuer c.args.issuer (kept r))) _
    (λ x b f' k. search (rules, tests)) _ _ c.retain.ensures.filtered)
    ∙ filter-map kept (λ x. not (cites_issuer c.args.issuer x)) c.args.rows.now.items
