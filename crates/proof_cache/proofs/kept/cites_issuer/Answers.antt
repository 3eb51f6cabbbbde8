-- a certificate is cited by its issuer
use Rattle.std.proofs.Common.{◌==◌, ◌∙◌, rules, tests}
use Rattle.std.proofs.lemmas.Iterator.{YieldsList-from_slice}
use Rattle.std.proofs.lemmas.Iterator.Search.{any_from_yields_List}
use Rattle.std.specs.Arc.{arc_value}
use Rattle.stmt_codec.specs.declared.cert.Cert.{Cert}
use Rattle.stmt_codec.specs.Certificates.{certificate}
use Rattle.stmt_codec.proofs.Tables.{list_any-map}
use Rattle.proof_cache.proofs.kept.cites_issuer.Goals as goal

pub returns : goal.returns
returns c =
    any_from_yields_List
    (λ x. (certificate (arc_value {X = Cert} x).body).issuer == c.args.issuer)
    _ _ _ c.any.ensures.ran (YieldsList-from_slice _ cc) (λ x b q k. search (rules, tests))
    ∙ list_any-map (λ x. certificate (arc_value {X = Cert} x).body)
    (λ y. y.issuer == c.args.issuer) c.args.proof.now.cites.items
