use Rattle.std.proofs.Common.{◌∙◌, rules, tests}
use Rattle.std.proofs.lemmas.Iterator.{YieldsList-from_slice}
use Rattle.std.proofs.lemmas.Iterator.Search.{any_from_yields_List}
use Rattle.stmt_codec.specs.Certificates.{certificate}
use Rattle.stmt_codec.specs.Equality.{same_certificate}
use Rattle.stmt_codec.proofs.Tables.{list_any-map}
use Rattle.node_file.specs.OpeningView.{common}
use Rattle.node_file.proofs.opening.common.is_among.Goals as goal

pub returns : goal.returns
returns c =
    let test = same_certificate (certificate c.args.cert.now.body) in
    any_from_yields_List (λ other. test (common other)) _ _ _ c.any.ensures.ran (YieldsList-from_slice _ cc) (λ x b q k. search (rules, tests)) ∙ list_any-map common test c.args.before.now
