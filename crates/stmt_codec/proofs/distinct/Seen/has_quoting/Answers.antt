use Rattle.std.proofs.Common.{◌∙◌, take, rules, tests}
use Rattle.std.proofs.lemmas.Iterator.{YieldsList-from_slice}
use Rattle.std.proofs.lemmas.Iterator.Search.{any_from_yields_List}
use Rattle.prin_term.specs.View.{principal}
use Rattle.prin_term.specs.Principal.{Quoting}
use Rattle.stmt_codec.specs.Distinct.{same_principal}
use Rattle.stmt_codec.proofs.Tables.{list_any-map}
use Rattle.stmt_codec.proofs.distinct.Seen.has_quoting.Goals as goal

pub returns : goal.returns
returns c =
    any_from_yields_List {all = take c.args.self.now.count c.args.self.now.terms} (λ t. same_principal (Quoting (principal c.args.first.now) (principal c.args.second.now)) (principal t.now)) _ _ _ c.any.ensures.ran (YieldsList-from_slice _ cc) (λ x b q k. search (rules, tests))
    ∙ list_any-map (λ t. principal t.now) (same_principal (Quoting (principal c.args.first.now) (principal c.args.second.now))) (take c.args.self.now.count c.args.self.now.terms)
