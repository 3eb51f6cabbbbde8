-- each row is tested by what it keeps
use Rattle.std.proofs.Common.{◌∙◌, ap, map, not, sym, rules, tests}
use Rattle.std.proofs.lemmas.Fn.{filter_same}
use Rattle.proof_cache.specs.Cache.{has_lapsed, kept}
use Rattle.proof_cache.proofs.One.{filter-map, leaves_all}
use Rattle.proof_cache.proofs.kept.drop_lapsed.Goals as goal

pub returns-clause-left : goal.returns-clause-left
returns-clause-left c =
    ap (map kept) (filter_same _ (λ r. not (has_lapsed c.args.clock (kept r))) _
    (λ x b f' k. search (rules, tests)) _ _ c.retain.ensures.filtered)
    ∙ filter-map kept (λ x. not (has_lapsed c.args.clock x)) c.args.rows.now.items

-- none has ended, so all are left
pub returns-then-are_unended-clause-left : goal.returns-then-are_unended-clause-left
returns-then-are_unended-clause-left c =
    let live = c.are_unended.ensures c.if-are_unended.true in
    let all = rw c.deref.ensures.value at live in
    sym (leaves_all (has_lapsed c.args.clock) (map kept c.args.rows.now.items) all)
