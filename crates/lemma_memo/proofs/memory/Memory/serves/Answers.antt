use Rattle.std.proofs.Common.{◌∙◌, ap₂, sym, subst}
use Rattle.std.specs.Arc.{arc_value}
use Rattle.prin_term.specs.View.{principal}
use Rattle.stmt_codec.specs.View.{certificates}
use Rattle.lemma_memo.specs.Memory.{Lemma, Memo, IsSound, Serves}
use Rattle.lemma_memo.specs.Kept.{HoldsKept, memo_of}
use Rattle.lemma_memo.proofs.Entries.{one_serves}
use Rattle.lemma_memo.proofs.memory.Memory.serves.Goals as goal

pub returns-clause-lemma : goal.returns-clause-lemma
returns-clause-lemma c = λ yes_is.
    let i = c.self.inside in
    let anchors = (arc_value i.anchors).items in
    let commons = certificates i.commons.items in
    let seen = ap₂ (λ s o. memo_of anchors commons s i.here.items o) (sym c.if-not-self.false) (sym c.in-Some.is) ∙ c.self.view_is in
    subst (λ (m : Memo). (l : Lemma) × IsSound m.anchors l × Serves m (principal c.args.left.now) (principal c.args.right.now) l) seen
    (one_serves anchors commons i.here.items c.self.invariant.1 c.in-Some.lemmas (subst (HoldsKept anchors commons) c.in-Some.is c.self.invariant.2).1 (principal c.args.left.now) (principal c.args.right.now) _ _ c.in-Some-search.ensures.hit)
