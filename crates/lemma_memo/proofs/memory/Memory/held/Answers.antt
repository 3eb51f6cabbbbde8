use Rattle.std.proofs.Common.{sym, subst}
use Rattle.std.specs.Arc.{arc_value}
use Rattle.stmt_codec.specs.View.{certificates}
use Rattle.lemma_memo.specs.Memory.{IsMemo}
use Rattle.lemma_memo.specs.Kept.{HoldsKept, memo_of}
use Rattle.lemma_memo.proofs.Entries.{is_memo}
use Rattle.lemma_memo.proofs.memory.Memory.held.Goals as goal

pub returns-in-Some-clause-memo : goal.returns-in-Some-clause-memo
returns-in-Some-clause-memo c =
    let i = c.self.inside in
    let anchors = (arc_value i.anchors).items in
    let commons = certificates i.commons.items in
    subst IsMemo c.self.view_is
    (subst (λ o. IsMemo (memo_of anchors commons i.same i.here.items o)) (sym c.in-Some.is)
    (is_memo anchors commons i.same i.here.items c.in-Some.lemmas c.len.ensures.valid (subst (HoldsKept anchors commons) c.in-Some.is c.self.invariant.2).1))
