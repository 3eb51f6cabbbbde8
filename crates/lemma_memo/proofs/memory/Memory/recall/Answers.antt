use Rattle.std.proofs.Common.{◌∙◌, Some, None, ap, refl, sym, subst}
use Rattle.std.specs.Arc.{arc_value}
use Rattle.std.specs.declared.alloc.AllocError.{AllocError}
use Rattle.prin_term.specs.View.{principal}
use Rattle.stmt_codec.specs.View.{certificates}
use Rattle.lemma_memo.specs.Memory.{Memo, NoneServes}
use Rattle.lemma_memo.specs.Question.{Recalls, recalls_none}
use Rattle.lemma_memo.specs.Kept.{HoldsKept, memo_of}
use Rattle.lemma_memo.proofs.Entries.{holds_used, no_room, none_serves, other_anchors, recalls}
use Rattle.lemma_memo.proofs.memory.Memory.recall.Goals.{in-Some-search, in-None}
use Rattle.lemma_memo.proofs.memory.Memory.recall.Goals as goal

pub returns-then-not-self : goal.returns-then-not-self
returns-then-not-self c = recalls_none (other_anchors c.args.self.now (principal c.args.left.now) (principal c.args.right.now) (sym (ap (λ (m : Memo). m.same) c.self.view_is) ∙ c.if-not-self.true))

pub returns-in_default : goal.returns-in_default
returns-in_default c =
    let i = c.self.inside in
    let left = principal c.args.left.now in
    let right = principal c.args.right.now in
    let none = no_room (arc_value i.anchors).items (certificates i.commons.items) i.same i.here.items i.lemmas left right c.in_default.not-Some in
    subst (λ (m : Memo). Recalls {E = AllocError} c.args.self.now left right m None) (sym c.self.view_is) (recalls_none (subst (λ (m : Memo). NoneServes m left right) c.self.view_is none))

-- what was kept stays so
pub invariant_of-self-2 : goal.invariant_of-self-2
invariant_of-self-2 c =
    let i = c.self.inside in
    let anchors = (arc_value i.anchors).items in
    let commons = certificates i.commons.items in
    let holds = subst (HoldsKept anchors commons) c.in-Some.is c.self.invariant.2 in
    elim c.match-search.branch [
      | in-Some-search w ↦
          rw w.self-inside-is (
            c.self.invariant.0,
            c.self.invariant.1,
            holds_used anchors commons i.here.items c.self.invariant.1 c.in-Some.lemmas holds.1 w.recall.result _ w.recall.new.lemmas holds.0 w.recall.ensures.used w.recall.ensures.stays,
          )
      | in-None w ↦ rw w.self-inside-is (c.self.invariant.0, c.self.invariant.1, holds)
    ]

pub returns : goal.returns
returns c =
    let i = c.self.inside in
    let anchors = (arc_value i.anchors).items in
    let commons = certificates i.commons.items in
    let here = i.here.items in
    let left = principal c.args.left.now in
    let right = principal c.args.right.now in
    let lemmas = c.in-Some.lemmas in
    let holds = subst (HoldsKept anchors commons) c.in-Some.is c.self.invariant.2 in
    let seen = ap (λ o. memo_of anchors commons i.same here o) (sym c.in-Some.is) ∙ c.self.view_is in
    elim c.match-search.branch [
      | in-Some-search w ↦
          rw (w.self-inside-is, w.result-is)
          (subst (λ (m : Memo). Recalls {E = AllocError} m left right (memo_of anchors commons i.same here (Some w.recall.new.lemmas)) (Some w.recall.result)) seen
          (subst (λ s. Recalls {E = AllocError} (memo_of anchors commons s here (Some lemmas)) left right (memo_of anchors commons s here (Some w.recall.new.lemmas)) (Some w.recall.result)) (sym c.if-not-self.false)
          (recalls anchors commons here c.self.invariant.1 lemmas holds.1 w.recall.ensures.valid left right _ _ w.recall.new.lemmas w.recall.result w.in-Some-search.ensures.hit w.recall.ensures.proof w.recall.ensures.used w.recall.ensures.stays)))
      | in-None w ↦
          rw (w.self-inside-is, w.result-is)
          (subst (λ (m : Memo). Recalls {E = AllocError} m left right (memo_of anchors commons i.same here (Some lemmas)) None) seen
          (recalls_none (subst (λ s. NoneServes (memo_of anchors commons s here (Some lemmas)) left right) (sym c.if-not-self.false)
          (none_serves anchors commons here c.self.invariant.1 lemmas holds.1 left right (w.in-None.ensures.none refl)))))
    ]
