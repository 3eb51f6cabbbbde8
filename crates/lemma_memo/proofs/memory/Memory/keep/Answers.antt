use Rattle.std.proofs.Common.{◌∙◌, Some, ap, ap₂, sym, subst}
use Rattle.std.specs.Arc.{arc_value}
use Rattle.prin_term.specs.View.{principal}
use Rattle.stmt_codec.specs.View.{certificates}
use Rattle.lemma_memo.specs.Memory.{Memo}
use Rattle.lemma_memo.specs.Question.{Keeps, TellsSound, keeps_none}
use Rattle.lemma_memo.specs.Kept.{HoldsKept, memo_of}
use Rattle.lemma_memo.proofs.Entries.{holds_kept, keeps_by}
use Rattle.lemma_memo.proofs.memory.Memory.keep.Goals.{in-Some, in_default}
use Rattle.lemma_memo.proofs.memory.Memory.keep.Goals as goal

pub returns-then-not-self : goal.returns-then-not-self
returns-then-not-self c = keeps_none

-- what was kept stays so, and what comes is a proof
pub invariant_of-self : goal.invariant_of-self
invariant_of-self c =
    let i = c.self.inside in
    let anchors = (arc_value i.anchors).items in
    let commons = certificates i.commons.items in
    let here = i.here.items in
    let left = principal c.args.left.now in
    let right = principal c.args.right.now in
    elim c.match-self.branch [
      | in-Some w ↦
          let holds = subst (HoldsKept anchors commons) w.in-Some.is c.self.invariant.2 in
          let seen = ap₂ (λ s o. memo_of anchors commons s here o) (sym c.if-not-self.false) (sym w.in-Some.is) ∙ c.self.view_is in
          let sound = subst (λ (m : Memo). TellsSound m left right c.args.taken.now) (sym seen) c.requires in
          rw w.self-inside-is (
            c.self.invariant.0,
            c.self.invariant.1,
            holds_kept anchors commons here c.self.invariant.1 w.in-Some.lemmas holds.1 left right c.args.taken.now w.keep.new.lemmas w.keep.ensures.valid w.keep.ensures.kept holds.0 sound,
          )
      | in_default w ↦ rw w.self-inside-is c.self.invariant
    ]

pub returns : goal.returns
returns c =
    let i = c.self.inside in
    let anchors = (arc_value i.anchors).items in
    let commons = certificates i.commons.items in
    let here = i.here.items in
    let left = principal c.args.left.now in
    let right = principal c.args.right.now in
    elim c.match-self.branch [
      | in-Some w ↦
          let holds = subst (HoldsKept anchors commons) w.in-Some.is c.self.invariant.2 in
          let seen = ap (λ o. memo_of anchors commons i.same here o) (sym w.in-Some.is) ∙ c.self.view_is in
          rw w.self-inside-is
          (subst (λ (m : Memo). Keeps m left right c.args.taken.now (memo_of anchors commons i.same here (Some w.keep.new.lemmas))) seen
          (subst (λ s. Keeps (memo_of anchors commons s here (Some w.in-Some.lemmas)) left right c.args.taken.now (memo_of anchors commons s here (Some w.keep.new.lemmas))) (sym c.if-not-self.false)
          (keeps_by anchors commons here c.self.invariant.1 w.in-Some.lemmas holds.1 left right c.args.taken.now w.keep.new.lemmas w.keep.ensures.valid w.keep.ensures.kept)))
      | in_default w ↦ rw w.self-inside-is (subst (λ (m : Memo). Keeps c.args.self.now left right c.args.taken.now m) (sym c.self.view_is) keeps_none)
    ]
