use Rattle.std.proofs.Common.{sym, ap, ◌∙◌, map, subst, arith}
use Rattle.std.proofs.lemmas.Bool.{false≢true}
use Rattle.prin_term.specs.View.{Grant, grant, principal}
use Rattle.taos_calculus.specs.Question.{Question, MayAnswer}
use Rattle.denial_link.proofs.Places.{entry_at}
use Rattle.denial_link.proofs.Entries.{first_here, none_more}
use Rattle.denial_link.proofs.Reaching.{still_term}
use Rattle.denial_link.proofs.first.first_before.Goals as goal
use Rattle.denial_link.proofs.first.first_before.Goals.{else-entry-right-ne0-via-then-entry-right-ne0+else-derives, else-entry-right-ne0-via-else-entry-right-ne0}

pub derives-requires-clause-right : goal.derives-requires-clause-right
derives-requires-clause-right g c =
    let at = entry_at c.args.list.now c.loop-place.place c.index-list-place.result c.index-list-place.is (omega arith) in
    still_term (g.D.Decide.question c.args.bench.now) _ _ c.loop-place.invariant.0 (c.requires.asked c.loop-place.place (grant c.index-list-place.result) at)

pub returns-then-derives-clause-found : goal.returns-then-derives-clause-found
returns-then-derives-clause-found g c =
    let q = g.D.Decide.question c.args.bench.now in
    let subject = principal c.args.subject.now in
    let at = entry_at c.args.list.now c.loop-place.place c.index-list-place.result c.index-list-place.is (omega arith) in
    let f = first_here (map grant c.args.list.now) c.args.right (λ (e : Grant). MayAnswer q subject e.who) c.loop-place.place (grant c.index-list-place.result)
    c.loop-place.invariant.1 at c.if-entry-right-ne0.true
    (subst (λ (x : Question). MayAnswer x subject (principal c.index-list-place.result.who)) c.loop-place.invariant.0 (c.derives.ensures.answer.0 c.if-derives.true)) in
    (omega arith, f.0, f.1)

pub loop-place-preserved : goal.loop-place-preserved
loop-place-preserved g c =
    let q = g.D.Decide.question c.args.bench.now in
    let subject = principal c.args.subject.now in
    let at = entry_at c.args.list.now c.loop-place.place c.index-list-place.result c.index-list-place.is (omega arith) in
    let more = none_more (map grant c.args.list.now) c.args.right (λ (e : Grant). MayAnswer q subject e.who) c.loop-place.place (grant c.index-list-place.result) c.loop-place.invariant.1 at in
    elim c.else-entry-right-ne0.branch [
      | else-entry-right-ne0-via-then-entry-right-ne0+else-derives w ↦ (
        ap g.D.Decide.question w.bench-is ∙ w.derives.ensures.same ∙ c.loop-place.invariant.0,
        more (λ r d. false≢true (sym w.if-derives.false ∙ w.derives.ensures.answer.1 (subst (λ (x : Question). MayAnswer x subject (principal c.index-list-place.result.who)) (sym c.loop-place.invariant.0) d))),
      )
      | else-entry-right-ne0-via-else-entry-right-ne0 w ↦
          (ap g.D.Decide.question w.bench-is ∙ c.loop-place.invariant.0, more (λ r d. r w.if-entry-right-ne0.false))
    ]

pub returns-clause-found : goal.returns-clause-found
returns-clause-found g c = λ k e lt s r d. c.loop-place.invariant.1 k e (omega arith) s r d
