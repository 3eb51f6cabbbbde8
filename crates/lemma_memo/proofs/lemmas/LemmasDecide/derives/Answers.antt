use Rattle.std.proofs.Common.{ap, subst}
use Rattle.prin_term.specs.View.{principal}
use Rattle.taos_calculus.specs.Question.{MayAnswer}
use Rattle.lemma_memo.proofs.Again.{served}
use Rattle.lemma_memo.proofs.lemmas.LemmasDecide.derives.Goals as goal

-- a lemma that serves is a derivation
pub returns-then-serves-clause-answer : goal.returns-then-serves-clause-answer
returns-then-serves-clause-answer g c = (
  λ yes_is.
      let left = principal c.args.left.now in
      let right = principal c.args.right.now in
      let (l, sound, s) = c.serves.ensures.lemma c.if-serves.true in
      subst (λ d. MayAnswer (g.D.Decide.question d) left right) (ap (λ r. r.inner) c.self.view_is)
      (served (g.D.Decide.question c.self.inside.inner) c.self.inside.memory c.self.invariant left right l sound s),
  λ may. c.if-serves.true,
)
