use Rattle.std.proofs.Common.{◌≡◌, map}
use Rattle.prin_term.specs.View.{Grant, grant, principal}
use Rattle.taos_calculus.specs.Question.{MayAnswer}
use Rattle.denial_link.specs.Links.{NoneBefore}
use Rattle.denial_link.proofs.first.first_before.Given as goal

abbrev pub invariant-loop-place : goal.invariant-loop-place
invariant-loop-place g l =
    (g.D.Decide.question l.bench ≡ g.D.Decide.question l.fn.bench) ×
    NoneBefore (map grant l.list) l.right (λ (e : Grant). MayAnswer (g.D.Decide.question l.fn.bench) (principal l.subject) e.who) l.place
