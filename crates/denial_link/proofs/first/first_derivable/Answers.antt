use Rattle.std.proofs.Common.{map, arith}
use Rattle.std.proofs.lemmas.List.{length-map}
use Rattle.prin_term.specs.View.{Grant, grant, principal}
use Rattle.taos_calculus.specs.Question.{MayAnswer}
use Rattle.denial_link.proofs.Entries.{found_at_all}
use Rattle.denial_link.proofs.first.first_derivable.Goals as goal

pub returns-clause-found : goal.returns-clause-found
returns-clause-found g c =
    found_at_all c.first_before.result (map grant c.args.list.now) c.args.right _
    (λ (e : Grant). MayAnswer (g.D.Decide.question c.args.bench.now) (principal c.args.subject.now) e.who)
    c.first_before.ensures.found (omega (arith, length-map c.args.list.now grant))
