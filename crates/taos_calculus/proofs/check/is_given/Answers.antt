use Rattle.taos_calculus.specs.declared.line.Fact.{Fact}
use Rattle.taos_calculus.specs.Numbered.{facts_at}
use Rattle.taos_calculus.specs.Checking.{said_by}
use Rattle.taos_calculus.proofs.Premises.{asked_gives}
use Rattle.taos_calculus.proofs.check.is_given.Goals as goal

pub returns-in-Speaks : goal.returns-in-Speaks
returns-in-Speaks c =
    let claims = said_by c.args.cites.now in
    let test = c.gives_speaks.ensures claims in
    let gives = asked_gives c.args.nodes.now c.args.anchors.now claims (facts_at c.args.earlier.now) (Fact.Speaks c.in-Speaks.left c.in-Speaks.right) c.args.line.step in
    rw c.in-Speaks.is (λ t. gives.1 (test.0 t), λ g. test.1 (gives.0 g))

pub returns-in-Says : goal.returns-in-Says
returns-in-Says c =
    let claims = said_by c.args.cites.now in
    let test = c.gives_says.ensures c.args.anchors.now in
    let gives = asked_gives c.args.nodes.now c.args.anchors.now claims (facts_at c.args.earlier.now) (Fact.Says c.in-Says.who c.in-Says.left c.in-Says.right) c.args.line.step in
    rw c.in-Says.is (λ t. gives.1 (test.0 t), λ g. test.1 (gives.0 g))
