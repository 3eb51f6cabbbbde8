use Rattle.std.proofs.Common.{length, refl, arith}
use Rattle.std.proofs.lemmas.Bool.{false≢true}
use Rattle.taos_calculus.specs.Checking.{said_by}
use Rattle.taos_calculus.proofs.Checks.{one_more, does_not, nothing_there}
use Rattle.taos_calculus.proofs.check.first_bad.Goals as goal

-- a line that its step does not give does not follow
pub returns-then-not-is_given-clause-here : goal.returns-then-not-is_given-clause-here
returns-then-not-is_given-clause-here c =
    does_not c.args.nodes.now c.requires.table c.args.anchors.now (said_by c.args.cites.now) c.args.lines.now c.requires.below
    c.loop-k.k _ c.loop-k-test.true (λ g. false≢true (c.if-not-is_given.ensures.1 g))

pub loop-k-preserved : goal.loop-k-preserved
loop-k-preserved c =
    one_more c.args.nodes.now c.requires.table c.args.anchors.now (said_by c.args.cites.now) c.args.lines.now c.requires.below
    c.loop-k.k _ c.loop-k-test.true c.loop-k.invariant (c.if-not-is_given.ensures.0 refl)

-- behind the last line there is none
pub returns-clause-here : goal.returns-clause-here
returns-clause-here c = λ l e.
    absurd (nothing_there c.args.nodes.now c.requires.table c.args.anchors.now (said_by c.args.cites.now) c.args.lines.now c.requires.below
    (length c.args.lines.now) (omega arith) l e)
