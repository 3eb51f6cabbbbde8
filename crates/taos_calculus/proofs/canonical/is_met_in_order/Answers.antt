use Rattle.std.proofs.Common.{◌≡◌, subst, take, List}
use Rattle.std.proofs.lemmas.List.{take_all}
use Rattle.std.proofs.lemmas.Bool.{false≢true}
use Rattle.taos_calculus.specs.declared.line.Line.{Line}
use Rattle.taos_calculus.specs.Walking.{Reaches}
use Rattle.taos_calculus.proofs.Canon.{numbers_of, canonical_answer, line_reaches, line_strays}
use Rattle.taos_calculus.proofs.canonical.is_met_in_order.Goals as goal

-- a line that leads nowhere
pub returns-in-None : goal.returns-in-None
returns-in-None c = (
  λ f. absurd (false≢true f),
  λ h. absurd (line_strays c.args.nodes.now c.requires.table c.args.lines.now c.loop-line.line-index c.loop-line.due _ c.loop-line-test.true c.loop-line.invariant c.in-None.ensures h),
)

pub loop-line-preserved : goal.loop-line-preserved
loop-line-preserved c =
    line_reaches c.args.nodes.now c.requires.table c.args.lines.now c.loop-line.line-index c.loop-line.due _ c.loop-line-test.true c.loop-line.invariant c.in-Some.next c.in-Some.ensures

-- all lines were gone through
pub returns : goal.returns
returns c =
    let all : take c.loop-line.line-index c.args.lines.now ≡ c.args.lines.now = take_all c.loop-line.line-index c.args.lines.now c.loop-line-test.false in
    canonical_answer c.args.nodes.now c.args.lines.now c.requires.table c.loop-line.due
    (subst (λ (ls : List Line). Reaches c.args.nodes.now 0 (numbers_of ls) c.loop-line.due) all c.loop-line.invariant)
