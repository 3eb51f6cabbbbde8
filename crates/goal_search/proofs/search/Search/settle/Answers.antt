use Rattle.std.proofs.Common.{arith}
use Rattle.goal_search.specs.Searching.{core}
use Rattle.goal_search.proofs.Growing.{grown_then}
use Rattle.goal_search.proofs.Wanting.{filled_left}
use Rattle.goal_search.proofs.search.Search.settle.Goals as goal

pub loop-left-init : goal.loop-left-init
loop-left-init c = c.work_at.ensures.grown

pub loop-left-preserved : goal.loop-left-preserved
loop-left-preserved c =
    grown_then (core c.args.self.now) (core c.loop-left.self) (core c.work.new.self) c.loop-left.invariant
    (grown_then (core c.loop-left.self) (core c.mend.new.self) (core c.work.new.self) c.mend.ensures.grown c.work.ensures.grown)

pub loop-left-smaller : goal.loop-left-smaller
loop-left-smaller c = omega (arith, filled_left (core c.mend.new.self) (core c.work.new.self) c.mend.ensures.grown.ready c.work.ensures, c.mend.ensures.less)
