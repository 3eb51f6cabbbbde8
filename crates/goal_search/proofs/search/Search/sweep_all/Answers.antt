use Rattle.goal_search.specs.Searching.{core}
use Rattle.std.proofs.Common.{ap, arith, length}
use Rattle.goal_search.proofs.Refusals.{row_wanted, stands_in}
use Rattle.goal_search.proofs.Growing.{filled_then}
use Rattle.goal_search.proofs.search.Search.sweep_all.Goals as goal

pub loop-place-preserved : goal.loop-place-preserved
loop-place-preserved c = filled_then (core c.args.self.now) (core c.loop-place.self) (core c.sweep.new.self) c.loop-place.invariant c.sweep.ensures

pub sweep-requires-clause-row_in : goal.sweep-requires-clause-row_in
sweep-requires-clause-row_in c =
    row_wanted (core c.loop-place.self) c.loop-place.invariant.grown.ready c.index.result.now (stands_in c.loop-place.self.wanted.items c.loop-place.place c.index.result.now (omega (arith, ap length c.loop-place.invariant.wanted_are)) c.index.ensures)
