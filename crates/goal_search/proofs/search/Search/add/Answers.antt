-- One cell more is filled, for a reason that was there before it.
use Rattle.std.proofs.Common.{refl, arith}
use Rattle.goal_search.specs.Searching.{core}
use Rattle.goal_search.proofs.Growing.{cell_place, cell_empty, reason_small, filled_one, there_now}
use Rattle.goal_search.proofs.search.Search.add.Goals as goal

pub fill-requires-clause-place : goal.fill-requires-clause-place
fill-requires-clause-place c = cell_place (core c.args.self.now) c.requires.ready c.args.row c.args.number c.requires.row_in c.requires.number_in

pub fill-requires-clause-empty : goal.fill-requires-clause-empty
fill-requires-clause-empty c = cell_empty (core c.args.self.now) c.requires.ready c.args.row c.args.number c.requires.row_in c.requires.number_in c.requires.new

pub fill-requires-clause-reason : goal.fill-requires-clause-reason
fill-requires-clause-reason c = reason_small (core c.args.self.now) c.requires.ready c.args.row c.args.number c.args.reason c.requires.reason

pub returns-clause-filled : goal.returns-clause-filled
returns-clause-filled c =
    filled_one (core c.args.self.now) _ c.args.row c.args.number c.args.reason c.requires.ready c.requires.row_in c.requires.number_in c.requires.new c.requires.reason c.fill.ensures refl refl refl refl refl

pub returns-clause-there : goal.returns-clause-there
returns-clause-there c =
    there_now (core c.args.self.now) _ c.args.row c.args.number c.args.reason c.requires.ready c.requires.row_in c.requires.number_in c.requires.new c.requires.reason c.fill.ensures refl refl refl refl refl

pub returns-clause-less : goal.returns-clause-less
returns-clause-less c = omega (arith, c.fill.ensures.less)
