use Rattle.goal_search.specs.Searching.{core}
use Rattle.goal_search.proofs.GapLaws.{edge_gap}
use Rattle.goal_search.proofs.search.Search.operand_gap.Goals as goal

pub returns-in-Passed : goal.returns-in-Passed
returns-in-Passed c =
    edge_gap (core c.args.self.now) c.args.row c.args.from c.args.to c.requires.row_in c.requires.from_in c.requires.to_in c.requires.has c.requires.lacks (c.requires.edge c.in-Passed.ensures)
