use Rattle.std.proofs.Common.{arith}
use Rattle.term_pool.proofs.Cells.{cell_in}
use Rattle.term_pool.proofs.Adding.{read_empty, read_full}
use Rattle.term_pool.proofs.found.Found.number.Goals as goal

pub index-number-requires : goal.index-number-requires
index-number-requires c =
    omega (
      arith,
      c.requires.found.index.sized,
      c.args.self.now.numbers.ok.0,
      cell_in c.args.self.now.width c.args.self.now.statements.items c.args.fact c.in_ok-cell.cell c.in_ok-cell.ensures,
    )

pub returns-then-number-eq0 : goal.returns-then-number-eq0
returns-then-number-eq0 c =
    read_empty c.args.self.now.width c.args.self.now.statements.items c.args.self.now.numbers.items c.args.self.now.lines.items c.requires.found.index
    c.args.fact c.in_ok-cell.cell c.index-number.result.now c.in_ok-cell.ensures c.index-number.ensures c.if-number-eq0.true

pub returns-else-number-eq0 : goal.returns-else-number-eq0
returns-else-number-eq0 c =
    read_full c.args.self.now.width c.args.self.now.statements.items c.args.self.now.numbers.items c.args.self.now.lines.items c.requires.found.index
    c.args.fact c.in_ok-cell.cell c.index-number.result.now c.in_ok-cell.ensures c.index-number.ensures c.if-number-eq0.false
