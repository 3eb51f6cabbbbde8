use Rattle.std.proofs.Common.{◌≡◌, ◌+◌, ◌-◌, ℕ, arith, length, subst}
use Rattle.goal_search.specs.Searching.{about, core, Has, IsBegun}
use Rattle.goal_search.proofs.search.Search.begin.Goals as goal

pub returns-else-row-count-clause-begun : goal.returns-else-row-count-clause-begun
returns-else-row-count-clause-begun c =
    let e : length c.args.self.now.nodes.items + (c.args.row - c.len-count.result) ≡ c.args.row = omega (arith, c.len-count.ensures, c.args.self.now.nodes.ok.0, c.if-row-count.false) in
    subst (λ (r : ℕ). IsBegun (about (core c.begin_statement.new.self)) (Has (core c.begin_statement.new.self)) r) e c.begin_statement.ensures.begun
