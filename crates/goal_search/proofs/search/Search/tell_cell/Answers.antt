use Rattle.std.proofs.Common.{◌≡◌, ◌+◌, ◌-◌, ℕ, length, arith, subst}
use Rattle.goal_search.specs.Reasons.{IsReason}
use Rattle.goal_search.specs.Searching.{about, core}
use Rattle.goal_search.specs.Telling.{TellsOf}
use Rattle.goal_search.proofs.Reasoned.{told_of_number, told_of_statement}
use Rattle.goal_search.proofs.search.Search.tell_cell.Goals as goal

pub returns-then-row-len-clause-told : goal.returns-then-row-len-clause-told
returns-then-row-len-clause-told c = λ why.
    told_of_number (core c.args.self.now) c.requires.ready c.args.found.now c.args.row c.args.number c.args.reason (omega arith) c.tell_of_number.new.found (c.tell_of_number.ensures.told why)

pub returns-else-row-len-clause-told : goal.returns-else-row-len-clause-told
returns-else-row-len-clause-told c = λ why.
    let place : ℕ = c.args.row - c.len-else-row-len.result in
    let row_is : c.args.row ≡ length c.args.self.now.nodes.items + place = omega (arith, c.len-else-row-len.ensures, c.args.self.now.nodes.ok.0, c.if-row-len.false) in
    told_of_statement (core c.args.self.now) c.requires.ready c.args.found.now c.args.row c.args.number c.args.reason c.tell_of_statement.new.found place row_is
    (λ k e. c.tell_of_statement.ensures.told k e
    (subst (λ (r : ℕ). IsReason (about (core c.args.self.now)) (TellsOf (core c.args.self.now) c.args.found.now) r c.args.number c.args.reason) row_is why))
