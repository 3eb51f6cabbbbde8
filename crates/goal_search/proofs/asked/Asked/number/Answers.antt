use Rattle.prin_term.specs.View.{principal}
use Rattle.term_pool.proofs.Picking.{some_if}
use Rattle.goal_search.proofs.Seen.{pooled_number, pooled_term}
use Rattle.goal_search.proofs.asked.Asked.number.Goals as goal

pub unwrap-requires : goal.unwrap-requires
unwrap-requires c = some_if _ _ _ c.find.ensures (pooled_term c.args.self.now c.requires.asked (principal c.args.term.now) c.requires.term_in)

pub returns-clause-number_in : goal.returns-clause-number_in
returns-clause-number_in c =
    let found = rw c.unwrap.ensures at c.find.ensures in
    (pooled_number c.args.self.now c.requires.asked c.unwrap.result (principal c.args.term.now) found.stands).0

pub returns-clause-named_is : goal.returns-clause-named_is
returns-clause-named_is c =
    let found = rw c.unwrap.ensures at c.find.ensures in
    (pooled_number c.args.self.now c.requires.asked c.unwrap.result (principal c.args.term.now) found.stands).1
