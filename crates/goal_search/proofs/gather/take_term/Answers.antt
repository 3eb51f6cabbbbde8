use Rattle.std.proofs.Common.{arith}
use Rattle.prin_term.specs.Principal.{node_count}
use Rattle.prin_term.specs.View.{principal}
use Rattle.taos_calculus.specs.Canonical.{post_order}
use Rattle.term_pool.proofs.Few.{term_few}
use Rattle.goal_search.proofs.Gathered.{widens_met, interned_within, interned_named}
use Rattle.goal_search.proofs.gather.take_term.Goals as goal

pub intern-requires : goal.intern-requires
intern-requires c = omega (arith, c.requires.room, term_few c.args.pool.now.terms (principal c.args.term.now))

pub returns-clause-widens : goal.returns-clause-widens
returns-clause-widens c =
    let p = principal c.args.term.now in
    widens_met c.args.pool.now c.intern.new.self (post_order p) (node_count p) c.intern.ensures.terms c.intern.ensures.room (term_few c.args.pool.now.terms p)

pub returns-clause-within : goal.returns-clause-within
returns-clause-within c = interned_within c.args.pool.now c.intern.new.self (principal c.args.term.now) c.intern.result c.intern.ensures

pub returns-clause-named_is : goal.returns-clause-named_is
returns-clause-named_is c = interned_named c.args.pool.now c.intern.new.self (principal c.args.term.now) c.intern.result c.intern.ensures
