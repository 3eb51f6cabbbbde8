use Rattle.std.proofs.Common.{arith}
use Rattle.prin_term.specs.Principal.{node_count}
use Rattle.prin_term.specs.View.{principal}
use Rattle.taos_calculus.specs.Canonical.{post_order}
use Rattle.taos_calculus.specs.Tables.{principals_of}
use Rattle.taos_calculus.proofs.Naming.{length-principals_of}
use Rattle.term_pool.proofs.Few.{term_few}
use Rattle.taos_saturate.proofs.Gathered.{widens_taken}
use Rattle.taos_saturate.proofs.gather.take_term.Goals as goal

pub intern-requires-clause-fits : goal.intern-requires-clause-fits
intern-requires-clause-fits c =
    omega (arith, c.requires.room, term_few (principals_of c.args.nodes.now.items) (principal c.args.term.now), length-principals_of c.args.nodes.now.items)

pub returns-clause-widens : goal.returns-clause-widens
returns-clause-widens c =
    widens_taken c.args.nodes.now.items c.intern.new.nodes.items (post_order (principal c.args.term.now)) (principal c.args.term.now) c.intern.result (node_count (principal c.args.term.now))
    c.intern.ensures.taken (term_few (principals_of c.args.nodes.now.items) (principal c.args.term.now))
