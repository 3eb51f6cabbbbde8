use Rattle.std.proofs.Common.{◌∙◌, arith}
use Rattle.term_pool.proofs.Interned.{taken_there, taken_new, met_longer}
use Rattle.term_pool.proofs.region.Region.place.Goals as goal

pub add-requires-clause-room : goal.add-requires-clause-room
add-requires-clause-room c =
    omega (arith, c.requires.fits, met_longer c.args.self.now.nodes.items c.requires.region.table c.args.node c.requires.operands c.in-None.ensures)

pub returns-in-Some-clause-taken : goal.returns-in-Some-clause-taken
returns-in-Some-clause-taken c =
    taken_there c.args.self.now.nodes.items c.requires.region.table c.args.node c.requires.operands c.in-Some.id c.in-Some.ensures

pub returns-in-None-clause-taken : goal.returns-in-None-clause-taken
returns-in-None-clause-taken c =
    rw (c.add.ensures.added, c.len-id.ensures ∙ c.args.self.now.nodes.ok.0)
    (taken_new c.args.self.now.nodes.items c.requires.region.table c.args.node c.requires.operands c.in-None.ensures)
