use Rattle.std.specs.List.{flat_map}
use Rattle.taos_calculus.specs.declared.line.Fact.{Fact}
use Rattle.taos_calculus.specs.Canonical.{post_order, terms_of}
use Rattle.taos_calculus.specs.Tables.{judgement, named}
use Rattle.term_pool.specs.Interning.{Fits}
use Rattle.term_pool.proofs.Carried.{speaks_first, speaks_second, says_first, says_second, says_third, carries_speaks, carries_says}
use Rattle.term_pool.proofs.retable.carry_fact.Goals as goal

pub carry-a-requires-clause-fits : goal.carry-a-requires-clause-fits
carry-a-requires-clause-fits c =
    let fits : Fits c.args.new.now.items (flat_map post_order (terms_of (judgement (named c.args.nodes.now) (Fact.Speaks c.in-Speaks.left c.in-Speaks.right)))) = rw c.in-Speaks.is at c.requires.fits in
    speaks_first c.args.new.now.items (named c.args.nodes.now c.in-Speaks.left) (named c.args.nodes.now c.in-Speaks.right) fits

pub carry-b-requires-clause-fits : goal.carry-b-requires-clause-fits
carry-b-requires-clause-fits c =
    let fits : Fits c.args.new.now.items (flat_map post_order (terms_of (judgement (named c.args.nodes.now) (Fact.Speaks c.in-Speaks.left c.in-Speaks.right)))) = rw c.in-Speaks.is at c.requires.fits in
    speaks_second c.args.new.now.items c.carry-a.new.new.items (named c.args.nodes.now c.in-Speaks.left) (named c.args.nodes.now c.in-Speaks.right) c.carry-a.result c.carry-a.ensures.taken fits

pub carry-w-requires-clause-fits : goal.carry-w-requires-clause-fits
carry-w-requires-clause-fits c =
    let fits : Fits c.args.new.now.items (flat_map post_order (terms_of (judgement (named c.args.nodes.now) (Fact.Says c.in-Says.who c.in-Says.left c.in-Says.right)))) = rw c.in-Says.is at c.requires.fits in
    says_first c.args.new.now.items (named c.args.nodes.now c.in-Says.who) (named c.args.nodes.now c.in-Says.left) (named c.args.nodes.now c.in-Says.right) fits

pub carry-a-requires-in-Says-clause-fits : goal.carry-a-requires-in-Says-clause-fits
carry-a-requires-in-Says-clause-fits c =
    let fits : Fits c.args.new.now.items (flat_map post_order (terms_of (judgement (named c.args.nodes.now) (Fact.Says c.in-Says.who c.in-Says.left c.in-Says.right)))) = rw c.in-Says.is at c.requires.fits in
    says_second c.args.new.now.items c.carry-w.new.new.items (named c.args.nodes.now c.in-Says.who) (named c.args.nodes.now c.in-Says.left) (named c.args.nodes.now c.in-Says.right) c.carry-w.result c.carry-w.ensures.taken fits

pub carry-b-requires-in-Says-clause-fits : goal.carry-b-requires-in-Says-clause-fits
carry-b-requires-in-Says-clause-fits c =
    let fits : Fits c.args.new.now.items (flat_map post_order (terms_of (judgement (named c.args.nodes.now) (Fact.Says c.in-Says.who c.in-Says.left c.in-Says.right)))) = rw c.in-Says.is at c.requires.fits in
    says_third c.args.new.now.items c.carry-w.new.new.items c.carry-a-in-Says.new.new.items
    (named c.args.nodes.now c.in-Says.who) (named c.args.nodes.now c.in-Says.left) (named c.args.nodes.now c.in-Says.right)
    c.carry-w.result c.carry-a-in-Says.result c.carry-w.ensures.taken c.carry-a-in-Says.ensures.taken fits

pub returns-in-Speaks-clause-carries : goal.returns-in-Speaks-clause-carries
returns-in-Speaks-clause-carries c =
    rw c.in-Speaks.is (carries_speaks c.args.nodes.now c.args.new.now.items c.carry-a.new.new.items c.carry-b.new.new.items c.in-Speaks.left c.in-Speaks.right c.carry-a.result c.carry-b.result
    c.carry-a.ensures.taken c.carry-b.ensures.taken)

pub returns-in-Says-clause-carries : goal.returns-in-Says-clause-carries
returns-in-Says-clause-carries c =
    rw c.in-Says.is (carries_says c.args.nodes.now c.args.new.now.items c.carry-w.new.new.items c.carry-a-in-Says.new.new.items c.carry-b-in-Says.new.new.items c.in-Says.who c.in-Says.left c.in-Says.right
    c.carry-w.result c.carry-a-in-Says.result c.carry-b-in-Says.result c.carry-w.ensures.taken c.carry-a-in-Says.ensures.taken c.carry-b-in-Says.ensures.taken)
