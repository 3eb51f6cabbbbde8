use Rattle.std.proofs.Common.{◌<◌, length, arith, ap, sym, ◌∙◌, Some}
use Rattle.std.proofs.lemmas.Option.{slice_get-get_or}
use Rattle.taos_calculus.specs.declared.line.Node.{Node}
use Rattle.term_pool.proofs.Pools.{node_at, terms_long}
use Rattle.term_pool.proofs.pool.Pool.node.Goals as goal

pub index-requires : goal.index-requires
index-requires c =
    let r = c.self.inside.region in
    let low = rw (← c.self.view_is) at c.requires in
    omega (arith, low, terms_long r c.self.invariant, r.nodes.ok.0)

pub returns : goal.returns
returns c =
    let r = c.self.inside.region in
    let low = rw (← c.self.view_is) at c.requires in
    let inside : c.args.id < length r.nodes.items = omega (arith, low, terms_long r c.self.invariant) in
    rw (← c.self.view_is)
    (node_at r c.self.invariant c.args.id c.index.result.now
    (slice_get-get_or r.nodes.items c.args.id c.index.result.now inside ∙ ap (λ (n : Node). Some n) (sym c.index.ensures)))
