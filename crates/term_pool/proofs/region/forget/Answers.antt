use Rattle.std.proofs.Common.{◌≡◌, ◌<◌, ◌∙◌, sym, length, slice_index_or, arith}
use Rattle.std.proofs.lemmas.Option.{slice_get-get_or}
use Rattle.taos_calculus.specs.declared.line.Node.{Node}
use Rattle.term_pool.proofs.Filed.{left_all, left_less, left_none}
use Rattle.term_pool.proofs.region.forget.Goals as goal

pub loop-i-init : goal.loop-i-init
loop-i-init c =
    rw (c.len-count.ensures ∙ c.args.heads.now.ok.0) (left_all c.args.nodes.now c.args.links.now c.args.heads.now.items c.requires.filed)

pub loop-i-preserved : goal.loop-i-preserved
loop-i-preserved c =
    let inside : c.loop-i.i < length c.args.nodes.now = omega arith in
    left_less c.args.nodes.now c.len-count.result c.loop-i.i c.loop-i.heads.items (slice_index_or c.args.nodes.now c.loop-i.i (Node.Key 0)) c.bucket-at.result c.bucket-at.ensures.bucket c.bucket-at.ensures.within
    (slice_get-get_or c.args.nodes.now c.loop-i.i (Node.Key 0) inside) c.loop-i.invariant

pub returns-clause-none : goal.returns-clause-none
returns-clause-none c =
    let long : length c.args.heads.now.items ≡ c.len-count.result = sym (c.len-count.ensures ∙ c.args.heads.now.ok.0) in
    λ bucket h. left_none c.args.nodes.now c.len-count.result c.loop-i.i c.loop-i.heads.items (omega arith) c.loop-i.invariant bucket (omega (arith, h, long))
