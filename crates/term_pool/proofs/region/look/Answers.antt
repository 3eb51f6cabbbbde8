use Rattle.std.proofs.Common.{slice_get, ◌≡◌, ◌-◌, ◌<◌, suc, length, Some, arith, subst}
use Rattle.term_pool.proofs.Filed.{IsOn, on_start, on_next, link_less}
use Rattle.term_pool.proofs.region.look.Goals as goal

pub loop-link-init : goal.loop-link-init
loop-link-init c =
    rw c.bucket.ensures.bucket
    (on_start c.args.nodes.now c.args.links.now c.args.heads.now c.requires.filed c.args.node
    (subst (λ n. n < length c.args.heads.now) c.bucket.ensures.bucket c.bucket.ensures.within))

pub bounds-links-k : goal.bounds-links-k
bounds-links-k c =
    let inside : c.loop-link.link - 1 < length c.args.nodes.now = (c.loop-link.invariant.there (c.loop-link.link - 1) (omega arith)).0 in
    omega (arith, c.requires.filed.long)

pub loop-link-smaller : goal.loop-link-smaller
loop-link-smaller c =
    let b = c.loop-link.invariant.there (c.loop-link.link - 1) (omega arith) in
    omega (arith, link_less c.args.nodes.now c.args.links.now c.args.heads.now c.requires.filed (c.loop-link.link - 1) b.1.node b.1.stands)

pub loop-link-preserved : goal.loop-link-preserved
loop-link-preserved c =
    let again : c.loop-link.link ≡ suc (c.loop-link.link - 1) = omega arith in
    let inside : c.loop-link.link - 1 < length c.args.nodes.now = (c.loop-link.invariant.there (c.loop-link.link - 1) (omega arith)).0 in
    let no : slice_get c.args.nodes.now (c.loop-link.link - 1) ≡ Some c.args.node → ⊥ = (λ e. let t = c.if-stands_at.ensures.1 e in absurd (cc)) in
    let on = subst (λ n. IsOn c.args.nodes.now (length c.args.heads.now) c.args.node n) again c.loop-link.invariant in
    on_next c.args.nodes.now c.args.links.now c.args.heads.now c.requires.filed c.args.node (c.loop-link.link - 1) on
    no
