use Rattle.keyed_seal.specs.Tag.{tag_of}
use Rattle.keyed_seal.proofs.tag.hmac.Goals as goal

-- the inner digest, then the outer one
pub returns : goal.returns
unfolding tag_of
returns c =
    let inner = c.finished-inner.ensures _ c.absorbed.ensures in
    let outer = c.finished.ensures _ c.absorbed-2.ensures in
    rw (outer, inner, c.block_of-block.ensures)
