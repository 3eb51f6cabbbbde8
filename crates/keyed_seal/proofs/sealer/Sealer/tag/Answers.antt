use Rattle.keyed_seal.specs.Tag.{tag_of, masked, block_key, inner_pad, outer_pad}
use Rattle.keyed_seal.proofs.sealer.Sealer.tag.Goals as goal

-- the kept states are those of the key's block under the two pads
pub returns : goal.returns
unfolding tag_of
returns c =
    let inner = c.finished-inner.ensures (masked (block_key c.self.inside.key) inner_pad) (rw c.copy_of.ensures c.self.invariant.inner_holds) in
    let outer = c.finished.ensures (masked (block_key c.self.inside.key) outer_pad) (rw c.copy_of-2.ensures c.self.invariant.outer_holds) in
    rw (outer, inner, ← c.self.view_is)
