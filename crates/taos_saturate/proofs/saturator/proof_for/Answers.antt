use Rattle.std.proofs.Common.{refl}
use Rattle.prin_term.specs.View.{principal}
use Rattle.taos_saturate.specs.Held.{seen}
use Rattle.term_pool.proofs.Picking.{some_if}
use Rattle.taos_saturate.proofs.Seen.{has_number, seen_decides}
use Rattle.taos_saturate.proofs.saturator.proof_for.Goals as goal

pub unwrap-i-requires : goal.unwrap-i-requires
unwrap-i-requires c =
    let h = c.args.held.now in
    some_if _ _ _ (rw c.deref.ensures.value at c.find.ensures) (has_number h c.requires.held (seen h) refl (principal c.args.left.now) c.requires.left_in)

pub unwrap-j-requires : goal.unwrap-j-requires
unwrap-j-requires c =
    let h = c.args.held.now in
    some_if _ _ _ (rw c.deref-2.ensures.value at c.find-2.ensures) (has_number h c.requires.held (seen h) refl (principal c.args.right.now) c.requires.right_in)

pub unwrap-number-requires : goal.unwrap-number-requires
unwrap-number-requires c =
    let h = c.args.held.now in
    let i = rw (c.unwrap-i.ensures, c.deref.ensures.value) at c.find.ensures in
    let j = rw (c.unwrap-j.ensures, c.deref-2.ensures.value) at c.find-2.ensures in
    let both = seen_decides h c.requires.held (seen h) refl (principal c.args.left.now) (principal c.args.right.now) c.unwrap-i.result c.unwrap-j.result i.0 j.0 i.1 j.1 in
    some_if _ _ _ c.speaks.ensures (λ none. let k = both.1 c.requires.derivable in none k.0 k.1)
