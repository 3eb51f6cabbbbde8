use Rattle.std.proofs.Common.{◌≡◌, ℕ, ◌+◌, ◌-◌, ◌≤◌, List, length, take, drop, sym, ap, ◌∙◌, arith, length-append, length-take, length-drop}
use Rattle.frame_link.proofs.Pieces.{taken, none_left}
use Rattle.frame_link.proofs.mem_source.MemSourceSource.read.Goals as goal

-- the front of the room is what was copied, and a count of 0 leaves nothing behind
pub returns-clause-bytes : goal.returns-clause-bytes
returns-clause-bytes c =
    let at = c.self.inside.at in
    let count = c.min-count.result in
    let bytes = c.self.inside.bytes.items in
    let copied = c.copy_from_slice.new.self in
    let room : count ≤ length c.args.into.now = omega arith in
    let len : length copied ≡ count = omega (arith, length-take count c.args.into.now) in
    let is = c.copy_from_slice.ensures.after ∙ ap (λ (l : List ℕ). take (at + count - at) (drop at l)) c.deref.ensures.value in
    let same : at + count - at ≡ count = omega arith in (
      ap (λ s. s.left) (sym c.self.view_is) ∙ taken at count (at + count - at) bytes copied (drop count c.args.into.now) is same len,
      λ none some. none_left at count c.next_most-most.result (length c.args.into.now) bytes (omega arith) c.next_most-most.ensures.some none
          (omega (arith, some, length-append copied (drop count c.args.into.now), length-drop count c.args.into.now)),
    )
