use Rattle.std.proofs.Common.{◌≡◌, ◌/◌, ◌<◌, ◌≤◌, ℕ, ap, arith, slice_index}
use Rattle.goal_search.specs.Cells.{stamp_of}
use Rattle.goal_search.proofs.Refusals.{read_at}
use Rattle.goal_search.proofs.Stamped.{placed_else, placed_then}
use Rattle.goal_search.proofs.replay.put_place.Goals as goal

pub returns-then-stamp-last : goal.returns-then-stamp-last
returns-then-stamp-last c =
    let read = read_at c.args.cells.now.cells.items c.args.place c.index.result.now c.requires.place_in c.index.ensures in
    let stamp : c.index.result.now / 2048 ≡ stamp_of (slice_index c.args.cells.now.cells.items c.args.place) = ap (λ (x : ℕ). x / 2048) read in
    rw stamp (placed_then c.args.cells.now c.requires.cells c.args.last c.args.order.now.items c.args.place c.requires.order c.requires.place_in (omega (arith, stamp)) (omega (arith, stamp)))

pub returns-else-stamp-last : goal.returns-else-stamp-last
returns-else-stamp-last c =
    let read = read_at c.args.cells.now.cells.items c.args.place c.index.result.now c.requires.place_in c.index.ensures in
    let stamp : c.index.result.now / 2048 ≡ stamp_of (slice_index c.args.cells.now.cells.items c.args.place) = ap (λ (x : ℕ). x / 2048) read in
    placed_else c.args.cells.now c.requires.cells c.args.last c.args.order.now.items c.args.place c.requires.order
    (λ (h : 0 < stamp_of (slice_index c.args.cells.now.cells.items c.args.place)) (k : stamp_of (slice_index c.args.cells.now.cells.items c.args.place) ≤ c.args.last). absurd (omega (arith, stamp)))
