use Rattle.std.proofs.Common.{ℕ, ◌/◌, ◌%◌, subst, sym}
use Rattle.goal_search.specs.Reasons.{IsReason}
use Rattle.goal_search.specs.Searching.{about, core}
use Rattle.goal_search.specs.Telling.{TellsOf}
use Rattle.goal_search.proofs.Refusals.{read_at}
use Rattle.goal_search.proofs.Replayed.{place_tells, placed_in}
use Rattle.goal_search.proofs.replay.tell_place.Goals as goal

pub tell_cell-requires-clause-row_in : goal.tell_cell-requires-clause-row_in
tell_cell-requires-clause-row_in c = (placed_in (core c.args.search.now) c.requires.ready c.args.place c.requires.place_in).0

pub tell_cell-requires-clause-number_in : goal.tell_cell-requires-clause-number_in
tell_cell-requires-clause-number_in c = (placed_in (core c.args.search.now) c.requires.ready c.args.place c.requires.place_in).1

pub returns-clause-told : goal.returns-clause-told
returns-clause-told c =
    let s = core c.args.search.now in
    let read = read_at c.args.search.now.cells.cells.items c.args.place c.index.result.now c.requires.place_in c.index.ensures in
    λ row number h e why.
    place_tells s c.requires.ready c.args.found.now c.tell_cell.new.found c.args.place row number h e
    (λ w.
    c.tell_cell.ensures.told
    (subst (λ (x : ℕ). IsReason (about s) (TellsOf s c.args.found.now) (c.args.place / c.args.search.now.cells.width) (c.args.place % c.args.search.now.cells.width) (x % 2048)) (sym read) w))
    why
