-- Where no count rose, what was handled is whole.
use Rattle.std.proofs.Common.{rules}
use Rattle.taos_wire.specs.View.{request as request_of}
use Rattle.request_course.specs.Cells.{CellsStay, both_cells}
use Rattle.request_course.specs.States.{HandlesWith}
use Rattle.taos_monitor.specs.Desk.{state_by}
use Rattle.taos_monitor.proofs.Desks.{cells_stay, names_apart, same_four, same_two}
use Rattle.request_course.proofs.Whole.{answers_request}
use Rattle.taos_monitor.proofs.handling.request.Goals as goal

pub returns-clause-handled : goal.returns-clause-handled
returns-clause-handled g c =
    let left = c.request.new.self in
    let met = c.request.new.outside in
    let names = names_apart c.request.ensures.handled.0.lent in
    let at = state_by c.args.keys.now g.S.Shards.shown g.H.Shelf.shown g.C.Clock.shown g.R.RelayLink.shown in
    same_four
    (λ s h k r. HandlesWith (at c.args.shards.now c.args.shelf.now c.args.clock.now c.args.relay.now) (at s h k r) (request_of c.args.asked.now) c.request.new.out c.request.result)
    left.shards.now c.shards-1.given.0 left.shelf.now c.shelf-1.given.0 met.0.now c.clock-1.given.0 met.1.now c.relay-1.given.0
    (search (rules, names)) (search (rules, names)) (search (rules, names)) (search (rules, names))
    (answers_request _ _ _ c.request.result c.request.new.out (request_of c.args.asked.now) c.request.ensures.handled.2 c.request.ensures.cause)

pub returns-clause-stays : goal.returns-clause-stays
returns-clause-stays g c =
    let left = c.request.new.self in
    let names = names_apart c.request.ensures.handled.0.lent in
    same_two
    (λ s h. CellsStay (both_cells (g.S.Shards.shown c.args.shards.now) (g.H.Shelf.shown c.args.shelf.now)) (both_cells (g.S.Shards.shown s) (g.H.Shelf.shown h)))
    left.shards.now c.shards-1.given.0 left.shelf.now c.shelf-1.given.0 (search (rules, names)) (search (rules, names))
    (cells_stay c.args.keys.now left.keys.now _ _ _ _ c.request.ensures.handled.0.setting c.request.ensures.free.none_taken)
