-- Where no count rose, what was answered is whole.
use Rattle.std.proofs.Common.{refl, rules}
use Rattle.request_course.specs.Cells.{CellsStay, both_cells}
use Rattle.request_course.specs.States.{AnswersWith}
use Rattle.taos_monitor.specs.Desk.{state_by}
use Rattle.taos_monitor.proofs.Desks.{answered_plainly, cells_stay, names_apart, same_four, same_two}
use Rattle.request_course.proofs.Whole.{answers_payload}
use Rattle.taos_monitor.proofs.answering.answer.Goals as goal

pub returns-clause-answered : goal.returns-clause-answered
returns-clause-answered g c =
    let left = c.answer.new.self in
    let met = c.answer.new.outside in
    let names = names_apart c.answer.ensures.answered.0.lent in
    let at = state_by c.args.keys.now g.S.Shards.shown g.H.Shelf.shown g.C.Clock.shown g.R.RelayLink.shown in
    same_four
    (λ s h k r. AnswersWith (at c.args.shards.now c.args.shelf.now c.args.clock.now c.args.relay.now) (at s h k r) c.args.payload.now c.answer.new.out c.answer.result)
    left.shards.now c.shards-1.given.0 left.shelf.now c.shelf-1.given.0 met.0.now c.clock-1.given.0 met.1.now c.relay-1.given.0
    (search (rules, names)) (search (rules, names)) (search (rules, names)) (search (rules, names))
    (answers_payload _ _ _ c.answer.result c.answer.new.out c.args.payload.now (answered_plainly _ _ _ c.args.payload.now c.answer.new.out refl c.answer.result c.answer.ensures.answered.1) c.answer.ensures.cause)

pub returns-clause-stays : goal.returns-clause-stays
returns-clause-stays g c =
    let left = c.answer.new.self in
    let names = names_apart c.answer.ensures.answered.0.lent in
    same_two
    (λ s h. CellsStay (both_cells (g.S.Shards.shown c.args.shards.now) (g.H.Shelf.shown c.args.shelf.now)) (both_cells (g.S.Shards.shown s) (g.H.Shelf.shown h)))
    left.shards.now c.shards-1.given.0 left.shelf.now c.shelf-1.given.0 (search (rules, names)) (search (rules, names))
    (cells_stay c.args.keys.now left.keys.now _ _ _ _ c.answer.ensures.answered.0.setting c.answer.ensures.free.none_taken)
