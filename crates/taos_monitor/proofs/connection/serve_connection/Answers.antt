-- Nothing is fetched, so the fetch is as it was.
use Rattle.std.proofs.Common.{false, None, ap, rules}
use Rattle.frame_link.specs.Served.{line}
use Rattle.cred_pull.specs.Fetching.{fetch_of}
use Rattle.request_course.specs.Cells.{CellsStay, both_cells}
use Rattle.request_course.specs.States.{ServesBy}
use Rattle.taos_monitor.specs.Desk.{state_by}
use Rattle.request_course.specs.World.{fetch_use}
use Rattle.taos_monitor.proofs.Desks.{cells_stay, connects_plainly, names_apart, same_four, same_two}
use Rattle.taos_monitor.proofs.connection.serve_connection.Goals as goal

pub returns-clause-connection : goal.returns-clause-connection
returns-clause-connection g c =
    let left = c.serve.new.self in
    let met = c.serve.new.outside in
    let names = names_apart c.serve.ensures.connection.0.lent in
    let at = state_by c.args.keys.now g.S.Shards.shown g.H.Shelf.shown g.C.Clock.shown g.R.RelayLink.shown in
    same_four
    (λ s h k r. ServesBy c.args.frames (line (g.I.Source.shown c.args.input.now) (g.O.Sink.shown c.args.output.now) (at c.args.shards.now c.args.shelf.now c.args.clock.now c.args.relay.now))
    (line (g.I.Source.shown c.serve.new.input) (g.O.Sink.shown c.serve.new.output) (at s h k r)) c.serve.result)
    left.shards.now c.shards-1.given.0 left.shelf.now c.shelf-1.given.0 met.0.now c.clock-1.given.0 met.1.now c.relay-1.given.0
    (search (rules, names)) (search (rules, names)) (search (rules, names)) (search (rules, names))
    (connects_plainly _ c.args.frames _ _ c.serve.result (ap (λ n. fetch_use false (fetch_of None n)) c.new-fetch.ensures) c.serve.ensures.connection.1)

pub returns-clause-stays : goal.returns-clause-stays
returns-clause-stays g c =
    let left = c.serve.new.self in
    let names = names_apart c.serve.ensures.connection.0.lent in
    same_two
    (λ s h. CellsStay (both_cells (g.S.Shards.shown c.args.shards.now) (g.H.Shelf.shown c.args.shelf.now)) (both_cells (g.S.Shards.shown s) (g.H.Shelf.shown h)))
    left.shards.now c.shards-1.given.0 left.shelf.now c.shelf-1.given.0 (search (rules, names)) (search (rules, names))
    (cells_stay c.args.keys.now left.keys.now _ _ _ _ c.serve.ensures.connection.0.setting c.serve.ensures.free.none_taken)
