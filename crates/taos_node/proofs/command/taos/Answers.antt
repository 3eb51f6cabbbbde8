use denote.Param.Send.{sendable}
use Rattle.std.proofs.Common.{ℕ, sym, subst}
use Rattle.taos_lanes.proofs.Crossing.{lane_send}
use Rattle.taos_node.specs.Calls.{called}
use Rattle.taos_node.specs.Status.{IsStatus, TellsDoors}
use Rattle.taos_node.proofs.command.taos.Goals as goal

pub run-ending-requires-send-L : goal.run-ending-requires-send-L
run-ending-requires-send-L g c κs within = search (sendable, lane_send)

pub returns-clause-did : goal.returns-clause-did
returns-clause-did g c = record {
  ending = c.run-ending.result;
  runs = c.run-ending.ensures.runs.runs;
  tells = c.status_of.ensures;
  noted = c.tell.ensures.told;
}

pub returns-clause-status : goal.returns-clause-status
returns-clause-status g c =
    let at = called g.F.Source.shown g.I.Source.shown g.O.Sink.shown g.C.Clock.shown g.R.RelayLink.shown g.D.Door.shown g.P.Fetch.shown in
    let before = at c.args.file.now c.args.input.now c.args.output.now c.args.lanes.now in
    let after = at c.run-ending.new.file c.run-ending.new.input c.run-ending.new.output c.run-ending.new.lanes in
    subst (λ (status : ℕ). IsStatus c.args.words.now before.streams after.streams status) (sym c.status_of.ensures) c.run-ending.ensures.runs.status

pub returns-clause-doors : goal.returns-clause-doors
returns-clause-doors g c =
    let at = called g.F.Source.shown g.I.Source.shown g.O.Sink.shown g.C.Clock.shown g.R.RelayLink.shown g.D.Door.shown g.P.Fetch.shown in
    let before = at c.args.file.now c.args.input.now c.args.output.now c.args.lanes.now in
    let after = at c.run-ending.new.file c.run-ending.new.input c.run-ending.new.output c.run-ending.new.lanes in
    subst (λ (status : ℕ). TellsDoors c.args.words.now before after status) (sym c.status_of.ensures) c.run-ending.ensures.runs.tells
