-- what was entered goes on from what was seen, and the shard's step from there
use Rattle.std.proofs.Common.{subst, sym}
use Rattle.agent_core.specs.Journals.{IsMeant}
use Rattle.agent_core.specs.State.{Plan}
use Rattle.agent_core.specs.Views.{event_of}
use Rattle.agent_shards.proofs.Seats.{cell_legal, cell_steps, meant_grows}
use Rattle.agent_shards.proofs.stepping.step_in.Goals as goal

pub step-answer-requires-clause-meant : goal.step-answer-requires-clause-meant
step-answer-requires-clause-meant g c =
    let n = c.enter-machine.ensures in
    subst (λ (p : Plan). IsMeant p c.enter-machine.result.0.journal (event_of c.args.event)) (sym n.fixed)
    (meant_grows c.args.cell.now.fixed c.args.pass.seen c.enter-machine.result.0.journal (event_of c.args.event) n.journal c.requires.meant)

pub returns-clause-pass : goal.returns-clause-pass
returns-clause-pass g c = let n = c.enter-machine.ensures in let o = c.leave.ensures in record {
  of_cell = o.cell;
  legal = cell_legal c.args.cell.now.fixed c.args.pass c.leave.result c.enter-machine.result.1 c.enter-machine.result.0 c.step-answer.new.self (event_of c.args.event)
      n.fixed n.journal n.entered n.own c.requires.pass.legal o.seen o.kept o.added c.step-answer.result c.step-answer.ensures.answered c.step-answer.ensures.unchanged;
}

pub returns-clause-steps : goal.returns-clause-steps
returns-clause-steps g c = let n = c.enter-machine.ensures in let o = c.leave.ensures in let s = c.step-answer.ensures in
    cell_steps c.args.cell.now.fixed c.args.pass c.leave.result c.enter-machine.result.1 c.enter-machine.result.0 c.step-answer.new.self (event_of c.args.event)
    n.fixed n.journal n.entered n.own c.requires.pass.legal o.seen o.kept o.added c.step-answer.result s.answered s.unchanged s.wanted s.room
