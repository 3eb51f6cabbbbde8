-- what was split has seen the same
use Rattle.std.proofs.Common.{◌∙◌}
use Rattle.agent_shards.proofs.Seats.{same_cells, seated}
use Rattle.agent_shards.proofs.agent.Agent.seat.Goals as goal

pub split_all-requires-clause-passes : goal.split_all-requires-clause-passes
split_all-requires-clause-passes c = same_cells c.args.self.now c.deref.result.now c.args.passes.now c.passes.inside.passes.items (c.deref.ensures.value ∙ c.self.view_is) c.passes.view_is c.requires.passes

pub returns-clause-passes : goal.returns-clause-passes
returns-clause-passes c = (seated c.args.shares c.args.self.now c.deref.result.now c.args.passes.now c.passes.inside.passes.items c.split_all.new.passes.items c.in_ok-given.given.items
    (c.deref.ensures.value ∙ c.self.view_is) c.passes.view_is c.requires.passes c.in_ok-given.ensures.split).0

pub returns-clause-given : goal.returns-clause-given
returns-clause-given c = (seated c.args.shares c.args.self.now c.deref.result.now c.args.passes.now c.passes.inside.passes.items c.split_all.new.passes.items c.in_ok-given.given.items
    (c.deref.ensures.value ∙ c.self.view_is) c.passes.view_is c.requires.passes c.in_ok-given.ensures.split).1
