-- what was joined has seen a legal journal
use Rattle.std.proofs.Common.{◌∙◌}
use Rattle.agent_shards.proofs.Seats.{same_cells, unseated}
use Rattle.agent_shards.proofs.agent.Agent.unseat.Goals as goal

pub join_all-requires-clause-passes : goal.join_all-requires-clause-passes
join_all-requires-clause-passes c = same_cells c.args.self.now c.deref.result.now c.args.passes.now c.passes.inside.passes.items (c.deref.ensures.value ∙ c.self.view_is) c.passes.view_is c.requires.passes

pub join_all-requires-clause-back : goal.join_all-requires-clause-back
join_all-requires-clause-back c = same_cells c.args.self.now c.deref.result.now c.args.back c.back.inside.passes.items (c.deref.ensures.value ∙ c.self.view_is) c.back.view_is c.requires.back

pub returns-clause-passes : goal.returns-clause-passes
returns-clause-passes c = unseated c.args.self.now c.deref.result.now c.args.passes.now c.passes.inside.passes.items c.join_all.new.passes.items c.back.inside.passes.items
    (c.deref.ensures.value ∙ c.self.view_is) c.passes.view_is c.requires.passes c.join_all.ensures
