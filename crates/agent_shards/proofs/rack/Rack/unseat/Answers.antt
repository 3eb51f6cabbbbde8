-- what was joined has seen no more than the limit
use Rattle.std.proofs.Common.{◌∙◌}
use Rattle.agent_shards.proofs.Shelves.{same_object_cells, unseated_objects}
use Rattle.agent_shards.proofs.rack.Rack.unseat.Goals as goal

pub join_all-requires-clause-passes : goal.join_all-requires-clause-passes
join_all-requires-clause-passes c = same_object_cells c.args.self.now c.deref.result.now c.args.passes.now c.passes.inside.passes.items (c.deref.ensures.value ∙ c.self.view_is) c.passes.view_is c.requires.passes

pub join_all-requires-clause-back : goal.join_all-requires-clause-back
join_all-requires-clause-back c = same_object_cells c.args.self.now c.deref.result.now c.args.back c.back.inside.passes.items (c.deref.ensures.value ∙ c.self.view_is) c.back.view_is c.requires.back

pub returns-clause-passes : goal.returns-clause-passes
returns-clause-passes c = unseated_objects c.args.self.now c.deref.result.now c.args.passes.now c.passes.inside.passes.items c.join_all.new.passes.items c.args.back c.back.inside.passes.items
    (c.deref.ensures.value ∙ c.self.view_is) c.passes.view_is c.back.view_is c.requires.passes c.requires.back c.join_all.ensures
