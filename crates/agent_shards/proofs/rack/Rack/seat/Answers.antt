-- what was split has seen the same
use Rattle.std.proofs.Common.{◌∙◌}
use Rattle.agent_shards.proofs.Shelves.{same_object_cells, seated_objects}
use Rattle.agent_shards.proofs.rack.Rack.seat.Goals as goal

pub split_all-requires-clause-passes : goal.split_all-requires-clause-passes
split_all-requires-clause-passes c = same_object_cells c.args.self.now c.deref.result.now c.args.passes.now c.passes.inside.passes.items (c.deref.ensures.value ∙ c.self.view_is) c.passes.view_is c.requires.passes

pub returns-clause-passes : goal.returns-clause-passes
returns-clause-passes c = (seated_objects c.args.shares c.args.self.now c.deref.result.now c.args.passes.now c.passes.inside.passes.items c.split_all.new.passes.items c.in_ok-given.given.items
    (c.deref.ensures.value ∙ c.self.view_is) c.passes.view_is c.requires.passes c.in_ok-given.ensures.split).0

pub returns-clause-given : goal.returns-clause-given
returns-clause-given c = (seated_objects c.args.shares c.args.self.now c.deref.result.now c.args.passes.now c.passes.inside.passes.items c.split_all.new.passes.items c.in_ok-given.given.items
    (c.deref.ensures.value ∙ c.self.view_is) c.passes.view_is c.requires.passes c.in_ok-given.ensures.split).1
