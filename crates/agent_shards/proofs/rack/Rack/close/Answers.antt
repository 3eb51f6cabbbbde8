-- the passes are those of the cells
use Rattle.agent_shards.proofs.Shelves.{same_object_cells}
use Rattle.agent_shards.proofs.rack.Rack.close.Goals as goal

pub close_objects-requires-clause-passes : goal.close_objects-requires-clause-passes
close_objects-requires-clause-passes c = same_object_cells c.args.self c.self.inside.cells.items c.args.passes c.passes.inside.passes.items c.self.view_is c.passes.view_is c.requires.passes
