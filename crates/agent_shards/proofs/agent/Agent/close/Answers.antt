-- the passes are those of the cells
use Rattle.agent_shards.proofs.Seats.{same_cells}
use Rattle.agent_shards.proofs.agent.Agent.close.Goals as goal

pub close_shards-requires-clause-passes : goal.close_shards-requires-clause-passes
close_shards-requires-clause-passes c = same_cells c.args.self c.self.inside.cells.items c.args.passes c.passes.inside.passes.items c.self.view_is c.passes.view_is c.requires.passes
