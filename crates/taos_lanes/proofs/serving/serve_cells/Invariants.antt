use Rattle.std.proofs.Common.{map}
use Rattle.agent_shards.specs.Shards.{ShardCell}
use Rattle.agent_shards.specs.Objects.{ObjectCell}
use Rattle.taos_lanes.proofs.serving.serve_cells.Given as goal

-- every lane has one share of each cell

abbrev pub ghosts-serve_lanes-A-OfAgent : goal.ghosts-serve_lanes-A-OfAgent
ghosts-serve_lanes-A-OfAgent g a = record { cells = a.shared.now.agent.now; shares = map (λ (c : ShardCell). 1) a.shared.now.agent.now }

abbrev pub ghosts-serve_lanes-R-OfRack : goal.ghosts-serve_lanes-R-OfRack
ghosts-serve_lanes-R-OfRack g a = record { cells = a.shared.now.rack.now; shares = map (λ (c : ObjectCell). 1) a.shared.now.rack.now }
