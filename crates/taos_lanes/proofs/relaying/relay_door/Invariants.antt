use Rattle.std.proofs.Common.{◌-◌}
use Rattle.taos_lanes.specs.Relaying.{ServesRelayed}
use Rattle.taos_lanes.specs.Workers.{HasOtherDoor}
use Rattle.taos_lanes.specs.Working.{lane_of}
use Rattle.taos_lanes.specs.Telling.{told_by}
use Rattle.taos_lanes.proofs.SoFar.{SoFar}
use Rattle.taos_lanes.proofs.relaying.relay_door.Given as goal

abbrev pub invariant-loop-tally : goal.invariant-loop-tally
invariant-loop-tally g l = record {
  so_far : SoFar (told_by g.L.In.Source.shown g.L.Out.Sink.shown) (ServesRelayed l.relay.limits.frames) l.relay.limits
      (lane_of l.relay.table.now (g.L.Worker.shown l.initial.lane).door)
      (lane_of l.relay.table.now (g.L.Worker.shown l.lane).door) l.tally;
  same : HasOtherDoor (g.L.Worker.shown l.initial.lane) (g.L.Worker.shown l.lane);
}

abbrev pub decreases-loop-tally : goal.decreases-loop-tally
decreases-loop-tally g l = l.relay.limits.connections - l.tally.served
