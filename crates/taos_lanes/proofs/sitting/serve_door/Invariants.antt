use Rattle.std.proofs.Common.{◌-◌}
use Rattle.taos_monitor.specs.Desk.{IsFree, setting_at}
use Rattle.taos_lanes.specs.Visits.{ServesAmong}
use Rattle.taos_lanes.specs.Working.{SitsStill, in_world, seated_at}
use Rattle.taos_lanes.specs.Telling.{told_by}
use Rattle.taos_lanes.proofs.SoFar.{SoFar}
use Rattle.taos_lanes.proofs.sitting.serve_door.Given as goal

abbrev pub invariant-loop-tally : goal.invariant-loop-tally
invariant-loop-tally g l = record {
  so_far : SoFar (told_by g.L.In.Source.shown g.L.Out.Sink.shown)
      (ServesAmong (setting_at g.S.Shards.shown g.H.Shelf.shown l.initial.desk).node l.limits.frames) l.limits
      (in_world (seated_at g.S.Shards.shown g.H.Shelf.shown g.L.Worker.shown l.initial.desk l.initial.lane))
      (in_world (seated_at g.S.Shards.shown g.H.Shelf.shown g.L.Worker.shown l.desk l.lane)) l.tally;
  free : IsFree g.H.Shelf.shown l.desk;
  still : SitsStill (seated_at g.S.Shards.shown g.H.Shelf.shown g.L.Worker.shown l.initial.desk l.initial.lane)
      (seated_at g.S.Shards.shown g.H.Shelf.shown g.L.Worker.shown l.desk l.lane);
}

abbrev pub decreases-loop-tally : goal.decreases-loop-tally
decreases-loop-tally g l = l.limits.connections - l.tally.served
