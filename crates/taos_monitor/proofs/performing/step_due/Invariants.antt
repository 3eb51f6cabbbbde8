use Rattle.std.proofs.Common.{◌≡◌, ◌+◌, length}
use Rattle.std.specs.Prelude.{All}
use Rattle.std.specs.List.{range_with_len}
use Rattle.taos_monitor.specs.Performing.{CanStep, effect_due}
use Rattle.taos_monitor.proofs.EffectSteps.{AreStepped}
use Rattle.taos_monitor.proofs.performing.step_due.Given as goal

abbrev pub invariant-loop-place : goal.invariant-loop-place
invariant-loop-place g l = record {
  stepped : AreStepped (g.S.Shards.shown l.fn.shards) (g.S.Shards.shown l.shards) (effect_due l.fn.due) (range_with_len l.first l.place) l.removed;
  plans : (g.S.Shards.shown l.shards).plans ≡ (g.S.Shards.shown l.fn.shards).plans;
  alone : (g.S.Shards.shown l.shards).alone ≡ (g.S.Shards.shown l.fn.shards).alone;
  left : length l.events.items + l.place ≡ l.count;
  each : All (CanStep (effect_due l.fn.due)) l.events.items;
}
