use Rattle.std.proofs.Common.{◌+◌, ◌<◌, ◌≤◌, ◌-◌, map}
use Rattle.agent_core.specs.Journals.{moment_at}
use Rattle.agent_core.specs.State.{Plan}
use Rattle.agent_core.specs.Views.{entry_of}
use Rattle.agent_core.proofs.Clocks.{clock_after}
use Rattle.shard_core.proofs.shard.keepable.has_come.Given as goal

-- the entries that are not looked at yet take the clock to the moment, where the place does
abbrev pub invariant-loop-back : goal.invariant-loop-back
invariant-loop-back l = record {
  before : (plan : Plan) → clock_after plan (map entry_of l.entries) (l.place + 1 - l.back) ≤ moment_at plan (map entry_of l.entries) l.place;
  come : (plan : Plan) → l.moment ≤ moment_at plan (map entry_of l.entries) l.place → l.moment ≤ clock_after plan (map entry_of l.entries) (l.place + 1 - l.back);
  above : 0 < l.back → 0 < l.moment;
}
