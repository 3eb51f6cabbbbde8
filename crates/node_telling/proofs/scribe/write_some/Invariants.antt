use Rattle.std.specs.Prelude.{◌≤◌}
use Rattle.node_telling.proofs.scribe.write_some.Given as goal

-- no more than are wanted
abbrev pub invariant-loop : goal.invariant-loop
invariant-loop g l = l.count ≤ l.most

-- nor in the round over the queues
abbrev pub invariant-loop-queue : goal.invariant-loop-queue
invariant-loop-queue g l = l.count ≤ l.most
