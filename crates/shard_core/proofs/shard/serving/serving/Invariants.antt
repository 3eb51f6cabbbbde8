use Rattle.agent_core.specs.Caches.{unlapsed}
use Rattle.agent_core.specs.Views.{ask_of}
use Rattle.shard_core.proofs.Serving.{NoneServed}
use Rattle.shard_core.proofs.shard.serving.serving.Given as goal

abbrev pub invariant-loop-place : goal.invariant-loop-place
invariant-loop-place l = NoneServed (unlapsed l.moment l.cache) (ask_of l.asked) l.place
