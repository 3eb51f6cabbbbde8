use Rattle.std.proofs.Common.{◌≡◌, take}
use Rattle.stmt_codec.specs.View.{certificates}
use Rattle.shard_core.proofs.held.presented.Presented.take_in.Given as goal

abbrev pub invariant-loop-place : goal.invariant-loop-place
invariant-loop-place l = certificates l.taken.items ≡ certificates (take l.place l.certs)
