use Rattle.std.proofs.Common.{◌≡◌, take}
use Rattle.stmt_codec.specs.View.{certificates}
use Rattle.shard_core.proofs.opened.handles_to.Given as goal

abbrev pub invariant-loop-place : goal.invariant-loop-place
invariant-loop-place l = certificates l.handles.items ≡ certificates (take l.place l.certs)
