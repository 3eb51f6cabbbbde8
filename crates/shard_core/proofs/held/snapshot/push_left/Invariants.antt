use Rattle.std.proofs.Common.{◌≡◌, ◌++◌, take}
use Rattle.stmt_codec.specs.View.{certificates}
use Rattle.shard_core.specs.Kept.{certs_staying}
use Rattle.shard_core.proofs.held.snapshot.push_left.Given as goal

abbrev pub invariant-loop-at : goal.invariant-loop-at
invariant-loop-at l = certificates l.out.items ≡ certificates l.initial.out.items ++ certs_staying l.book l.removal (take l.at l.names.items)
