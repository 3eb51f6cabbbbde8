-- each handle is one to the next certificate
use Rattle.std.proofs.Common.{arith}
use Rattle.shard_core.proofs.TakingIn.{same_more}
use Rattle.shard_core.proofs.shard.sharing.handles_to.Goals as goal

pub loop-place-preserved : goal.loop-place-preserved
loop-place-preserved c =
    same_more c.loop-place.handles.items c.push.new.self.items c.in_ok-handle_of.field-0 c.in_ok-push.ensures.items c.args.certs.now c.loop-place.place
    c.index-certs-place.result (omega arith) c.index-certs-place.is c.loop-place.invariant c.in_ok-handle_of.ensures
