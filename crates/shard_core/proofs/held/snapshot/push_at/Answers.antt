-- one more handle is one more certificate
use Rattle.std.proofs.Common.{◌<◌, length, get_or, ap, arith}
use Rattle.std.specs.List.{slice_get}
use Rattle.stmt_codec.specs.declared.cert.Cert.{Cert}
use Rattle.stmt_codec.specs.Certificates.{certificate}
use Rattle.stmt_codec.specs.View.{certificates}
use Rattle.denial_link.proofs.Places.{certificate_at}
use Rattle.agent_core.proofs.Snapshots.{gathered_more}
use Rattle.shard_core.proofs.held.snapshot.push_at.Goals as goal

pub loop-at-preserved : goal.loop-at-preserved
loop-at-preserved c =
    let lt : c.loop-at.at < length c.args.places.now.items = omega arith in
    let is = rw c.as_slice.ensures.value at c.index-presented-place.is in
    let here = certificate_at c.args.presented.now (get_or c.args.places.now.items c.loop-at.at 0) c.index-presented-place.result is (c.requires c.loop-at.at 0 lt) in
    gathered_more (slice_get (certificates c.args.presented.now)) c.args.places.now.items c.loop-at.at 0 _ lt here c.args.out.now.items c.loop-at.out.items c.push.new.self.items c.in_ok-try_clone.field-0
    (ap (λ (x : Cert). certificate x.body) c.in_ok-try_clone.ensures) c.loop-at.invariant c.in_ok-push.ensures.items
