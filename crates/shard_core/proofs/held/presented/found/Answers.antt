-- the handle at the place is one to an equal certificate
use Rattle.std.proofs.Common.{◌≡◌, ℕ, Some, get_or, slice_get, ap, ◌∙◌}
use Rattle.stmt_codec.specs.declared.cert.Cert.{Cert}
use Rattle.stmt_codec.specs.Certificates.{certificate}
use Rattle.stmt_codec.specs.View.{certificates}
use Rattle.shard_core.proofs.TakingIn.{same_at}
use Rattle.shard_core.proofs.held.presented.found.Goals as goal

pub returns-then-is_at : goal.returns-then-is_at
returns-then-is_at c =
    let place : ℕ = get_or c.args.slots.now c.loop-slot.slot 0 in
    let here : slice_get (certificates c.args.certs.now) place ≡ Some (certificate c.args.cert.now.body) = c.is_at.ensures.equal c.if-is_at.true in
    ap (λ (x : Cert). certificate x.body) c.in_ok-try_clone.ensures ∙
    same_at c.args.certs.now place c.index-certs-place.result (certificate c.args.cert.now.body) c.index-certs-place.is (c.is_at.ensures.within c.if-is_at.true) here
