-- a certificate that was met stands at its place
use Rattle.std.proofs.Common.{◌<◌, length, get_or, ◌∙◌, sym, ap, arith}
use Rattle.std.specs.List.{slice_get}
use Rattle.stmt_codec.specs.declared.cert.Cert.{Cert}
use Rattle.stmt_codec.specs.Certificates.{certificate}
use Rattle.stmt_codec.specs.Equality.{same_certificate}
use Rattle.stmt_codec.specs.View.{certificates}
use Rattle.shard_core.proofs.Among.{any_at, none_more}
use Rattle.denial_link.proofs.Places.{certificate_at}
use Rattle.shard_core.proofs.held.newness.is_met.Goals as goal

pub returns-then-same : goal.returns-then-same
returns-then-same c =
    let lt : c.loop-at.at < length c.args.places.now.items = omega arith in
    let is = rw c.as_slice.ensures.value at c.index-presented-place.is in
    let here = certificate_at c.args.presented.now (get_or c.args.places.now.items c.loop-at.at 0) c.index-presented-place.result is (c.requires c.loop-at.at 0 lt) in
    let test = ap (λ (x : Cert). same_certificate (certificate c.args.cert.now.body) (certificate x.body)) (sym c.deref.ensures) ∙ sym c.same.ensures.test ∙ c.if-same.true in
    sym (any_at (slice_get (certificates c.args.presented.now)) (same_certificate (certificate c.args.cert.now.body)) c.args.places.now.items c.loop-at.at 0 _ lt here test)

pub loop-at-preserved : goal.loop-at-preserved
loop-at-preserved c =
    let lt : c.loop-at.at < length c.args.places.now.items = omega arith in
    let is = rw c.as_slice.ensures.value at c.index-presented-place.is in
    let here = certificate_at c.args.presented.now (get_or c.args.places.now.items c.loop-at.at 0) c.index-presented-place.result is (c.requires c.loop-at.at 0 lt) in
    let test = ap (λ (x : Cert). same_certificate (certificate c.args.cert.now.body) (certificate x.body)) (sym c.deref.ensures) ∙ sym c.same.ensures.test ∙ c.if-same.false in
    none_more (slice_get (certificates c.args.presented.now)) (same_certificate (certificate c.args.cert.now.body)) c.args.places.now.items c.loop-at.at 0 _ lt here c.loop-at.invariant test
