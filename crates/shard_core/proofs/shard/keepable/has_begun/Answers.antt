-- the handle's certificate is the one at the place
use Rattle.std.proofs.Common.{List, ap, arith}
use Rattle.std.proofs.lemmas.Option.{get_or_from_slice_get}
use Rattle.stmt_codec.specs.declared.cert.Cert.{Cert}
use Rattle.stmt_codec.specs.Certificates.{Certificate, certificate}
use Rattle.stmt_codec.specs.View.{certificates}
use Rattle.denial_link.proofs.Places.{certificate_at}
use Rattle.shard_core.proofs.shard.keepable.has_begun.Goals as goal

pub returns : goal.returns
returns c = λ plan.
    let certs : List Certificate = certificates c.args.cites.now in
    let x : Certificate = certificate c.index-cites-place.result.value.body in
    let at = certificate_at c.args.cites.now c.args.place c.index-cites-place.result c.index-cites-place.is (omega arith) in
    let read = ap (λ (z : Cert). z.body.from) c.deref.ensures in
    let come = c.has_come.ensures plan in (
      λ t d. omega (arith, come.0 t, read, ap (λ (z : Certificate). z.from) (get_or_from_slice_get certs c.args.place x d at)),
      λ h. come.1 (omega (arith, h x, read, ap (λ (z : Certificate). z.from) (get_or_from_slice_get certs c.args.place x x at))),
    )
