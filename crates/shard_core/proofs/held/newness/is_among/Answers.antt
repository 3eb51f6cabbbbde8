-- the certificate of a name is what it stands for
use Rattle.std.proofs.Common.{◌<◌, length, ◌∙◌, sym, ap, arith}
use Rattle.stmt_codec.specs.declared.cert.Cert.{Cert}
use Rattle.stmt_codec.specs.Certificates.{certificate}
use Rattle.stmt_codec.specs.Equality.{same_certificate}
use Rattle.shard_core.specs.Names.{named}
use Rattle.shard_core.proofs.Among.{any_at, none_more}
use Rattle.shard_core.proofs.held.newness.is_among.Goals as goal

pub returns-then-same : goal.returns-then-same
returns-then-same c =
    let here = rw c.as_slice.ensures.value at c.cert_named.ensures in
    let lt : c.loop-place.place < length c.args.names.now.items = omega arith in
    let test = ap (λ (x : Cert). same_certificate (certificate c.args.cert.now.body) (certificate x.body)) (sym c.deref.ensures) ∙ sym c.same.ensures.test ∙ c.if-same.true in
    sym (any_at (named c.args.book.now) (same_certificate (certificate c.args.cert.now.body)) c.args.names.now.items c.loop-place.place _ _ lt here test)

pub loop-place-preserved : goal.loop-place-preserved
loop-place-preserved c =
    let here = rw c.as_slice.ensures.value at c.cert_named.ensures in
    let lt : c.loop-place.place < length c.args.names.now.items = omega arith in
    let test = ap (λ (x : Cert). same_certificate (certificate c.args.cert.now.body) (certificate x.body)) (sym c.deref.ensures) ∙ sym c.same.ensures.test ∙ c.if-same.false in
    none_more (named c.args.book.now) (same_certificate (certificate c.args.cert.now.body)) c.args.names.now.items c.loop-place.place _ _ lt here c.loop-place.invariant test
