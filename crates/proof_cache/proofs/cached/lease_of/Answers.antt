-- One more certificate makes the least end the lesser of the two.
use Rattle.std.proofs.Common.{◌<◌, length, arith, ap, Global}
use Rattle.std.specs.declared.sync.Arc.{Arc}
use Rattle.stmt_codec.specs.declared.cert.Cert.{Cert}
use Rattle.stmt_codec.specs.Certificates.{certificate}
use Rattle.proof_cache.proofs.Least.{lease_of-more}
use Rattle.proof_cache.proofs.cached.lease_of.Goals as goal

pub loop-cert-preserved : goal.loop-cert-preserved
loop-cert-preserved c =
    let lt : c.loop-cert.cert-index < length c.args.cites.now = c.loop-cert-test.true in
    let more = lease_of-more (λ (a : Arc Cert Global). certificate a.value.body) c.args.cites.now c.loop-cert.cert-index c.cert-item.result lt in
    let until = ap (λ (x : Cert). x.body.until) c.deref.ensures in
    let read = ap (λ (a : Arc Cert Global). a.value.body.until) c.cert-item.is in
    omega (arith, more, until, read, c.loop-cert.invariant, c.min-lease.ensures)
