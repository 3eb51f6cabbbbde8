-- what stands at the place says the same
use Rattle.std.proofs.Common.{Some, sym, ap, ◌∙◌, arith}
use Rattle.stmt_codec.specs.declared.cert.Cert.{Cert}
use Rattle.stmt_codec.specs.Certificates.{certificate}
use Rattle.denial_link.proofs.Places.{certificate_at}
use Rattle.shard_core.proofs.held.presented.is_at.Goals as goal

pub returns-clause-equal : goal.returns-clause-equal
returns-clause-equal c =
    λ yes. certificate_at c.args.certs.now c.args.place c.index-certs-place.result c.index-certs-place.is (omega arith) ∙
    ap Some (ap (λ (x : Cert). certificate x.body) (sym c.deref.ensures) ∙ c.same.ensures.equal.0 yes)
