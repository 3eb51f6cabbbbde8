-- a certificate's digest is kept beside it
use Rattle.std.proofs.Common.{sym, ap, ◌∙◌, subst, List, ℕ}
use Rattle.stmt_codec.specs.declared.cert.Cert.{Cert}
use Rattle.stmt_codec.specs.Certificates.{certificate, digest_of}
use Rattle.stmt_codec.specs.View.{certificates}
use Rattle.agent_core.specs.declared.asked.Denial.{Denial}
use Rattle.agent_core.specs.Asked.{Names}
use Rattle.agent_core.specs.Settling.{IsPlaceIn}
use Rattle.denial_link.proofs.Places.{certificate_at, certificate_count}
use Rattle.agent_core.proofs.whole_ask.settling.denial_of.Goals as goal

pub returns-in-Expired : goal.returns-in-Expired
returns-in-Expired c =
    let entry : ℕ = c.in-Expired.entry in
    let cert : Cert = c.deref.result.now in
    let within = subst (IsPlaceIn (certificates c.args.certs.now)) c.in-Expired.is c.requires in
    let here = certificate_at c.args.certs.now c.in-Expired.cert c.index-certs-cert.result c.index-certs-cert.is (rw (sym (certificate_count c.args.certs.now)) within) in
    let digest = cert.digested ∙ ap (λ (x : Cert). digest_of (certificate x.body)) c.deref.ensures in
    subst (λ l. Names (certificates c.args.certs.now) l (Denial.Expired entry cert.digest)) (sym c.in-Expired.is)
    (certificate c.index-certs-cert.result.value.body, here, ap (λ (d : List ℕ). Denial.Expired entry d) digest)

pub returns-in-Early : goal.returns-in-Early
returns-in-Early c =
    let entry : ℕ = c.in-Early.entry in
    let cert : Cert = c.deref-in-Early.result.now in
    let within = subst (IsPlaceIn (certificates c.args.certs.now)) c.in-Early.is c.requires in
    let here = certificate_at c.args.certs.now c.in-Early.cert c.index-certs-cert-in-Early.result c.index-certs-cert-in-Early.is (rw (sym (certificate_count c.args.certs.now)) within) in
    let digest = cert.digested ∙ ap (λ (x : Cert). digest_of (certificate x.body)) c.deref-in-Early.ensures in
    subst (λ l. Names (certificates c.args.certs.now) l (Denial.Early entry cert.digest)) (sym c.in-Early.is)
    (certificate c.index-certs-cert-in-Early.result.value.body, here, ap (λ (d : List ℕ). Denial.Early entry d) digest)
