-- one that is not live stands among them
use Rattle.std.proofs.Common.{All, Global, sym, ◌∙◌, subst, arith, refl}
use Rattle.std.proofs.lemmas.Bool.{false≢true}
use Rattle.std.proofs.lemmas.List.{take_all}
use Rattle.std.proofs.lemmas.List.Elements.{All-map, All-more}
use Rattle.std.proofs.lemmas.Option.{get_or_from_slice_get, slice_get_within}
use Rattle.std.specs.declared.sync.Arc.{Arc}
use Rattle.stmt_codec.specs.declared.cert.Cert.{Cert}
use Rattle.stmt_codec.specs.Certificates.{Certificate, certificate, IsLive}
use Rattle.stmt_codec.specs.View.{certificate_of, certificates}
use Rattle.denial_link.proofs.Places.{certificate_at}
use Rattle.agent_core.proofs.whole_ask.verdict.are_live.Goals as goal

pub returns-then-not-is_live : goal.returns-then-not-is_live
returns-then-not-is_live c =
    let handles = c.args.certs.now in
    let i = c.loop-cert.cert-index in
    let x : Certificate = certificate_of c.cert-item.result in
    let at = certificate_at handles i c.cert-item.result c.cert-item.is c.loop-cert-test.true in (
      λ f. absurd (false≢true f),
      λ all.
          let lives : IsLive c.args.moment x = subst (IsLive c.args.moment) (get_or_from_slice_get (certificates handles) i x x at) (all i x (slice_get_within (certificates handles) i x at)) in
          absurd (false≢true (sym c.if-not-is_live.true ∙ c.is_live.ensures.live.1 (subst (λ (y : Cert). IsLive c.args.moment (certificate y.body)) (sym c.deref.ensures) lives))),
    )

pub loop-cert-preserved : goal.loop-cert-preserved
loop-cert-preserved c =
    let Live = λ (y : Arc Cert Global). IsLive c.args.moment (certificate_of y) in
    let lives : Live c.cert-item.result = subst (λ (y : Cert). IsLive c.args.moment (certificate y.body)) c.deref.ensures (c.is_live.ensures.live.0 c.if-not-is_live.false) in
    All-more Live c.args.certs.now c.loop-cert.cert-index c.cert-item.result c.loop-cert-test.true c.loop-cert.invariant (subst Live c.cert-item.is lives)

pub returns : goal.returns
returns c =
    let Live = λ (y : Arc Cert Global). IsLive c.args.moment (certificate_of y) in
    let all : All Live c.args.certs.now = subst (All Live) (take_all c.loop-cert.cert-index c.args.certs.now (omega (arith, c.loop-cert-test.false))) c.loop-cert.invariant in
    (λ t. All-map (IsLive c.args.moment) certificate_of c.args.certs.now all, λ h. refl)
