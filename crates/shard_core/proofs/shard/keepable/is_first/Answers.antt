-- one that was met before is the same
use Rattle.std.proofs.Common.{◌≡◌, IsTrue, List, sym, ap, ◌∙◌, subst, arith}
use Rattle.std.proofs.lemmas.Bool.{false≢true}
use Rattle.std.proofs.lemmas.Option.{get_or_from_slice_get}
use Rattle.stmt_codec.specs.declared.cert.Cert.{Cert}
use Rattle.stmt_codec.specs.Certificates.{Certificate, certificate}
use Rattle.stmt_codec.specs.View.{certificates}
use Rattle.shard_core.proofs.Keepable.{differs_more}
use Rattle.denial_link.proofs.Places.{certificate_at}
use Rattle.shard_core.proofs.shard.keepable.is_first.Goals as goal

pub returns-then-same : goal.returns-then-same
returns-then-same c =
    let certs : List Certificate = certificates c.args.cites.now in
    let x : Certificate = certificate c.index-cites-earlier.result.value.body in
    let y : Certificate = certificate c.index-cites-place.result.value.body in
    let at = certificate_at c.args.cites.now c.loop-earlier.earlier c.index-cites-earlier.result c.index-cites-earlier.is (omega arith) in
    let there = certificate_at c.args.cites.now c.args.place c.index-cites-place.result c.index-cites-place.is (omega arith) in
    let alike : x ≡ y = ap (λ (z : Cert). certificate z.body) (sym c.deref.ensures) ∙ c.same.ensures.equal.0 c.if-same.true ∙ ap (λ (z : Cert). certificate z.body) c.deref-in-loop-earlier.ensures in
    (λ f. absurd (false≢true f), λ d. absurd (d c.loop-earlier.earlier x (omega arith) (get_or_from_slice_get certs c.loop-earlier.earlier x x at ∙ alike ∙ sym (get_or_from_slice_get certs c.args.place y x there))))

pub loop-earlier-preserved : goal.loop-earlier-preserved
loop-earlier-preserved c =
    let certs : List Certificate = certificates c.args.cites.now in
    let x : Certificate = certificate c.index-cites-earlier.result.value.body in
    let y : Certificate = certificate c.index-cites-place.result.value.body in
    let at = certificate_at c.args.cites.now c.loop-earlier.earlier c.index-cites-earlier.result c.index-cites-earlier.is (omega arith) in
    let there = certificate_at c.args.cites.now c.args.place c.index-cites-place.result c.index-cites-place.is (omega arith) in
    differs_more certs c.args.place c.loop-earlier.earlier c.loop-earlier.invariant (λ d e.
    let alike : x ≡ y = sym (get_or_from_slice_get certs c.loop-earlier.earlier x d at) ∙ e ∙ get_or_from_slice_get certs c.args.place y d there in
    absurd (false≢true (subst IsTrue c.if-same.false (c.same.ensures.equal.1 (ap (λ (z : Cert). certificate z.body) c.deref.ensures ∙ alike ∙ ap (λ (z : Cert). certificate z.body) (sym c.deref-in-loop-earlier.ensures))))))
