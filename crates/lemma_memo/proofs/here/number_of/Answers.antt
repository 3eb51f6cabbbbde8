use Rattle.std.proofs.Common.{◌≡◌, ◌∙◌, ℕ, ◌<◌, true, false, List, Some, slice_get, ap, sym, subst, ⊎_elim, arith}
use Rattle.std.specs.Prelude.{bytes_eq}
use Rattle.std.specs.Option.{option_map}
use Rattle.std.proofs.lemmas.Bool.{cases_order}
use Rattle.std.proofs.lemmas.Cmp.{nat_list_eq_equiv}
use Rattle.std.proofs.lemmas.List.{length-map}
use Rattle.std.proofs.lemmas.Option.{same_Some, slice_get-map, slice_get-get_or, slice_get_within}
use Rattle.stmt_codec.specs.declared.cert.Cert.{Cert}
use Rattle.stmt_codec.specs.Certificates.{certificate, digest_of}
use Rattle.stmt_codec.specs.View.{certificate_of, certificates}
use Rattle.lemma_memo.proofs.here.number_of.Goals.{else-eq-via-then-eq+else-same, else-eq-via-else-eq}
use Rattle.lemma_memo.proofs.here.number_of.Goals as goal

-- certificates that say the same have one digest
one_digest : (a b : Cert) → certificate a.body ≡ certificate b.body → bytes_eq a.digest b.digest ≡ true
one_digest a b same = subst (λ (d : List ℕ). bytes_eq a.digest d ≡ true) (a.digested ∙ (ap digest_of same ∙ sym b.digested)) (nat_list_eq_equiv.refl a.digest)

-- another certificate has another body, and mostly another digest
pub loop-number-preserved : goal.loop-number-preserved
loop-number-preserved c = λ k lt at.
    ⊎_elim (λ (same : k ≡ c.loop-number.number). here (subst (λ n. slice_get (certificates c.args.commons.now) n ≡ Some (certificate c.args.cert.now.body)) same at))
    (λ h. ⊎_elim (λ (less : k < c.loop-number.number). c.loop-number.invariant k less at) (λ (more : c.loop-number.number < k). absurd (omega arith)) h)
    (cases_order k c.loop-number.number)
  where
    is_it : slice_get c.args.commons.now c.loop-number.number ≡ Some c.index-commons-number.result
    is_it = slice_get-get_or c.args.commons.now c.loop-number.number c.index-commons-number.result c.loop-number-test.true ∙ ap Some (sym c.index-commons-number.is)

    here : slice_get (certificates c.args.commons.now) c.loop-number.number ≡ Some (certificate c.args.cert.now.body) → ⊥
    here at =
        let stands = slice_get-map certificate_of c.args.commons.now c.loop-number.number ∙ ap (option_map certificate_of) is_it in
        let same = same_Some (certificate_of c.index-commons-number.result) (certificate c.args.cert.now.body) (sym stands ∙ at) in
        elim c.else-eq.branch [
          | else-eq-via-then-eq+else-same w ↦
              let first = ap (λ (x : Cert). certificate x.body) w.deref-then-eq.ensures in
              let yes_is : w.same.result ≡ true = w.same.ensures.equal.1 (first ∙ same) in
              absurd (let q : false ≡ true = sym w.if-same.false ∙ yes_is in cc)
          | else-eq-via-else-eq w ↦
              let first = ap (λ (x : Cert). certificate x.body) c.deref.ensures in
              let yes_is : c.eq.result ≡ true = c.eq.ensures ∙ one_digest c.deref.result.now c.args.cert.now (first ∙ same) in
              absurd (let q : false ≡ true = sym w.if-eq.false ∙ yes_is in cc)
        ]

-- no common is the certificate
pub returns : goal.returns
returns c = λ k at.
    let within = slice_get_within (certificates c.args.commons.now) k (certificate c.args.cert.now.body) at in
    c.loop-number.invariant k (omega (arith, within, length-map c.args.commons.now certificate_of)) at
