-- one mark more says the same of one certificate more
use Rattle.std.proofs.Common.{◌↔◌, ◌∷◌, [], ◌++◌, Bool, IsTrue, Contains, inl, inr, sym, ap, ◌∙◌, subst, arith}
use Rattle.std.specs.Bool.{Decides}
use Rattle.std.specs.Prelude.{◌==◌}
use Rattle.std.proofs.lemmas.Bool.{false≢true}
use Rattle.std.proofs.lemmas.Bool.Decides.{Decides-eqb}
use Rattle.std.proofs.lemmas.List.Elements.{Decides-contains, contains_decides}
use Rattle.stmt_codec.specs.declared.cert.Cert.{Cert}
use Rattle.stmt_codec.specs.Certificates.{certificate, IsLive}
use Rattle.denial_link.proofs.Places.{certificate_at}
use Rattle.denial_link.proofs.Reviving.{marks_push}
use Rattle.denial_link.proofs.revive.marks_of.Goals as goal
use Rattle.denial_link.proofs.revive.marks_of.Goals.{then-is_live, else-is_live}

pub loop-place-preserved : goal.loop-place-preserved
loop-place-preserved c =
    let a = c.index-certs-place.result in
    let at = certificate_at c.args.certs.now c.loop-place.place a c.index-certs-place.is (omega arith) in
    let live : IsTrue c.is_live.result ↔ IsLive c.args.moment (certificate a.value.body) =
    subst (λ (x : Cert). IsTrue c.is_live.result ↔ IsLive c.args.moment (certificate x.body)) c.deref.ensures c.is_live.ensures.live in
    elim c.if-is_live.branch [
      | then-is_live w ↦
          marks_push _ _ _ _ _ _ _ _ c.loop-place.invariant at (λ t. inl (live.0 t), λ h. w.if-is_live.true)
          (c.push.ensures.items ∙ ap (λ (b : Bool). c.loop-place.marks.items ++ b ∷ []) w.push-is)
      | else-is_live w ↦
          let has : Decides w.contains.result (Contains c.args.places.now c.loop-place.place) =
          Decides-contains c.args.places.now c.loop-place.place w.contains.result (contains_decides (λ m n. m == n) Decides-eqb c.args.places.now c.loop-place.place w.contains.result w.contains.ensures.cases) in
          marks_push _ _ _ _ _ _ _ _ c.loop-place.invariant at
          (λ t. inr (has.0 t), λ h. elim h [ inl l ↦ absurd (false≢true (sym w.if-is_live.false ∙ live.1 l)) | inr r ↦ has.1 r ])
          (c.push.ensures.items ∙ ap (λ (b : Bool). c.loop-place.marks.items ++ b ∷ []) w.push-is)
    ]
