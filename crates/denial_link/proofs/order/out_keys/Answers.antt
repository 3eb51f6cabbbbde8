use Rattle.std.proofs.Common.{◌≡◌, ◌↔◌, ◌≤◌, ℕ, ◌+◌, ◌++◌, ◌∷◌, [], Bool, false, List, slice_get, Some, length, IsTrue, sym, ap, ◌∙◌, subst, arith, length-append}
use Rattle.std.proofs.lemmas.Bool.{false≢true}
use Rattle.stmt_codec.specs.declared.cert.Cert.{Cert}
use Rattle.stmt_codec.specs.Certificates.{Certificate, certificate, digest_of, IsLive}
use Rattle.denial_link.specs.Keys.{Key, KeysBelow, time_of}
use Rattle.denial_link.proofs.Sorting.{keys_push, keys_pass}
use Rattle.denial_link.proofs.Places.{certificate_at}
use Rattle.denial_link.proofs.order.out_keys.Goals as goal
use Rattle.denial_link.proofs.order.out_keys.Goals.{then-not-is_live, else-not-is_live}

out_from : (b : Bool) (moment : ℕ) (c : Certificate) → IsTrue b ↔ IsLive moment c → b ≡ false → IsLive moment c → ⊥
out_from b moment c e f = λ lives. false≢true (sym f ∙ e.1 lives)

pushed : (certs : List Certificate) (moment n : ℕ) (keys new : List Key) (c : Certificate) (k : Key) →
    KeysBelow certs moment n keys → length keys ≤ n → slice_get certs n ≡ Some c → (IsLive moment c → ⊥) →
    k.4 ≡ n → (k.0, k.1.0, k.2) ≡ time_of moment c → k.3 ≡ digest_of c → new ≡ keys ++ k ∷ [] →
    KeysBelow certs moment (n + 1) new × (length new ≤ n + 1)
pushed certs moment n keys new c k below len s d p u g e =
    (subst (KeysBelow certs moment (n + 1)) (sym e) (keys_push certs moment n keys c k below s d p u g), omega (arith, ap length e, length-append keys (k ∷ [])))

passed : (certs : List Certificate) (moment n : ℕ) (keys new : List Key) (c : Certificate) → KeysBelow certs moment n keys → length keys ≤ n → slice_get certs n ≡ Some c → IsLive moment c → new ≡ keys → KeysBelow certs moment (n + 1) new × (length new ≤ n + 1)
passed certs moment n keys new c below len s live e =
    (subst (KeysBelow certs moment (n + 1)) (sym e) (keys_pass certs moment n keys c below s live), omega (arith, ap length e))

pub loop-place-preserved : goal.loop-place-preserved
loop-place-preserved c =
    let a = c.index-certs-place.result in
    let at = certificate_at c.args.certs.now c.loop-place.place a c.index-certs-place.is (omega arith) in
    let same : certificate c.deref.result.now.body ≡ certificate a.value.body = ap (λ (x : Cert). certificate x.body) c.deref.ensures in
    elim c.if-not-is_live.branch [
      | then-not-is_live w ↦
          let out = out_from c.is_live.result c.args.moment (certificate c.deref.result.now.body) c.is_live.ensures.live w.if-not-is_live.true in
          pushed _ _ _ _ _ _ _ c.loop-place.invariant.0 c.loop-place.invariant.1 at (subst (λ (x : Certificate). IsLive c.args.moment x → ⊥) same out) w.key_of.ensures.place
          (w.key_of.ensures.time ∙ ap (λ (x : Cert). time_of c.args.moment (certificate x.body)) w.deref-then-not-is_live.ensures)
          (w.key_of.ensures.digest ∙ ap (λ (x : Cert). digest_of (certificate x.body)) w.deref-then-not-is_live.ensures)
          (ap (λ v. v.items) w.keys-is ∙ w.push.ensures.items)
      | else-not-is_live w ↦
          let live : IsLive c.args.moment (certificate c.deref.result.now.body) = c.is_live.ensures.live.0 w.if-not-is_live.false in
          passed _ _ _ _ _ _ c.loop-place.invariant.0 c.loop-place.invariant.1 at (subst (IsLive c.args.moment) same live) (ap (λ v. v.items) w.keys-is)
    ]
