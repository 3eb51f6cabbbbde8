-- a certificate that is new goes to the end
use Rattle.std.proofs.Common.{◌≡◌, ◌<◌, [], ◌∷◌, ◌++◌, ℕ, List, cond, not, ◌&&◌, Some, length, ◌∙◌, sym, ap, arith, length-append}
use Rattle.std.specs.List.{slice_get, filter_map}
use Rattle.std.proofs.lemmas.List.Elements.{All-push, All-same, filter_map-append}
use Rattle.stmt_codec.specs.declared.cert.Cert.{Cert}
use Rattle.stmt_codec.specs.Certificates.{Certificate, certificate}
use Rattle.stmt_codec.specs.View.{certificates}
use Rattle.agent_core.specs.Held.{among, is_withdrawn}
use Rattle.shard_core.specs.Kept.{certs_held}
use Rattle.shard_core.proofs.Among.{newly_more, found_at}
use Rattle.denial_link.proofs.Places.{certificate_at}
use Rattle.shard_core.proofs.held.newness.new_of.Goals as goal
use Rattle.shard_core.proofs.held.newness.new_of.Goals.{then-is_brought, else-is_brought}

pub loop-place-preserved : goal.loop-place-preserved
loop-place-preserved c =
    let held : List Certificate = certs_held c.args.held.now in
    let certs : List Certificate = certificates c.args.presented.now in
    let here : slice_get certs c.loop-place.place ≡ Some (certificate c.index-presented-place.result.value.body) = certificate_at c.args.presented.now c.loop-place.place c.index-presented-place.result c.index-presented-place.is (omega arith) in
    let news : List Certificate = filter_map (slice_get certs) c.loop-place.places.items in
    let issuers : List ℕ = c.args.held.now.withdrawn.now.items in
    let test : c.is_brought.result ≡ (not (is_withdrawn issuers (certificate c.index-presented-place.result.value.body).issuer) && not (among (held ++ news) (certificate c.index-presented-place.result.value.body))) =
    c.is_brought.ensures ∙ ap (λ (x : Cert). not (is_withdrawn issuers (certificate x.body).issuer) && not (among (held ++ news) (certificate x.body))) c.deref.ensures in
    let more = newly_more issuers held certs news c.loop-place.place (certificate c.index-presented-place.result.value.body) c.is_brought.result here c.loop-place.invariant.value test in
    elim c.if-is_brought.branch [
      | then-is_brought w ↦
          let items : c.if-is_brought.places.items ≡ c.loop-place.places.items ++ c.loop-place.place ∷ [] = ap (λ v. v.items) w.places-is ∙ w.push.ensures.items in
          record {
            value = ap (filter_map (slice_get certs)) items ∙ filter_map-append (slice_get certs) c.loop-place.places.items (c.loop-place.place ∷ []) ∙
                ap (λ (zs : List Certificate). news ++ zs) (found_at certs c.loop-place.place (certificate c.index-presented-place.result.value.body) here) ∙
                sym (more ∙ ap (λ b. cond b (news ++ certificate c.index-presented-place.result.value.body ∷ []) news) w.if-is_brought.true);
            within = All-same (λ i. i < length c.args.presented.now) c.if-is_brought.places.items (c.loop-place.places.items ++ c.loop-place.place ∷ []) items
                (All-push (λ i. i < length c.args.presented.now) c.loop-place.places.items c.loop-place.place c.loop-place.invariant.within (omega arith));
            few = omega (arith, ap (λ (zs : List ℕ). length zs) items, length-append c.loop-place.places.items (c.loop-place.place ∷ []), c.loop-place.invariant.few);
          }
      | else-is_brought w ↦
          let items : c.if-is_brought.places.items ≡ c.loop-place.places.items = ap (λ v. v.items) w.places-is in
          record {
            value = ap (filter_map (slice_get certs)) items ∙ sym (more ∙ ap (λ b. cond b (news ++ certificate c.index-presented-place.result.value.body ∷ []) news) w.if-is_brought.false);
            within = All-same (λ i. i < length c.args.presented.now) c.if-is_brought.places.items c.loop-place.places.items items c.loop-place.invariant.within;
            few = omega (arith, ap (λ (zs : List ℕ). length zs) items, c.loop-place.invariant.few);
          }
    ]
