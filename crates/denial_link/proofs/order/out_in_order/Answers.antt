use Rattle.std.proofs.Common.{◌≡◌, ◌++◌, ◌∷◌, [], ℕ, ◌+◌, ◌<◌, List, length, take, drop, get_or, sym, ap, ◌∙◌, subst, arith}
use Rattle.std.specs.List.{refill}
use Rattle.std.specs.List.Sorted.{IsPermutation}
use Rattle.std.proofs.Math.Seq.{take-append_seam, take-length}
use Rattle.std.proofs.lemmas.List.{take_more, get_or-map, length-map}
use Rattle.denial_link.specs.Keys.{Key, KeysBelow}
use Rattle.denial_link.specs.Order.{OutInOrder}
use Rattle.stmt_codec.specs.View.{certificates}
use Rattle.denial_link.proofs.Places.{certificate_count}
use Rattle.denial_link.proofs.Sorting.{places_of, sorted_in_order}
use Rattle.denial_link.proofs.order.out_in_order.Goals as goal

refilled : (keys ys : List Key) → length ys ≡ length keys → refill (length keys) keys ys ≡ ys
refilled keys ys e = ap (λ n. take n (ys ++ drop (length ys) keys)) (sym e) ∙ take-append_seam ys (drop (length ys) keys)

one_more : (keys now : List Key) (i : ℕ) (d : Key) (old new : List ℕ) → now ≡ keys → i < length keys → old ≡ take i (places_of keys) → new ≡ old ++ (get_or now i d).4 ∷ [] → new ≡ take (i + 1) (places_of keys)
one_more keys now i d old new e lt o n =
    n ∙ ap (λ xs. xs ++ (get_or now i d).4 ∷ []) o ∙ ap (λ (ks : List Key). take i (places_of keys) ++ (get_or ks i d).4 ∷ []) e
    ∙ ap (λ m. take i (places_of keys) ++ m ∷ []) (sym (get_or-map (λ (k : Key). k.4) keys i d d.4 lt))
    ∙ sym (take_more (places_of keys) i d.4 (subst (λ m. i < m) (sym (length-map keys (λ (k : Key). k.4))) lt))

all_of : (keys ys : List Key) (places : List ℕ) (n : ℕ) → length ys ≡ length keys → n ≡ length (refill (length keys) keys ys) → places ≡ take n (places_of (refill (length keys) keys ys)) → places ≡ places_of ys
all_of keys ys places n e l p =
    let r = refilled keys ys e in
    p ∙ ap (λ ks. take n (places_of ks)) r ∙ ap (λ m. take m (places_of ys)) (l ∙ ap length r ∙ sym (length-map ys (λ (k : Key). k.4))) ∙ take-length (places_of ys)

pub loop-place-preserved : goal.loop-place-preserved
loop-place-preserved c =
    one_more _ _ _ _ _ _ c.deref.ensures.0 (omega (arith, c.len-place-end.ensures.value)) c.loop-place.invariant c.push.ensures.items

pub returns : goal.returns
returns c =
    let keys = c.out_keys-keys.result.items in
    let ys = c.sort_unstable.new.self in
    let certs = certificates c.args.certs.now in
    let below : KeysBelow certs c.args.moment (length certs) keys =
    subst (λ n. KeysBelow certs c.args.moment n keys) (sym (certificate_count c.args.certs.now)) c.out_keys-keys.ensures in
    let n : c.loop-place.place ≡ length (refill (length keys) keys ys) = omega (arith, c.len-place-end.ensures.value) in
    let value : c.deref_mut.result.now ≡ keys = c.deref_mut.ensures.value in
    let len : length ys ≡ length keys = c.sort_unstable.ensures.len ∙ ap length value in
    subst (OutInOrder certs c.args.moment) (sym (all_of keys ys c.loop-place.places.items c.loop-place.place len n c.loop-place.invariant))
    (sorted_in_order certs c.args.moment keys ys below (subst (λ ks. IsPermutation ks ys) value c.sort_unstable.ensures.permutation) c.sort_unstable.ensures.sorted)
