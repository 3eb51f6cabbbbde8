-- What a grant cites is few.
use Rattle.std.proofs.Common.{◌≡◌, ℕ, suc, ◌<◌, ◌≤◌, Bool, not, cond, List, [], ◌∷◌, length, filter, get_or, Contains, Option, None, Some, slice_get, refl, sym, ap, subst, ◌∙◌, inl, inr, arith}
use Rattle.std.specs.Prelude.{All, AllPairs, ◌≢◌, find, filter_map}
use Rattle.std.specs.List.{cons_option}
use Rattle.std.proofs.lemmas.Bool.{cases_Bool, cond_both, eqb-true}
use Rattle.std.proofs.lemmas.Bool.Decides.{Decides-eqb}
use Rattle.std.proofs.lemmas.Map.Made.{IsDistinct-from_AllPairs}
use Rattle.std.proofs.lemmas.Map.Steps.{length-le_from_distinct_below}
use Rattle.std.proofs.lemmas.Map.Views.{Contains-from_any}
use Rattle.std.proofs.lemmas.Option.{none-some, same_Some, slice_get_within, slice_get-get_or}
use Rattle.std.proofs.lemmas.List.Elements.{All-filter, All-head, All-tail}
use Rattle.std.proofs.lemmas.List.Kept.{AllPairs-cons}
use Rattle.taos_calculus.proofs.Induction.{All-at}
use Rattle.stmt_codec.specs.Certificates.{is_live, live}
use Rattle.denial_link.proofs.Members.{at-has, has-at, has-cases, has-cons, has-head, has-nil}
use Rattle.proof_cache.specs.Cached.{Cached}
use Rattle.proof_cache.specs.Cache.{has_lapsed, is_for}
use Rattle.agent_core.specs.declared.asked.Settled.{Settled}
use Rattle.agent_core.specs.State.{Plan, Ask}
use Rattle.agent_core.specs.Plans.{IsPlan}
use Rattle.agent_core.specs.Caches.{unlapsed}
use Rattle.agent_core.specs.Journals.{Entry, cache_after, IsLegalJournal}
use Rattle.agent_core.specs.Asked.{IsGrantedAt, IsHitAt, IsGrant, by_kept, was_kept, was_dropped, had_no_room}
use Rattle.agent_core.proofs.Few.{judges_few}
use Rattle.request_course.proofs.Keeping.{kept_apart}

-- ---- by a proof that was made for it

cons_few : {X : Type 0} (o : Option X) (xs : List X) → length (cons_option o xs) ≤ suc (length xs)
cons_few None xs = omega arith
cons_few (Some x) xs = omega arith

picked_few : {X : Type 0} (xs : List X) (places : List ℕ) → length (filter_map (slice_get xs) places) ≤ length places
picked_few xs [] = omega arith
picked_few xs (p ∷ places) = omega (arith, cons_few (slice_get xs p) (filter_map (slice_get xs) places), picked_few xs places)

places_few : (places : List ℕ) (n : ℕ) → AllPairs (λ c d. (c ≡ d) → ⊥) places → ((p : ℕ) → Contains places p → p < n) → length places ≤ n
places_few places n apart within =
    length-le_from_distinct_below places n (IsDistinct-from_AllPairs Decides-eqb places apart) (λ q e. within q (Contains-from_any (λ x y t. eqb-true x y t) q places e))

cites_few : (plan : Plan) (journal : List Entry) (a : Ask) (place e : ℕ) (c : Cached) → IsPlan plan → IsGrantedAt plan journal a place e c → length c.cites ≤ 64
cites_few plan journal a place e c sound g =
    let places = g.granted.proof.places in
    let few = places_few places (length g.certs) g.granted.proof.tidy.apart (λ p has. let (k, at) = at-has places p has in inside k p at) in
    let held = judges_few plan sound.few_commons g.before a g.moment g.certs g.judged in
    omega (arith, ap length g.granted.proof.cites_are, picked_few g.certs places, few, held)
  where
    inside : (k p : ℕ) → slice_get g.granted.proof.places k ≡ Some p → p < length g.certs
    inside k p at = All-at (λ i. i < length g.certs) g.granted.proof.places k p g.granted.proof.inside at

-- ---- by a proof that was kept

module _ {X : Type 0} where
  abbrev AreApart : List X → Type 0
  AreApart xs = AllPairs (λ x y. (x ≡ y) → ⊥) xs

  apart_from : (x : X) (xs : List X) → AreApart (x ∷ xs) → (y : X) → Contains xs y → x ≡ y → ⊥
  apart_from x xs apart y has =
      let (k, at) = at-has xs y has in
      let is = same_Some (get_or xs k x) y (sym (slice_get-get_or xs k x (slice_get_within xs k y at)) ∙ at) in
      λ same. apart 0 (suc k) x (omega arith) (omega (arith, slice_get_within xs k y at)) (same ∙ sym is)

  apart_still : (x : X) (xs : List X) → AreApart (x ∷ xs) → AreApart xs
  apart_still x xs apart i j d lt within = apart (suc i) (suc j) d (omega (arith, lt)) (omega (arith, within))

  -- each of some is among others at a place of its own
  record HavePlaces (ys xs : List X) : Type 0 where
    places : List ℕ
    long : length places ≡ length xs
    differ : AllPairs (λ (p q : ℕ). (p ≡ q) → ⊥) places
    are : (p : ℕ) → Contains places p → (x : X) × Contains xs x × (slice_get ys p ≡ Some x)

  placed : (ys xs : List X) → AreApart xs → All (Contains ys) xs → HavePlaces ys xs
  placed ys [] apart all = record { places = []; long = refl; differ = λ i j d lt within. absurd (omega (arith, within)); are = λ p has. absurd (has-nil p has) }
  placed ys (x ∷ xs) apart all =
      let rest = placed ys xs (apart_still x xs apart) (All-tail (Contains ys) x xs all) in
      let (k, at) = at-has ys x (All-head (Contains ys) x xs all) in
      record {
        places = k ∷ rest.places;
        long = ap suc rest.long;
        differ = AllPairs-cons (λ (p q : ℕ). (p ≡ q) → ⊥) k rest.places (λ i d lt. elsewhere rest k at i d lt) rest.differ;
        are = λ p has. elim (has-cases k rest.places p has) [
          | inl e ↦ (x, has-head x xs, ap (slice_get ys) (sym e) ∙ at)
          | inr later ↦ let (y, there, is) = rest.are p later in (y, has-cons x xs y there, is)
        ];
      }
    where
      elsewhere : (rest : HavePlaces ys xs) (k : ℕ) → slice_get ys k ≡ Some x → (i d : ℕ) → i < length rest.places → k ≡ get_or rest.places i d → ⊥
      elsewhere rest k at i d lt same =
          let (y, there, is) = rest.are (get_or rest.places i d) (has-at rest.places i (get_or rest.places i d) (slice_get-get_or rest.places i d lt)) in
          apart_from x xs apart y there (same_Some x y (sym at ∙ ap (slice_get ys) same ∙ is))

  not_more : (ys xs : List X) → AreApart xs → All (Contains ys) xs → length xs ≤ length ys
  not_more ys xs apart all =
      let p = placed ys xs apart all in
      let few = places_few p.places (length ys) p.differ (λ i has. let (x, there, is) = p.are i has in slice_get_within ys i x is) in
      omega (arith, few, p.long)

shorter : {X : Type 0} (p : X → Bool) (xs : List X) → length (filter p xs) ≤ length xs
shorter p [] = omega arith
shorter p (x ∷ xs) =
    let rest : length (filter p xs) ≤ length xs = shorter p xs in
    cond_both (p x) (x ∷ filter p xs) (filter p xs) (λ l. length l ≤ suc (length xs)) (λ _. omega arith) (λ _. omega arith)

-- what is found among some is one of them
found_each : {X : Type 0} (P : X → Type 0) (test : X → Bool) (xs : List X) (c : X) → All P xs → find test xs ≡ Some c → P c
found_each P test [] c all e = absurd (none-some c e)
found_each P test (x ∷ xs) c all e = elim (cases_Bool (test x)) [
  | inl t ↦ subst P (same_Some x c (sym (ap (λ (b : Bool). cond b (Some x) (find test xs)) t) ∙ e)) (All-head P x xs all)
  | inr f ↦ found_each P test xs c (All-tail P x xs all) (sym (ap (λ (b : Bool). cond b (Some x) (find test xs)) f) ∙ e)
]

abbrev CitesApart : Cached → Type 0
CitesApart c = AllPairs (λ x y. x ≢ y) c.cites

kept_few : (plan : Plan) (journal : List Entry) (a : Ask) (place e : ℕ) (c : Cached) → IsPlan plan → IsLegalJournal plan journal → IsHitAt plan journal a place e c → length c.cites ≤ 64
kept_few plan journal a place e c sound legal h =
    let kept = cache_after plan h.before in
    let all = All-filter (λ x. not (has_lapsed h.moment x)) CitesApart kept (kept_apart plan journal h.before h.stands.rest _ legal h.stands.is) in
    let apart = found_each CitesApart (is_for a.subject h.proof.grant.who) (unlapsed h.moment kept) c all h.found in
    let few = not_more (live h.certs h.moment) c.cites apart h.proof.alive in
    let held = judges_few plan sound.few_commons h.before a h.moment h.certs h.judged in
    omega (arith, few, shorter (is_live h.moment) h.certs, held)

-- ---- whichever

pub grant_few : (plan : Plan) (journal : List Entry) (a : Ask) (place e : ℕ) (c : Cached) (kept : Bool) (settled : Settled) (own : List ℕ) → IsPlan plan → IsLegalJournal plan journal → IsGrant plan journal a place e c kept settled own → length c.cites ≤ 64
grant_few plan journal a place e c kept settled own sound legal (by_kept h) = kept_few plan journal a place e c sound legal h
grant_few plan journal a place e c kept settled own sound legal (was_kept g t) = cites_few plan journal a place e c sound g
grant_few plan journal a place e c kept settled own sound legal (was_dropped g t) = cites_few plan journal a place e c sound g
grant_few plan journal a place e c kept settled own sound legal (had_no_room g at) = cites_few plan journal a place e c sound g
