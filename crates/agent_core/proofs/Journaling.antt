-- One more entry: the state and the kept proofs behind it, and legal journals.
use Rattle.std.proofs.Common.{◌≡◌, ℕ, ◌+◌, ◌<◌, ◌≤◌, List, [], ◌∷◌, ◌++◌, length, refl, sym, ap, ◌∙◌, subst, arith, ◌⊎◌, inl, inr, zero, suc, Some, slice_get, All}
use Rattle.std.proofs.lemmas.List.{take-append-le}
use Rattle.std.proofs.lemmas.Option.{slice_get_within}
use Rattle.stmt_codec.specs.Certificates.{Certificate}
use Rattle.proof_cache.specs.Cached.{Cached}
use Rattle.agent_core.specs.Caches.{cache_next}
use Rattle.agent_core.specs.State.{Plan, State, Event, Asks, Keeps, next, opened}
use Rattle.agent_core.specs.Journals.{Entry, entry, state_from, state_after, cache_from, cache_after, moment_at, IsKeepable, IsMeant, MayFollow, IsLegalJournal}

-- ---- the state behind one entry more

pub state_from-push : (plan : Plan) (s : State) (journal : List Entry) (e : Entry) → state_from plan s (journal ++ e ∷ []) ≡ (next plan (state_from plan s journal) e.event).0
state_from-push plan s [] e = refl
state_from-push plan s (x ∷ journal) e = state_from-push plan (next plan s x.event).0 journal e

-- the kept proofs behind one entry more
cache_from-push : (plan : Plan) (s : State) (cache : List Cached) (journal : List Entry) (e : Entry) →
    cache_from plan s cache (journal ++ e ∷ []) ≡
    cache_next (next plan (state_from plan s journal) e.event).0.clock e.event e.told (cache_from plan s cache journal)
cache_from-push plan s cache [] e = refl
cache_from-push plan s cache (x ∷ journal) e =
    cache_from-push plan (next plan s x.event).0 (cache_next (next plan s x.event).0.clock x.event x.told cache) journal e

pub cache_after-push : (plan : Plan) (journal : List Entry) (e : Entry) →
    cache_after plan (journal ++ e ∷ []) ≡ cache_next (next plan (state_after plan journal) e.event).0.clock e.event e.told (cache_after plan journal)
cache_after-push plan journal e = cache_from-push plan (opened plan) [] journal e

-- what stands in a front stands in the whole
pub slice_front : {X : Type 0} (xs ys : List X) (i : ℕ) (x : X) → slice_get xs i ≡ Some x → slice_get (xs ++ ys) i ≡ Some x
slice_front [] ys i x e = absurd cc
slice_front (y ∷ xs) ys zero x e = e
slice_front (y ∷ xs) ys (suc i) x e = slice_front xs ys i x e

-- the moment of an entry stays so when the journal goes on
moment_on : (plan : Plan) (journal more : List Entry) (place : ℕ) → place < length journal → moment_at plan (journal ++ more) place ≡ moment_at plan journal place
moment_on plan journal more place within = ap (λ j. (state_after plan j).clock) (take-append-le (place + 1) journal more (omega (arith, within)))

keepable_on : (plan : Plan) (xs more : List Entry) (ask e : ℕ) (c : Cached) → IsKeepable plan xs ask e c → IsKeepable plan (xs ++ more) ask e c
keepable_on plan xs more ask e c k = record {
  asked = k.asked;
  told = k.told;
  stands = slice_front xs more ask (entry (Asks k.asked) k.told) k.stands;
  subject_is = k.subject_is;
  who_is = k.who_is;
  proves = k.proves;
  lease_is = k.lease_is;
  apart = k.apart;
  begun = subst (λ (n : ℕ). All (λ (x : Certificate). x.from ≤ n) c.cites) (sym (moment_on plan xs more ask (slice_get_within xs ask (entry (Asks k.asked) k.told) k.stands))) k.begun;
}

-- what an event has to be stays so when the journal goes on
pub meant_on : (plan : Plan) (xs more : List Entry) (e : Event) → IsMeant plan xs e → IsMeant plan (xs ++ more) e
meant_on plan xs more (Asks a) m = m
meant_on plan xs more (Keeps ask e c) m = keepable_on plan xs more ask e c m
meant_on plan xs more _ m = tt

-- ---- legal journals

-- a list that ends with e, cut at an entry: the entry is e, or stands before it
cut_last : (before journal rest : List Entry) (e x : Entry) → journal ++ e ∷ [] ≡ before ++ x ∷ rest → ((journal ≡ before) × (e ≡ x)) ⊎ ((rest' : List Entry) × (journal ≡ before ++ x ∷ rest'))
cut_last [] [] rest e x eq = inl (refl, cc)
cut_last [] (y ∷ journal) rest e x eq = let same : y ≡ x = cc in inr (journal, ap (λ z. z ∷ journal) same)
cut_last (b ∷ before) [] rest e x eq = absurd (no before cc)
  where
    no : (before : List Entry) → [] ≡ before ++ x ∷ rest → ⊥
    no [] h = cc
    no (c ∷ cs) h = cc
cut_last (b ∷ before) (y ∷ journal) rest e x eq =
    let heads : y ≡ b = cc in
    let tails : journal ++ e ∷ [] ≡ before ++ x ∷ rest = cc in
    elim (cut_last before journal rest e x tails) [
      | inl w ↦ inl (ap (λ zs. y ∷ zs) w.0 ∙ ap (λ z. z ∷ before) heads, w.1)
      | inr w ↦ inr (w.0, ap (λ zs. y ∷ zs) w.1 ∙ ap (λ z. z ∷ (before ++ x ∷ w.0)) heads)
    ]

pub legal_more : (plan : Plan) (journal : List Entry) (e : Entry) → IsLegalJournal plan journal → MayFollow plan journal e → IsLegalJournal plan (journal ++ e ∷ [])
legal_more plan journal e legal may before x rest eq =
    elim (cut_last before journal rest e x eq) [
      | inl w ↦ subst (λ y. MayFollow plan before y) w.1 (subst (λ zs. MayFollow plan zs e) w.0 may)
      | inr w ↦ legal before x w.0 w.1
    ]
