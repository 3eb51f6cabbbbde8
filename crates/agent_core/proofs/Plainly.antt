-- A shard with kept proofs gives the verdicts of the plain machine.
use Rattle.std.proofs.Common.{◌≡◌, ℕ, zero, suc, ◌+◌, List, [], ◌∷◌, ◌++◌, map, take, drop, Option, None, Some, refl, sym, ◌∙◌, ap, subst, append_assoc}
use Rattle.stmt_codec.specs.Certificates.{Certificate}
use Rattle.proof_cache.specs.Cached.{Cached}
use Rattle.proof_cache.proofs.Lists.{split_at}
use Rattle.agent_core.specs.declared.told.Told.{Told}
use Rattle.agent_core.specs.Caches.{unlapsed, first_hit, hit_or_miss, cache_next}
use Rattle.agent_core.specs.Granted.{IsKeptProofFor}
use Rattle.agent_core.specs.State.{Plan, State, Ask, Event, Asks, Answer, Judged, Plain, opened, next}
use Rattle.agent_core.specs.Journals.{Entry, entry, state_from, state_after, cache_after, told_of, IsLegalJournal}
use Rattle.agent_core.specs.Laws.{journal_from, journal_of, plain_from, Agrees, GivesPlainVerdicts}
use Rattle.agent_core.proofs.Hits.{judged_as, hit_state, hit_found}
use Rattle.agent_core.proofs.Making.{front_legal, journal_legal}

-- the events of what a shard makes of events are these
events_made : (plan : Plan) (s : State) (cache : List Cached) (events : List Event) → map (λ (e : Entry). e.event) (journal_from plan s cache events) ≡ events
events_made plan s cache [] = refl
events_made plan s cache (e ∷ es) =
    ap (λ l. e ∷ l) (events_made plan (next plan s e).0 (cache_next (next plan s e).0.clock e (told_of cache e (next plan s e).1) cache) es)

-- the state looks at no told and no cache
plain_state : (plan : Plan) (s : State) (journal : List Entry) → state_from plan s journal ≡ plain_from plan s (map (λ (e : Entry). e.event) journal)
plain_state plan s [] = refl
plain_state plan s (e ∷ es) = plain_state plan (next plan s e.event).0 es

map_take : {X Y : Type 0} (f : X → Y) (n : ℕ) (xs : List X) → map f (take n xs) ≡ take n (map f xs)
map_take f zero xs = refl
map_take f (suc n) [] = refl
map_take f (suc n) (x ∷ xs) = ap (λ l. f x ∷ l) (map_take f n xs)

module _ (plan : Plan) (before : List Entry) (a : Ask) (told : Told) (legal : IsLegalJournal plan (before ++ entry (Asks a) told ∷ [])) where
  told_is : told ≡ told_of (cache_after plan before) (Asks a) (next plan (state_after plan before) (Asks a)).1
  told_is = (legal before (entry (Asks a) told) [] refl).tells

  hit_agrees : (moment : ℕ) (certs : List Certificate) → (next plan (state_after plan before) (Asks a)).1 ≡ Judged moment certs → (e : ℕ) → told ≡ Told.Hit e → Agrees plan a (Judged moment certs) (Told.Hit e)
  hit_agrees moment certs is e hit =
      let whole : IsLegalJournal plan (before ++ entry (Asks a) (Told.Hit e) ∷ []) = subst (λ t. IsLegalJournal plan (before ++ entry (Asks a) t ∷ [])) hit legal in
      let (c, k) = hit_found plan before a e whole in
      let (m, cs) = judged_as (hit_state plan before a e whole) a moment certs is in
      (c, subst (λ n. IsKeptProofFor plan.anchors certs n a e c) (sym m) (subst (λ (xs : List Certificate). IsKeptProofFor plan.anchors xs (hit_state plan before a e whole).clock a e c) (sym cs) k))

  found_agrees : (moment : ℕ) (certs : List Certificate) → (next plan (state_after plan before) (Asks a)).1 ≡ Judged moment certs → (o : Option ℕ) → told ≡ hit_or_miss o → Agrees plan a (Judged moment certs) told
  found_agrees moment certs is None t = subst (Agrees plan a (Judged moment certs)) (sym t) refl
  found_agrees moment certs is (Some e) t = subst (Agrees plan a (Judged moment certs)) (sym t) (hit_agrees moment certs is e t)

  by_answer : (x : Answer) → (next plan (state_after plan before) (Asks a)).1 ≡ x → Agrees plan a x told
  by_answer (Plain plain) is = told_is ∙ ap (told_of (cache_after plan before) (Asks a)) is
  by_answer (Judged moment certs) is =
      found_agrees moment certs is (first_hit (unlapsed moment (cache_after plan before)) a) (told_is ∙ ap (told_of (cache_after plan before) (Asks a)) is)

  pub agrees : Agrees plan a (next plan (state_after plan before) (Asks a)).1 told
  agrees = by_answer (next plan (state_after plan before) (Asks a)).1 refl

pub plain_verdicts : (plan : Plan) → GivesPlainVerdicts plan
plain_verdicts plan events few meant place a told at =
    let j : List Entry = journal_of plan events in
    let before : List Entry = take place j in
    let e : Entry = entry (Asks a) told in
    let cut : j ≡ before ++ e ∷ drop (place + 1) j = split_at j place e at in
    let whole : (before ++ e ∷ []) ++ drop (place + 1) j ≡ j = append_assoc before (e ∷ []) (drop (place + 1) j) ∙ sym cut in
    let legal : IsLegalJournal plan (before ++ e ∷ []) =
    front_legal plan (before ++ e ∷ []) (drop (place + 1) j) (subst (IsLegalJournal plan) (sym whole) (journal_legal plan events few meant)) in
    let same : state_after plan before ≡ plain_from plan (opened plan) (take place events) =
    plain_state plan (opened plan) before ∙ ap (plain_from plan (opened plan)) (map_take (λ (x : Entry). x.event) place j ∙ ap (take place) (events_made plan (opened plan) [] events)) in
    subst (λ s. Agrees plan a (next plan s (Asks a)).1 told) same (agrees plan before a told legal)
