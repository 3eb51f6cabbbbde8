-- Issuers that are withdrawn: nothing of theirs is held.
use Rattle.std.proofs.Common.{◌≡◌, ⊎_elim, ℕ, ◌+◌, ◌<◌, Bool, true, false, not, ◌==◌, nat_eq, nat_le, nat_lt, List, [], ◌∷◌, ◌++◌, length, filter, get_or, bytes_eq, All, Contains, refl, sym, ◌∙◌, ap, subst, arith, length-append}
use Rattle.std.proofs.lemmas.Bool.{cond_both, eqb-true, eqb-false, false≢true, leb-false, not-true}
use Rattle.std.proofs.lemmas.Cmp.{nat_eq_equiv}
use Rattle.std.proofs.lemmas.List.Elements.{All-nil, All-cons, All-head, All-tail, All-append, All-filter, All-weaker, filter_passes, Contains-append_left, Contains-push, Contains-push_cases}
use Rattle.std.proofs.lemmas.Map.Views.{Contains-from_any, list_any-from_Contains}
use Rattle.stmt_codec.specs.Certificates.{Certificate, digest_of}
use Rattle.proof_cache.specs.Cached.{Cached}
use Rattle.agent_core.specs.declared.told.Told.{Told}
use Rattle.agent_core.specs.Held.{admitted, among, is_withdrawn, newly}
use Rattle.agent_core.specs.Journals.{Entry, entry, state_from, state_after, cache_after, told_of}
use Rattle.agent_core.specs.Laws.{AreAdmitted, HoldsNoneWithdrawn, WithdrawnAreNotHeld, WithdrawnFromThen}
use Rattle.agent_core.specs.State.{Plan, State, Ask, Event, Asks, Keeps, Holds, Discards, Forgets, Expires, Withdraws, Answer, Plain, opened, keeping, is_gone, swept, brought, taking, asking, holding, forgetting, withdrawing, without_issuer, moment_of, next}
use Rattle.agent_core.proofs.Backed.{All-both}
use Rattle.agent_core.proofs.Clocks.{state_from-append}

All-newly : (P : Certificate → Type 0) (held certs : List Certificate) → All P certs → All P (newly held certs)
All-newly P held [] h = All-nil P
All-newly P held (c ∷ cs) h =
    cond_both (among held c) _ _ (All P) (λ _. All-newly P held cs (All-tail P c cs h))
    (λ _. All-cons P c (newly (held ++ c ∷ []) cs) (All-head P c cs h) (All-newly P (held ++ c ∷ []) cs (All-tail P c cs h)))

-- an issuer that is none of these by the test is none of them
not_there : (issuers : List ℕ) (issuer : ℕ) → is_withdrawn issuers issuer ≡ false → Contains issuers issuer → ⊥
not_there issuers issuer isnt there = false≢true (sym isnt ∙ list_any-from_Contains {eq = nat_eq} nat_eq_equiv issuer issuers there)

-- what is admitted is of other issuers
admitted_free : (s : State) (certs : List Certificate) → AreAdmitted s (admitted s.withdrawn certs)
admitted_free s certs =
    All-weaker (λ (c : Certificate). not (is_withdrawn s.withdrawn c.issuer) ≡ true) (λ (c : Certificate). Contains s.withdrawn c.issuer → ⊥)
    (λ c e. not_there s.withdrawn c.issuer (not-true (is_withdrawn s.withdrawn c.issuer) e)) (admitted s.withdrawn certs) (filter_passes (λ (c : Certificate). not (is_withdrawn s.withdrawn c.issuer)) certs)

abbrev Other : State → Certificate → Type 0
Other s c = Contains s.withdrawn c.issuer → ⊥

abbrev Free : State → Type 0
Free s = HoldsNoneWithdrawn s

free_keeping : (p : Certificate → Bool) (m : ℕ) (s : State) → Free s → Free (keeping p m s)
free_keeping p m s h = record {
  few = h.few;
  own = λ c. All-filter p (Other s) (s.own c) (h.own c);
  commons = All-filter p (Other s) s.commons h.commons;
}

free_swept : (keep m : ℕ) (s : State) → Free s → Free (swept keep m s)
free_swept keep m s h = free_keeping (λ c. not (is_gone keep m c)) m s h

free_taking : (s : State) (a : Ask) → Free s → Free (taking s a)
free_taking s a h =
    let new : All (Other s) (brought s a) = All-newly (Other s) (s.own a.channel ++ s.commons) (admitted s.withdrawn a.presented) (admitted_free s a.presented) in
    record {
      few = h.few;
      own = λ c. cond_both (c == a.channel) (s.own a.channel ++ brought s a) (s.own c) (All (Other s))
          (λ _. All-append (Other s) (s.own a.channel) (brought s a) (h.own a.channel) new) (λ _. h.own c);
      commons = h.commons;
    }

free_asking : (s : State) (a : Ask) → Free s → Free (asking s a).0
free_asking s a h =
    cond_both (nat_le a.seq (s.last a.channel)) _ _ (λ (r : State × Answer). Free r.0) (λ _. h)
    (λ _. cond_both (nat_lt 32 (length (s.own a.channel) + length (brought s a))) _ _ (λ (r : State × Answer). Free r.0) (λ _. h) (λ _. free_taking s a h))

free_holding : (s : State) (certs : List Certificate) → Free s → Free (holding s (newly s.commons (admitted s.withdrawn certs))).0
free_holding s certs h =
    let new : List Certificate = newly s.commons (admitted s.withdrawn certs) in
    let fresh : All (Other s) new = All-newly (Other s) s.commons (admitted s.withdrawn certs) (admitted_free s certs) in
    cond_both (nat_lt 32 (length s.commons + length new)) _ _ (λ (r : State × Answer). Free r.0) (λ _. h)
    (λ _. record { few = h.few; own = h.own; commons = All-append (Other s) s.commons new h.commons fresh })

free_forgetting : (channel : ℕ) (s : State) → Free s → Free (forgetting channel s)
free_forgetting channel s h = record {
  few = h.few;
  own = λ c. cond_both (c == channel) [] (s.own c) (All (Other s)) (λ _. All-nil (Other s)) (λ _. h.own c);
  commons = h.commons;
}

-- those that stay are of other issuers than the one that is withdrawn, too
stay_free : (issuer : ℕ) (s : State) (certs : List Certificate) → All (Other s) certs →
    All (Other (without_issuer issuer s)) (filter (λ (c : Certificate). not (c.issuer == issuer)) certs)
stay_free issuer s certs all =
    let p : Certificate → Bool = λ c. not (c.issuer == issuer) in
    All-weaker (λ (c : Certificate). (p c ≡ true) × Other s c) (Other (without_issuer issuer s))
    (λ c h there. ⊎_elim (λ l. h.1 l) (λ same. eqb-false c.issuer issuer (not-true (c.issuer == issuer) h.0) (sym same)) (Contains-push_cases s.withdrawn issuer c.issuer there))
    (filter p certs) (All-both (λ (c : Certificate). p c ≡ true) (Other s) (filter p certs) (filter_passes p certs) (All-filter p (Other s) certs all))

free_withdrawing : (plan : Plan) (issuer : ℕ) (s : State) → Free s → Free (withdrawing plan issuer s).0
free_withdrawing plan issuer s h =
    cond_both (is_withdrawn s.withdrawn issuer) _ _ (λ (r : State × Answer). Free r.0) (λ _. h)
    (λ _. cond_both (nat_le 64 (length s.withdrawn)) _ _ (λ (r : State × Answer). Free r.0) (λ _. h)
    (λ e. let room : length s.withdrawn < 64 = leb-false 64 (length s.withdrawn) e in
    record {
      few = omega (arith, room, length-append s.withdrawn (issuer ∷ []));
      own = λ c. stay_free issuer s (s.own c) (h.own c);
      commons = stay_free issuer s s.commons h.commons;
    }))

module _ (plan : Plan) where
  free_next : (s : State) (e : Event) → Free s → Free (next plan s e).0
  free_next s (Asks a) h = free_asking (swept plan.keep (moment_of s a.reading) s) a (free_swept plan.keep (moment_of s a.reading) s h)
  free_next s (Keeps ask e c) h = h
  free_next s (Holds certs) h = free_holding s certs h
  free_next s (Discards d) h = free_keeping (λ c. not (bytes_eq (digest_of c) d)) s.clock s h
  free_next s (Forgets channel) h = free_forgetting channel s h
  free_next s (Expires reading) h = free_swept plan.keep (moment_of s reading) s h
  free_next s (Withdraws issuer) h = free_withdrawing plan issuer s h

  free_from : (s : State) (j : List Entry) → Free s → Free (state_from plan s j)
  free_from s [] h = h
  free_from s (e ∷ es) h = free_from (next plan s e.event).0 es (free_next s e.event h)

  none_there : (x : ℕ) → Contains [] x → ⊥
  none_there x there = absurd (omega (arith, there.1))

  pub not_held : WithdrawnAreNotHeld plan
  not_held j = free_from (opened plan) j (record {
    few = omega arith;
    own = λ c. All-nil (Other (opened plan));
    commons = λ k d lt. none_there (get_or plan.commons k d).issuer;
  })

  -- ---- from then on

  -- an issuer that is withdrawn stays so
  stays_next : (s : State) (e : Event) (issuer : ℕ) → Contains s.withdrawn issuer → Contains (next plan s e).0.withdrawn issuer
  stays_next s (Asks a) issuer h =
      cond_both (nat_le a.seq (s.last a.channel)) _ _ (λ (r : State × Answer). Contains r.0.withdrawn issuer) (λ _. h)
      (λ _. cond_both (nat_lt 32 (length ((swept plan.keep (moment_of s a.reading) s).own a.channel) + length (brought (swept plan.keep (moment_of s a.reading) s) a))) _ _
      (λ (r : State × Answer). Contains r.0.withdrawn issuer) (λ _. h) (λ _. h))
  stays_next s (Keeps ask e c) issuer h = h
  stays_next s (Holds certs) issuer h =
      cond_both (nat_lt 32 (length s.commons + length (newly s.commons (admitted s.withdrawn certs)))) _ _ (λ (r : State × Answer). Contains r.0.withdrawn issuer) (λ _. h) (λ _. h)
  stays_next s (Discards d) issuer h = h
  stays_next s (Forgets channel) issuer h = h
  stays_next s (Expires reading) issuer h = h
  stays_next s (Withdraws other) issuer h =
      cond_both (is_withdrawn s.withdrawn other) _ _ (λ (r : State × Answer). Contains r.0.withdrawn issuer) (λ _. h)
      (λ _. cond_both (nat_le 64 (length s.withdrawn)) _ _ (λ (r : State × Answer). Contains r.0.withdrawn issuer) (λ _. h) (λ _. Contains-append_left s.withdrawn (other ∷ []) issuer h))

  stays_from : (s : State) (j : List Entry) (issuer : ℕ) → Contains s.withdrawn issuer → Contains (state_from plan s j).withdrawn issuer
  stays_from s [] issuer h = h
  stays_from s (e ∷ es) issuer h = stays_from (next plan s e.event).0 es issuer (stays_next s e.event issuer h)

  -- what is told as removed is of an issuer that is withdrawn afterwards
  withdrawn_now : (s : State) (issuer count : ℕ) → Plain (Told.Removed count) ≡ (withdrawing plan issuer s).1 → Contains (withdrawing plan issuer s).0.withdrawn issuer
  withdrawn_now s issuer count =
      cond_both (is_withdrawn s.withdrawn issuer) _ _ (λ (r : State × Answer). Plain (Told.Removed count) ≡ r.1 → Contains r.0.withdrawn issuer)
      (λ is _. Contains-from_any {eq = nat_eq} (λ x y. eqb-true x y) issuer s.withdrawn is)
      (λ _. cond_both (nat_le 64 (length s.withdrawn)) _ _ (λ (r : State × Answer). Plain (Told.Removed count) ≡ r.1 → Contains r.0.withdrawn issuer)
      (λ _ e. let no : ⊥ = cc in absurd no) (λ _ _. Contains-push s.withdrawn issuer))

  -- a withdrawal is told at once
  plain_withdrawn : (s : State) (cache : List Cached) (issuer : ℕ) → Plain (told_of cache (Withdraws issuer) (withdrawing plan issuer s).1) ≡ (withdrawing plan issuer s).1
  plain_withdrawn s cache issuer =
      cond_both (is_withdrawn s.withdrawn issuer) _ _ (λ (r : State × Answer). Plain (told_of cache (Withdraws issuer) r.1) ≡ r.1) (λ _. refl)
      (λ _. cond_both (nat_le 64 (length s.withdrawn)) _ _ (λ (r : State × Answer). Plain (told_of cache (Withdraws issuer) r.1) ≡ r.1) (λ _. refl) (λ _. refl))

  pub from_then : WithdrawnFromThen plan
  from_then journal before more issuer count is legal =
      let s : State = state_after plan before in
      let may = legal before (entry (Withdraws issuer) (Told.Removed count)) more is in
      let plain : Plain (Told.Removed count) ≡ (withdrawing plan issuer s).1 = ap Plain may.tells ∙ plain_withdrawn s (cache_after plan before) issuer in
      subst (λ (t : State). Contains t.withdrawn issuer) (sym (ap (state_after plan) is ∙ state_from-append plan (opened plan) before (entry (Withdraws issuer) (Told.Removed count) ∷ more)))
      (stays_from (withdrawing plan issuer s).0 more issuer (withdrawn_now s issuer count plain))
