-- What a shard holds under the load of a drill, and what its Asks are judged by.
use Rattle.std.proofs.Common.{◌≡◌, ◌⊎◌, ℕ, ◌+◌, ◌<◌, ◌≤◌, max, Bool, false, not, ◌==◌, nat_le, nat_lt, List, [], ◌∷◌, ◌++◌, length, filter, refl, sym, ◌∙◌, ap, ap₂, subst, inl, inr, arith}
use Rattle.std.proofs.lemmas.Bool.{cond-true, cond_both, eqb-true, eq-eqb, false≢true, lt-leb, or_left}
use Rattle.std.proofs.lemmas.Option.{none-some, same_Some, slice_get_within}
use Rattle.prin_term.specs.View.{Grant}
use Rattle.stmt_codec.specs.Certificates.{Certificate}
use Rattle.stmt_codec.specs.Equality.{same_certificate}
use Rattle.stmt_codec.proofs.Equal.{same_certificate-itself}
use Rattle.proof_cache.specs.Cached.{Cached}
use Rattle.agent_core.specs.declared.told.Told.{Told}
use Rattle.agent_core.specs.Held.{admitted, among, newly}
use Rattle.agent_core.specs.State.{ask_in, Plan, State, Ask, Event, Asks, Keeps, Answer, Judged, opened, at_channel, is_gone, swept, brought, asking, next}
use Rattle.agent_core.specs.Journals.{Entry, entry, state_after, IsJudged}
use Rattle.agent_core.proofs.Journaling.{state_from-push, slice_front}
use Rattle.taos_drill.specs.Sent.{drill_certificate}
use Rattle.node_journals.specs.Load.{load_ask, AsksAt, IsLoadEntry, asks, keeps, IsLoadJournal}
use Rattle.node_journals.proofs.Fronts.{each_front, push_cases, at_front}

-- what a shard holds after a front of such a journal
pub record IsLoadState (j : List Entry) (s : State) : Type 0 where
  pub clock : s.clock ≤ 1000
  pub commons : s.commons ≡ []
  pub withdrawn : s.withdrawn ≡ []
  pub own : (k : ℕ) → (s.own k ≡ []) ⊎ (s.own k ≡ drill_certificate k ∷ [])
  -- a number above those of all Asks of a channel is above its last one
  pub last : (k n : ℕ) → 0 < n → ((p m : ℕ) (list : List Grant) (t : Told) → AsksAt j p k m list t → m < n) → s.last k < n
  -- a channel that asked holds its certificate
  pub asked : (p k m : ℕ) (list : List Grant) (t : Told) → AsksAt j p k m list t → s.own k ≡ drill_certificate k ∷ []

-- two entries of Asks that are one are of one Ask
pub same_ask : (a b : Ask) (t u : Told) → entry (Asks a) t ≡ entry (Asks b) u → a ≡ b
same_ask a b t u e = same_Some a b (ap (λ (x : Entry). ask_in x.event) e)

-- no proof that is to be kept is an Ask
pub not_ask : (a : Ask) (at e : ℕ) (c : Cached) (t u : Told) → entry (Keeps at e c) u ≡ entry (Asks a) t → ⊥
not_ask a at e c t u h = none-some a (ap (λ (x : Entry). ask_in x.event) h)

-- what is told of two entries that are one
pub same_told : (a b : Event) (t u : Told) → entry a t ≡ entry b u → t ≡ u
same_told a b t u e = ap (λ (x : Entry). x.told) e

held_it : (c : Certificate) → newly (c ∷ []) (c ∷ []) ≡ []
held_it c = cond-true (among (c ∷ []) c) [] (c ∷ []) (or_left (same_certificate c c) false (same_certificate-itself c))

-- ---- one Ask

module _ (k n : ℕ) (list : List Grant) where
  abbrev cert : Certificate
  cert = drill_certificate k

  abbrev this : Ask
  this = load_ask k n list

  module _ (t : State) (clock : t.clock ≡ 1000) (commons : t.commons ≡ []) (withdrawn : t.withdrawn ≡ []) (own : (t.own k ≡ []) ⊎ (t.own k ≡ cert ∷ [])) (new : t.last k < n) where
    abbrev all_of : List Certificate → List Certificate → List ℕ → List Certificate
    all_of o w v = o ++ newly (o ++ w) (admitted v (cert ∷ []))

    abbrev too_many : List Certificate → List Certificate → List ℕ → Bool
    too_many o w v = nat_lt 32 (length o + length (newly (o ++ w) (admitted v (cert ∷ []))))

    holds_it : t.own k ++ brought t this ≡ cert ∷ []
    holds_it =
        elim own [
          | inl e ↦ ap₂ (λ o w. all_of o w t.withdrawn) e commons ∙ ap (all_of [] []) withdrawn
          | inr e ↦ ap₂ (λ o w. all_of o w t.withdrawn) e commons ∙ ap (all_of (cert ∷ []) []) withdrawn ∙ ap (λ l. cert ∷ l) (held_it cert)
        ]

    fits : nat_lt 32 (length (t.own k) + length (brought t this)) ≡ false
    fits =
        elim own [
          | inl e ↦ ap₂ (λ o w. too_many o w t.withdrawn) e commons ∙ ap (too_many [] []) withdrawn
          | inr e ↦ ap₂ (λ o w. too_many o w t.withdrawn) e commons ∙ ap (too_many (cert ∷ []) []) withdrawn ∙ ap (λ (l : List Certificate). nat_lt 32 (length (cert ∷ []) + length l)) (held_it cert)
        ]

    abbrev after_with : List Certificate → ℕ → List Certificate → State × Answer
    after_with l m w = (record { clock = t.clock; last = at_channel k n t.last; own = at_channel k l t.own; commons = t.commons; withdrawn = t.withdrawn }, Judged m (l ++ w))

    taken : asking t this ≡ after_with (cert ∷ []) 1000 []
    taken =
        cond_both (nat_le n (t.last k)) _ _ (λ (r : State × Answer). r ≡ after_with (cert ∷ []) 1000 [])
        (λ e. absurd (false≢true (sym (lt-leb n (t.last k) new) ∙ e)))
        (λ _. cond_both (nat_lt 32 (length (t.own k) + length (brought t this))) _ _ (λ (r : State × Answer). r ≡ after_with (cert ∷ []) 1000 [])
        (λ e. absurd (false≢true (sym fits ∙ e)))
        (λ _. ap (λ (l : List Certificate). after_with l t.clock t.commons) holds_it
        ∙ (ap (λ (m : ℕ). after_with (cert ∷ []) m t.commons) clock ∙ ap (λ (w : List Certificate). after_with (cert ∷ []) 1000 w) commons)))

  module _ (plan : Plan) (j : List Entry) (s : State) (is : IsLoadState j s) (new : s.last k < n) where
    abbrev sweeping : List Certificate → List Certificate
    sweeping o = filter (λ x. not (is_gone plan.keep 1000 x)) o

    -- no certificate of the load is gone
    stays : (c : ℕ) (o : List Certificate) → (o ≡ []) ⊎ (o ≡ drill_certificate c ∷ []) → sweeping o ≡ o
    stays c o h =
        elim h [
          | inl e ↦ subst (λ (l : List Certificate). sweeping l ≡ l) (sym e) refl
          | inr e ↦ subst (λ (l : List Certificate). sweeping l ≡ l) (sym e) refl
        ]

    still : (c : ℕ) → (sweeping (s.own c) ≡ []) ⊎ (sweeping (s.own c) ≡ drill_certificate c ∷ [])
    still c =
        let same : sweeping (s.own c) ≡ s.own c = stays c (s.own c) (is.own c) in
        elim (is.own c) [ inl e ↦ inl (same ∙ e) | inr e ↦ inr (same ∙ e) ]

    none_common : sweeping s.commons ≡ []
    none_common = ap sweeping is.commons

    abbrev pub after_ask : State
    after_ask = record { clock = 1000; last = at_channel k n s.last; own = at_channel k (cert ∷ []) (λ c. sweeping (s.own c)); commons = sweeping s.commons; withdrawn = s.withdrawn }

    moment : max s.clock 1000 ≡ 1000
    moment = let early : s.clock ≤ 1000 = is.clock in omega arith

    pub next_ask : next plan s (Asks this) ≡ (after_ask, Judged 1000 (cert ∷ []))
    next_ask =
        subst (λ (m : ℕ). asking (swept plan.keep m s) this ≡ (after_ask, Judged 1000 (cert ∷ []))) (sym moment)
        (taken (swept plan.keep 1000 s) refl none_common is.withdrawn (still k) new)

    pub after_ask_holds : (told : Told) → IsLoadState (j ++ entry (Asks this) told ∷ []) after_ask
    after_ask_holds told = record {
      clock = omega arith;
      commons = none_common;
      withdrawn = is.withdrawn;
      own = λ c. cond_both (c == k) (cert ∷ []) (sweeping (s.own c)) (λ (l : List Certificate). (l ≡ []) ⊎ (l ≡ drill_certificate c ∷ []))
          (λ e. inr (ap (λ x. drill_certificate x ∷ []) (sym (eqb-true c k e)))) (λ _. still c);
      last = λ c m pos below. cond_both (c == k) n (s.last c) (λ l. l < m)
          (λ e. subst (λ (x : ℕ). (p i : ℕ) (l : List Grant) (t : Told) → AsksAt (j ++ entry (Asks this) told ∷ []) p x i l t → i < m) (eqb-true c k e) below (length j) n list told
          (at_front (j ++ entry (Asks this) told ∷ []) j (entry (Asks this) told) [] refl))
          (λ _. is.last c m pos (λ p i l t at. below p i l t (slice_front j (entry (Asks this) told ∷ []) p (entry (Asks (load_ask c i l)) t) at)));
      asked = λ p c m l t at.
          elim (push_cases j (entry (Asks this) told) p (entry (Asks (load_ask c m l)) t) at) [
            | inl there ↦ cond_both (c == k) (cert ∷ []) (sweeping (s.own c)) (λ (x : List Certificate). x ≡ drill_certificate c ∷ [])
                (λ e. ap (λ x. drill_certificate x ∷ []) (sym (eqb-true c k e)))
                (λ _. stays c (s.own c) (is.own c) ∙ is.asked p c m l t there)
            | inr w ↦
                let same : k ≡ c = ap (λ (a : Ask). a.channel) (same_ask this (load_ask c m l) told t w.1) in
                cond-true (c == k) (cert ∷ []) (sweeping (s.own c)) (eq-eqb c k (sym same)) ∙ ap (λ x. drill_certificate x ∷ []) same
          ];
    }

-- a proof that is to be kept changes nothing that is held
after_keep_holds : (j : List Entry) (s : State) (at e : ℕ) (c : Cached) (told : Told) → IsLoadState j s → IsLoadState (j ++ entry (Keeps at e c) told ∷ []) s
after_keep_holds j s at e c told is = record {
  clock = is.clock;
  commons = is.commons;
  withdrawn = is.withdrawn;
  own = is.own;
  last = λ k n pos below. is.last k n pos (λ p i l t there. below p i l t (slice_front j (entry (Keeps at e c) told ∷ []) p (entry (Asks (load_ask k i l)) t) there));
  asked = λ p k m l t here.
      elim (push_cases j (entry (Keeps at e c) told) p (entry (Asks (load_ask k m l)) t) here) [
        | inl there ↦ is.asked p k m l t there
        | inr w ↦ absurd (not_ask (load_ask k m l) at e c t told w.1)
      ];
}

-- ---- the whole journal

module _ (plan : Plan) (journal : List Entry) (load : IsLoadJournal plan journal) where
  -- the number of an Ask is new
  pub number_is_new : (front rest : List Entry) (k n : ℕ) (list : List Grant) (told : Told) → journal ≡ front ++ entry (Asks (load_ask k n list)) told ∷ rest →
      IsLoadState front (state_after plan front) → (state_after plan front).last k < n
  number_is_new front rest k n list told is state =
      let here : AsksAt journal (length front) k n list told = at_front journal front (entry (Asks (load_ask k n list)) told) rest is in
      state.last k n (load.first (length front) k n list told here)
      (λ p m l t at. load.rising p (length front) k m n l list t told (slice_get_within front p (entry (Asks (load_ask k m l)) t) at)
      (subst (λ (x : List Entry). AsksAt x p k m l t) (sym is) (slice_front front (entry (Asks (load_ask k n list)) told ∷ rest) p (entry (Asks (load_ask k m l)) t) at)) here)

  abbrev Holds : List Entry → Type 0
  Holds front = IsLoadState front (state_after plan front)

  after_asks : (front rest : List Entry) (k n : ℕ) (list : List Grant) (told : Told) → journal ≡ front ++ entry (Asks (load_ask k n list)) told ∷ rest →
      Holds front → Holds (front ++ entry (Asks (load_ask k n list)) told ∷ [])
  after_asks front rest k n list told is state =
      let s : State = state_after plan front in
      let new : s.last k < n = number_is_new front rest k n list told is state in
      subst (IsLoadState (front ++ entry (Asks (load_ask k n list)) told ∷ []))
      (sym (state_from-push plan (opened plan) front (entry (Asks (load_ask k n list)) told) ∙ ap (λ (r : State × Answer). r.0) (next_ask k n list plan front s state new)))
      (after_ask_holds k n list plan front s state new told)

  after_keeps : (front : List Entry) (at e : ℕ) (c : Cached) (told : Told) → Holds front → Holds (front ++ entry (Keeps at e c) told ∷ [])
  after_keeps front at e c told state =
      subst (IsLoadState (front ++ entry (Keeps at e c) told ∷ [])) (sym (state_from-push plan (opened plan) front (entry (Keeps at e c) told)))
      (after_keep_holds front (state_after plan front) at e c told state)

  after_one : (front : List Entry) (x : Entry) (rest : List Entry) → journal ≡ front ++ x ∷ rest → IsLoadEntry plan journal (length front) → Holds front → Holds (front ++ x ∷ [])
  after_one front x rest is (asks {channel = k} {seq = n} {list} {told} l at) state =
      let same : entry (Asks (load_ask k n list)) told ≡ x = same_Some (entry (Asks (load_ask k n list)) told) x (sym at ∙ at_front journal front x rest is) in
      subst (λ (y : Entry). Holds (front ++ y ∷ [])) same
      (after_asks front rest k n list told (is ∙ ap (λ y. front ++ y ∷ rest) (sym same)) state)
  after_one front x rest is (keeps {at = p} {e} {c} {told} l g at) state =
      let same : entry (Keeps p e c) told ≡ x = same_Some (entry (Keeps p e c) told) x (sym at ∙ at_front journal front x rest is) in
      subst (λ (y : Entry). Holds (front ++ y ∷ [])) same (after_keeps front p e c told state)

  none_yet : Holds []
  none_yet = record {
    clock = omega arith;
    commons = load.planned.commons;
    withdrawn = refl;
    own = λ k. inl refl;
    last = λ k n pos below. pos;
    asked = λ p k m l t at. absurd (none-some (entry (Asks (load_ask k m l)) t) at);
  }

  pub load_state : (front rest : List Entry) → journal ≡ front ++ rest → Holds front
  load_state =
      each_front journal Holds
      (λ front x rest is state. after_one front x rest is
      (load.entries (length front) (slice_get_within journal (length front) x (at_front journal front x rest is))) state)
      none_yet

  -- an Ask is judged by its channel's certificate alone
  pub load_judged : (front rest : List Entry) (k n : ℕ) (list : List Grant) (told : Told) → journal ≡ front ++ entry (Asks (load_ask k n list)) told ∷ rest →
      IsJudged plan front (load_ask k n list) 1000 (drill_certificate k ∷ [])
  load_judged front rest k n list told is =
      let state : Holds front = load_state front (entry (Asks (load_ask k n list)) told ∷ rest) is in
      ap (λ (r : State × Answer). r.1) (next_ask k n list plan front (state_after plan front) state (number_is_new front rest k n list told is state))

  -- after it the clock stands at its moment
  pub load_clock : (front rest : List Entry) (k n : ℕ) (list : List Grant) (told : Told) → journal ≡ front ++ entry (Asks (load_ask k n list)) told ∷ rest →
      (next plan (state_after plan front) (Asks (load_ask k n list))).0.clock ≡ 1000
  load_clock front rest k n list told is =
      let state : Holds front = load_state front (entry (Asks (load_ask k n list)) told ∷ rest) is in
      ap (λ (r : State × Answer). r.0.clock) (next_ask k n list plan front (state_after plan front) state (number_is_new front rest k n list told is state))
