-- After a legal journal each kept proof is backed: one lemma for each event.
use Rattle.std.proofs.Common.{◌≡◌, ⊎_elim, ℕ, ◌+◌, ◌-◌, ◌<◌, ◌≤◌, Bool, true, false, not, ◌==◌, nat_le, nat_lt, List, [], ◌∷◌, ◌++◌, length, take, filter, find, All, Contains, Option, Some, None, bytes_eq, refl, sym, ◌∙◌, ap, subst, arith}
use Rattle.std.specs.List.{list_any}
use Rattle.std.proofs.lemmas.Bool.{cond_both, cond-true, cond-false, leb-false, eqb-true, lt-leb, not-true, not-false, and_left, not_from_false, or_parts}
use Rattle.std.proofs.lemmas.List.Elements.{All-nil, All-cons, All-append, All-filter, All-take, All-weaker, filter_passes, filter-append, Contains-append_left, Contains-append_right, Contains-append_cases}
use Rattle.std.proofs.lemmas.Map.Views.{Contains-from_any}
use Rattle.std.proofs.lemmas.Option.{none-some}
use Rattle.prin_term.specs.Principal.{Principal, Key, Name, And, Quoting, InRole, For}
use Rattle.stmt_codec.specs.Certificates.{Certificate, digest_of}
use Rattle.stmt_codec.proofs.Equal.{same_certificate-true}
use Rattle.denial_link.proofs.Members.{Contains-to_filter}
use Rattle.proof_cache.specs.Cached.{Cached, lease_of}
use Rattle.proof_cache.specs.Cache.{cites_issuer, cites_it, has_lapsed, is_for, is_of_channel, speaks_on, to_front, without}
use Rattle.proof_cache.specs.declared.row.TheConstants.{MAX_KEPT}
use Rattle.agent_core.specs.declared.told.Told.{Told}
use Rattle.agent_core.specs.declared.told.DropCause.{DropCause}
use Rattle.agent_core.specs.Held.{admitted, among, channel_of, is_withdrawn, newly}
use Rattle.agent_core.specs.State.{Plan, State, Ask, Event, Asks, Keeps, Holds, Discards, Forgets, Expires, Withdraws, Answer, own_of, held_for, keeping, is_gone, swept, brought, taking, asking, holding, forgetting, withdrawing, without_issuer, settled_by, first_missing, moment_of, next}
use Rattle.agent_core.specs.Caches.{unlapsed, used, used_by, kept_by, left_by, who_at, cache_next}
use Rattle.agent_core.specs.Journals.{Entry, state_after, cache_after, moment_at, told_of, IsMeant, IsKeepable, MayFollow, IsLegalJournal}
use Rattle.agent_core.specs.Laws.{IsBacked, CacheIsBacked}
use Rattle.agent_core.proofs.Clocks.{moment_before, moment_later}
use Rattle.agent_core.proofs.Journaling.{state_from-push, cache_after-push}
use Rattle.agent_core.proofs.Making.{journal_induction}
use Rattle.agent_core.specs.State.{opened}

-- ---- lists

pub All-both : {X : Type 0} (P Q : X → Type 0) (xs : List X) → All P xs → All Q xs → All (λ x. P x × Q x) xs
All-both P Q xs p q = λ k d lt. (p k d lt, q k d lt)

All-of_none : {X : Type 0} (p : X → Bool) (xs : List X) → list_any p xs ≡ false → All (λ x. p x ≡ false) xs
All-of_none p [] h = All-nil (λ x. p x ≡ false)
All-of_none p (x ∷ xs) h =
    let parts : (p x ≡ false) × (list_any p xs ≡ false) = or_parts (p x) (list_any p xs) h in
    All-cons (λ y. p y ≡ false) x xs parts.0 (All-of_none p xs parts.1)

find_cases : {X : Type 0} (p : X → Bool) (x : X) (xs : List X) → find p (x ∷ xs) ≡ None → (find p xs ≡ None → All (λ y. p y ≡ false) xs) →
    (b : Bool) → p x ≡ b → All (λ y. p y ≡ false) (x ∷ xs)
find_cases p x xs h rest true e = absurd (none-some x (sym h ∙ cond-true (p x) (Some x) (find p xs) e))
find_cases p x xs h rest false e = All-cons (λ y. p y ≡ false) x xs e (rest (sym (cond-false (p x) (Some x) (find p xs) e) ∙ h))

-- nothing passes the test
All-of_find : {X : Type 0} (p : X → Bool) (xs : List X) → find p xs ≡ None → All (λ x. p x ≡ false) xs
All-of_find p [] h = All-nil (λ x. p x ≡ false)
All-of_find p (x ∷ xs) h = find_cases p x xs h (All-of_find p xs) (p x) refl

pub Contains-from_among : (certs : List Certificate) (c : Certificate) → among certs c ≡ true → Contains certs c
Contains-from_among certs c h = Contains-from_any same_certificate-true c certs h

-- ---- leases

-- the lease is no later than any end
pub lease_of-least : (cites : List Certificate) → All (λ (c : Certificate). lease_of cites ≤ c.until) cites
lease_of-least [] = All-nil (λ (c : Certificate). lease_of [] ≤ c.until)
lease_of-least (c ∷ cs) =
    All-cons (λ (d : Certificate). lease_of (c ∷ cs) ≤ d.until) c cs (omega arith)
    (All-weaker (λ (d : Certificate). lease_of cs ≤ d.until) (λ (d : Certificate). lease_of (c ∷ cs) ≤ d.until) (λ d h. omega arith) cs (lease_of-least cs))

-- ---- what is held for a subject

own_of-keeping : (p : Certificate → Bool) (m : ℕ) (s : State) (o : Option ℕ) → own_of (keeping p m s) o ≡ filter p (own_of s o)
own_of-keeping p m s None = refl
own_of-keeping p m s (Some c) = refl

held_for-keeping : (p : Certificate → Bool) (m : ℕ) (s : State) (subject : Principal) → held_for (keeping p m s) subject ≡ filter p (held_for s subject)
held_for-keeping p m s subject =
    ap (λ l. l ++ filter p s.commons) (own_of-keeping p m s (channel_of subject)) ∙ sym (filter-append p (own_of s (channel_of subject)) s.commons)

own_of-issued : (issuer : ℕ) (s : State) (o : Option ℕ) → own_of (without_issuer issuer s) o ≡ filter (λ d. not (d.issuer == issuer)) (own_of s o)
own_of-issued issuer s None = refl
own_of-issued issuer s (Some c) = refl

held_for-issued : (issuer : ℕ) (s : State) (subject : Principal) → held_for (without_issuer issuer s) subject ≡ filter (λ d. not (d.issuer == issuer)) (held_for s subject)
held_for-issued issuer s subject =
    ap (λ l. l ++ filter (λ (d : Certificate). not (d.issuer == issuer)) s.commons) (own_of-issued issuer s (channel_of subject))
    ∙ sym (filter-append (λ (d : Certificate). not (d.issuer == issuer)) (own_of s (channel_of subject)) s.commons)

-- a subject that does not speak on a channel has another, or none
other_channel : (channel : ℕ) (s : State) (subject : Principal) → speaks_on channel subject ≡ false → own_of (forgetting channel s) (channel_of subject) ≡ own_of s (channel_of subject)
other_channel channel s (Key k) h = cond-false (k == channel) [] (s.own k) h
other_channel channel s (Name n) h = refl
other_channel channel s (And a b) h = refl
other_channel channel s (Quoting (Key k) q) h = cond-false (k == channel) [] (s.own k) h
other_channel channel s (Quoting (Name n) q) h = refl
other_channel channel s (Quoting (And a b) q) h = refl
other_channel channel s (Quoting (Quoting a b) q) h = refl
other_channel channel s (Quoting (InRole a r) q) h = refl
other_channel channel s (Quoting (For a b) q) h = refl
other_channel channel s (InRole a r) h = refl
other_channel channel s (For a b) h = refl

module _ (plan : Plan) where
  -- more is held, and the clock stands
  backed_more : (s t : State) (c : Cached) → t.clock ≡ s.clock → ((d : Certificate) → Contains (held_for s c.subject) d → Contains (held_for t c.subject) d) →
      IsBacked plan s c → IsBacked plan t c
  backed_more s t c same more b = record {
    held = All-weaker (Contains (held_for s c.subject)) (Contains (held_for t c.subject)) more c.cites b.held;
    begun = subst (λ n. All (λ (x : Certificate). x.from ≤ n) c.cites) (sym same) b.begun;
    ahead = subst (λ n. n < c.lease) (sym same) b.ahead;
    lease_is = b.lease_is;
    proves = b.proves;
  }

  -- each cite passes
  backed_keeping : (p : Certificate → Bool) (m : ℕ) (s : State) (c : Cached) → s.clock ≤ m → m < c.lease → All (λ d. p d ≡ true) c.cites → IsBacked plan s c → IsBacked plan (keeping p m s) c
  backed_keeping p m s c later ahead pass b = record {
    held = subst (λ l. All (Contains l) c.cites) (sym (held_for-keeping p m s c.subject))
        (All-weaker (λ d. (p d ≡ true) × Contains (held_for s c.subject) d) (Contains (filter p (held_for s c.subject)))
        (λ d h. Contains-to_filter p (held_for s c.subject) d h.1 h.0) c.cites
        (All-both (λ d. p d ≡ true) (Contains (held_for s c.subject)) c.cites pass b.held));
    begun = All-weaker (λ (x : Certificate). x.from ≤ s.clock) (λ (x : Certificate). x.from ≤ m) (λ x le. omega (arith, le, later)) c.cites b.begun;
    ahead = ahead;
    lease_is = b.lease_is;
    proves = b.proves;
  }

  not_gone : (keep moment : ℕ) (d : Certificate) → moment < d.until → not (is_gone keep moment d) ≡ true
  not_gone keep moment d h =
      not_from_false (is_gone keep moment d) (and_left (nat_le d.until moment) (nat_le keep (moment - d.until)) (lt-leb d.until moment h))

  backed_swept : (keep moment : ℕ) (s : State) → s.clock ≤ moment → (c : Cached) → (not (has_lapsed moment c) ≡ true) × IsBacked plan s c → IsBacked plan (swept keep moment s) c
  backed_swept keep moment s later c (t, b) =
      let ahead : moment < c.lease = leb-false c.lease moment (not-true (has_lapsed moment c) t) in
      let late : All (λ (d : Certificate). c.lease ≤ d.until) c.cites =
      subst (λ n. All (λ (d : Certificate). n ≤ d.until) c.cites) (sym b.lease_is) (lease_of-least c.cites) in
      backed_keeping (λ d. not (is_gone keep moment d)) moment s c later ahead
      (All-weaker (λ (d : Certificate). c.lease ≤ d.until) (λ d. not (is_gone keep moment d) ≡ true) (λ d h. not_gone keep moment d (omega (arith, ahead, h))) c.cites late) b

  pub unlapsed_swept : (keep moment : ℕ) (s : State) (cache : List Cached) → s.clock ≤ moment → All (IsBacked plan s) cache → All (IsBacked plan (swept keep moment s)) (unlapsed moment cache)
  unlapsed_swept keep moment s cache later all =
      All-weaker (λ c. (not (has_lapsed moment c) ≡ true) × IsBacked plan s c) (IsBacked plan (swept keep moment s)) (backed_swept keep moment s later) (unlapsed moment cache)
      (All-both (λ c. not (has_lapsed moment c) ≡ true) (IsBacked plan s) (unlapsed moment cache) (filter_passes (λ c. not (has_lapsed moment c)) cache)
      (All-filter (λ c. not (has_lapsed moment c)) (IsBacked plan s) cache all))

  -- ---- an Ask, at a state that was swept for it

  more_own : (s : State) (a : Ask) (o : Option ℕ) (d : Certificate) → Contains (own_of s o) d → Contains (own_of (taking s a) o) d
  more_own s a None d h = h
  more_own s a (Some c) d h =
      cond_both (c == a.channel) (s.own a.channel ++ brought s a) (s.own c) (λ l. Contains l d)
      (λ e. Contains-append_left (s.own a.channel) (brought s a) d (subst (λ k. Contains (s.own k) d) (eqb-true c a.channel e) h)) (λ e. h)

  pub own_more : (own own' commons : List Certificate) → ((d : Certificate) → Contains own d → Contains own' d) →
      (d : Certificate) → Contains (own ++ commons) d → Contains (own' ++ commons) d
  own_more own own' commons more d h =
      ⊎_elim (λ l. Contains-append_left own' commons d (more d l)) (λ r. Contains-append_right own' commons d r) (Contains-append_cases own commons d h)

  backed_taking : (s : State) (a : Ask) (c : Cached) → IsBacked plan s c → IsBacked plan (taking s a) c
  backed_taking s a c b =
      backed_more s (taking s a) c refl
      (own_more (own_of s (channel_of c.subject)) (own_of (taking s a) (channel_of c.subject)) s.commons (more_own s a (channel_of c.subject))) b

  -- the state after is at the same clock and backs as much
  abbrev Backs : State → State → Type 0
  Backs s t = (t.clock ≡ s.clock) × ((c : Cached) → IsBacked plan s c → IsBacked plan t c)

  backs_itself : (s : State) → Backs s s
  backs_itself s = (refl, λ c b. b)

  asking_backs : (s : State) (a : Ask) → Backs s (asking s a).0
  asking_backs s a =
      cond_both (nat_le a.seq (s.last a.channel)) _ _ (λ (r : State × Answer). Backs s r.0)
      (λ e. backs_itself s)
      (λ e. cond_both (nat_lt 32 (length (s.own a.channel) + length (brought s a))) _ _ (λ (r : State × Answer). Backs s r.0)
      (λ f. backs_itself s) (λ f. (refl, backed_taking s a)))

  All-to_front : (P : Cached → Type 0) (test : Cached → Bool) (cache : List Cached) → All P cache → All P (to_front test cache)
  All-to_front P test cache all =
      All-append P (filter test cache) (without test cache) (All-filter test P cache all) (All-filter (λ c. not (test c)) P cache all)

  All-used : (P : Cached → Type 0) (subject : Principal) (o : Option Principal) (cache : List Cached) → All P cache → All P (used subject o cache)
  All-used P subject None cache all = all
  All-used P subject (Some who) cache all = All-to_front P (is_for subject who) cache all

  All-used_by : (P : Cached → Type 0) (a : Ask) (told : Told) (cache : List Cached) → All P cache → All P (used_by a told cache)
  All-used_by P a (Told.Hit e) cache all = All-used P a.subject (who_at a.list e) cache all
  All-used_by P a _ cache all = all

  -- ---- a Hold

  holding_backs : (s : State) (new : List Certificate) → Backs s (holding s new).0
  holding_backs s new =
      cond_both (nat_lt 32 (length s.commons + length new)) _ _ (λ (r : State × Answer). Backs s r.0)
      (λ e. backs_itself s)
      (λ e. (
        refl,
        λ c b. backed_more s (record { clock = s.clock; last = s.last; own = s.own; commons = s.commons ++ new; withdrawn = s.withdrawn }) c refl
            (λ d h. ⊎_elim (λ l. Contains-append_left (own_of s (channel_of c.subject)) (s.commons ++ new) d l)
            (λ r. Contains-append_right (own_of s (channel_of c.subject)) (s.commons ++ new) d (Contains-append_left s.commons new d r))
            (Contains-append_cases (own_of s (channel_of c.subject)) s.commons d h)) b,
      ))

  -- ---- a Forget

  backed_forgetting : (channel : ℕ) (s : State) (c : Cached) → is_of_channel channel c ≡ false → IsBacked plan s c → IsBacked plan (forgetting channel s) c
  backed_forgetting channel s c h b = record {
    held = subst (λ l. All (Contains (l ++ s.commons)) c.cites) (sym (other_channel channel s c.subject h)) b.held;
    begun = b.begun;
    ahead = b.ahead;
    lease_is = b.lease_is;
    proves = b.proves;
  }

  -- what passes, by a test that says so
  All-without : (test : Cached → Bool) (s t : State) (cache : List Cached) →
      ((c : Cached) → test c ≡ false → IsBacked plan s c → IsBacked plan t c) → All (IsBacked plan s) cache → All (IsBacked plan t) (without test cache)
  All-without test s t cache go all =
      All-weaker (λ c. (not (test c) ≡ true) × IsBacked plan s c) (IsBacked plan t) (λ c h. go c (not-true (test c) h.0) h.1) (without test cache)
      (All-both (λ c. not (test c) ≡ true) (IsBacked plan s) (without test cache) (filter_passes (λ c. not (test c)) cache)
      (All-filter (λ c. not (test c)) (IsBacked plan s) cache all))

  -- ---- a Discard

  backed_discarding : (digest : List ℕ) (s : State) (c : Cached) → cites_it digest c ≡ false → IsBacked plan s c → IsBacked plan (keeping (λ x. not (bytes_eq (digest_of x) digest)) s.clock s) c
  backed_discarding digest s c h b =
      backed_keeping (λ x. not (bytes_eq (digest_of x) digest)) s.clock s c (omega arith) b.ahead
      (All-weaker (λ x. bytes_eq (digest_of x) digest ≡ false) (λ x. not (bytes_eq (digest_of x) digest) ≡ true) (λ x e. not_from_false (bytes_eq (digest_of x) digest) e) c.cites
      (All-of_none (λ x. bytes_eq (digest_of x) digest) c.cites h)) b

  -- ---- a Withdraw

  backed_withdrawing : (issuer : ℕ) (s : State) (c : Cached) → cites_issuer issuer c ≡ false → IsBacked plan s c → IsBacked plan (without_issuer issuer s) c
  backed_withdrawing issuer s c h b =
      let p : Certificate → Bool = λ d. not (d.issuer == issuer) in
      let pass : All (λ (d : Certificate). p d ≡ true) c.cites =
      All-weaker (λ (d : Certificate). (d.issuer == issuer) ≡ false) (λ (d : Certificate). p d ≡ true) (λ d e. not_from_false (d.issuer == issuer) e) c.cites
      (All-of_none (λ (d : Certificate). d.issuer == issuer) c.cites h) in
      record {
        held = subst (λ l. All (Contains l) c.cites) (sym (held_for-issued issuer s c.subject))
            (All-weaker (λ d. (p d ≡ true) × Contains (held_for s c.subject) d) (Contains (filter p (held_for s c.subject)))
            (λ d k. Contains-to_filter p (held_for s c.subject) d k.1 k.0) c.cites
            (All-both (λ d. p d ≡ true) (Contains (held_for s c.subject)) c.cites pass b.held));
        begun = b.begun;
        ahead = b.ahead;
        lease_is = b.lease_is;
        proves = b.proves;
      }

  -- what is kept after a withdrawal, by what was told of it
  left_backed : (issuer : ℕ) (s : State) (told : Told) (cache : List Cached) → All (IsBacked plan s) cache →
      told ≡ told_of cache (Withdraws issuer) (withdrawing plan issuer s).1 → All (IsBacked plan (withdrawing plan issuer s).0) (left_by issuer told cache)
  left_backed issuer s told cache all =
      cond_both (is_withdrawn s.withdrawn issuer) _ _ (λ (r : State × Answer). told ≡ told_of cache (Withdraws issuer) r.1 → All (IsBacked plan r.0) (left_by issuer told cache))
      (λ _ e. subst (λ t. All (IsBacked plan s) (left_by issuer t cache)) (sym e) (All-filter (λ c. not (cites_issuer issuer c)) (IsBacked plan s) cache all))
      (λ _. cond_both (nat_le 64 (length s.withdrawn)) _ _ (λ (r : State × Answer). told ≡ told_of cache (Withdraws issuer) r.1 → All (IsBacked plan r.0) (left_by issuer told cache))
      (λ _ e. subst (λ t. All (IsBacked plan s) (left_by issuer t cache)) (sym e) all)
      (λ _ e. subst (λ t. All (IsBacked plan (without_issuer issuer s)) (left_by issuer t cache)) (sym e)
      (All-without (cites_issuer issuer) s (without_issuer issuer s) cache (backed_withdrawing issuer s) all)))

  -- ---- a Keep

  settled_kept : (o : Option Certificate) (clock lease : ℕ) → Told.Kept ≡ settled_by o clock lease → (o ≡ None) × (clock < lease)
  settled_kept (Some x) clock lease e = let no : ⊥ = cc in absurd no
  settled_kept None clock lease e = (
    refl,
    cond_both (nat_le lease clock) (Told.Dropped (DropCause.Lapsed clock lease)) Told.Kept (λ t. Told.Kept ≡ t → clock < lease)
        (λ h k. let no : ⊥ = cc in absurd no) (λ h k. leb-false lease clock h) e,
  )

  backed_kept : (s : State) (before : List Entry) (ask e : ℕ) (c : Cached) → moment_at plan before ask ≤ s.clock → IsKeepable plan before ask e c → Told.Kept ≡ settled_by (first_missing s c) s.clock c.lease → IsBacked plan s c
  backed_kept s before ask e c later k told =
      let (none, ahead) = settled_kept (first_missing s c) s.clock c.lease told in
      record {
        held = All-weaker (λ d. not (among (held_for s c.subject) d) ≡ false) (Contains (held_for s c.subject))
            (λ d h. Contains-from_among (held_for s c.subject) d (not-false (among (held_for s c.subject) d) h)) c.cites
            (All-of_find (λ d. not (among (held_for s c.subject) d)) c.cites none);
        begun = All-weaker (λ (x : Certificate). x.from ≤ moment_at plan before ask) (λ (x : Certificate). x.from ≤ s.clock) (λ x le. omega (arith, le, later)) c.cites k.begun;
        ahead = ahead;
        lease_is = k.lease_is;
        proves = k.proves;
      }

  All-kept_by : (s : State) (c : Cached) (told : Told) (cache : List Cached) → (Told.Kept ≡ told → IsBacked plan s c) → All (IsBacked plan s) cache → All (IsBacked plan s) (kept_by c told cache)
  All-kept_by s c Told.Kept cache b all =
      All-cons (IsBacked plan s) c (take (MAX_KEPT - 1) (without (is_for c.subject c.who) cache)) (b refl)
      (All-take (IsBacked plan s) (MAX_KEPT - 1) (without (is_for c.subject c.who) cache) (All-filter (λ d. not (is_for c.subject c.who d)) (IsBacked plan s) cache all))
  All-kept_by s c _ cache b all = all

  -- ---- any event

  backed_next : (s : State) (cache : List Cached) (before : List Entry) (event : Event) (told : Told) → ((place : ℕ) → moment_at plan before place ≤ s.clock) → IsMeant plan before event →
      told ≡ told_of cache event (next plan s event).1 → All (IsBacked plan s) cache →
      All (IsBacked plan (next plan s event).0) (cache_next (next plan s event).0.clock event told cache)
  backed_next s cache before (Asks a) told earlier meant tells all =
      let m : ℕ = moment_of s a.reading in
      let t : State = swept plan.keep m s in
      let backs : Backs t (asking t a).0 = asking_backs t a in
      All-used_by (IsBacked plan (asking t a).0) a told (unlapsed (asking t a).0.clock cache)
      (subst (λ n. All (IsBacked plan (asking t a).0) (unlapsed n cache)) (sym backs.0)
      (All-weaker (IsBacked plan t) (IsBacked plan (asking t a).0) backs.1 (unlapsed m cache) (unlapsed_swept plan.keep m s cache (moment_later s a.reading) all)))
  backed_next s cache before (Keeps ask e c) told earlier meant tells all =
      All-kept_by s c told cache (λ k. backed_kept s before ask e c (earlier ask) meant (k ∙ tells)) all
  backed_next s cache before (Holds certs) told earlier meant tells all =
      let new : List Certificate = newly s.commons (admitted s.withdrawn certs) in
      let backs : Backs s (holding s new).0 = holding_backs s new in
      All-weaker (IsBacked plan s) (IsBacked plan (holding s new).0) backs.1 cache all
  backed_next s cache before (Discards d) told earlier meant tells all =
      All-without (cites_it d) s (keeping (λ x. not (bytes_eq (digest_of x) d)) s.clock s) cache (backed_discarding d s) all
  backed_next s cache before (Forgets channel) told earlier meant tells all =
      All-without (is_of_channel channel) s (forgetting channel s) cache (backed_forgetting channel s) all
  backed_next s cache before (Expires reading) told earlier meant tells all =
      unlapsed_swept plan.keep (moment_of s reading) s cache (moment_later s reading) all
  backed_next s cache before (Withdraws issuer) told earlier meant tells all = left_backed issuer s told cache all tells

  abbrev Backed : List Entry → Type 0
  Backed j = All (IsBacked plan (state_after plan j)) (cache_after plan j)

  backed_entry : (j : List Entry) (e : Entry) → IsLegalJournal plan j → Backed j → MayFollow plan j e → Backed (j ++ e ∷ [])
  backed_entry j e legal all may =
      subst (λ s. All (IsBacked plan s) (cache_after plan (j ++ e ∷ []))) (sym (state_from-push plan (opened plan) j e))
      (subst (λ (cs : List Cached). All (IsBacked plan (next plan (state_after plan j) e.event).0) cs) (sym (cache_after-push plan j e))
      (backed_next (state_after plan j) (cache_after plan j) j e.event e.told (moment_before plan j) may.meant may.tells all))

  pub cache_backed : CacheIsBacked plan
  cache_backed j legal = journal_induction plan Backed backed_entry (All-nil (IsBacked plan (state_after plan []))) j legal
