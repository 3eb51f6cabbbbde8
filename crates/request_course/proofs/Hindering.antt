-- What is told of an Ask, a Hold or a Withdraw for want of a new number or of room, by the state that it meets.
use Rattle.std.proofs.Common.{◌≡◌, ℕ, ◌+◌, ◌<◌, ◌≤◌, false, Option, None, Some, List, length, nat_lt, refl, sym, subst}
use Rattle.std.specs.Prelude.{nat_le}
use Rattle.std.proofs.lemmas.Bool.{cond_both, leb-true, ltb-true}
use Rattle.std.proofs.lemmas.Option.{same_Some}
use Rattle.proof_cache.specs.Cached.{Cached}
use Rattle.object_core.specs.Operation.{Op, Hold, Discard, Forget, Sweep, Withdraw}
use Rattle.stmt_codec.specs.Certificates.{Certificate}
use Rattle.agent_core.specs.declared.limits.TheConstants.{MAX_OWN, MAX_COMMONS, MAX_WITHDRAWN}
use Rattle.agent_core.specs.declared.told.Told.{Told}
use Rattle.agent_core.specs.Caches.{hit_or_miss, first_hit, unlapsed}
use Rattle.agent_core.specs.Held.{is_withdrawn}
use Rattle.agent_core.specs.State.{Plan, State, Ask, Event, Asks, Holds, Discards, Withdraws, Answer, asking, brought, holding, withdrawing, new_commons}
use Rattle.agent_core.specs.Journals.{Entry, state_after, cache_after, told_of, told_at}
use Rattle.request_course.specs.Operations.{effect_of}

never_replayed : (o : Option ℕ) (last : ℕ) → hit_or_miss o ≡ Told.Replayed last → ⊥
never_replayed None last e = cc
never_replayed (Some k) last e = cc

never_full : (o : Option ℕ) (held : ℕ) → hit_or_miss o ≡ Told.Full held → ⊥
never_full None held e = cc
never_full (Some k) held e = cc

same_last : (a b : ℕ) → Told.Replayed a ≡ Told.Replayed b → a ≡ b
same_last a b e = cc

same_held : (a b : ℕ) → Told.Full a ≡ Told.Full b → a ≡ b
same_held a b e = cc

same_commons : (a b : ℕ) → Told.CommonsFull a ≡ Told.CommonsFull b → a ≡ b
same_commons a b e = cc

same_issuers : (a b : ℕ) → Told.WithdrawnFull a ≡ Told.WithdrawnFull b → a ≡ b
same_issuers a b e = cc

module _ (cache : List Cached) (s : State) (a : Ask) where
  -- the number is not above the last one, which is told
  pub used_number : (last : ℕ) → told_of cache (Asks a) (asking s a).1 ≡ Told.Replayed last → (s.last a.channel ≡ last) × (a.seq ≤ s.last a.channel)
  used_number last =
      cond_both (nat_le a.seq (s.last a.channel)) _ _ (λ (r : State × Answer). told_of cache (Asks a) r.1 ≡ Told.Replayed last → (s.last a.channel ≡ last) × (a.seq ≤ s.last a.channel))
      (λ is e. (same_last (s.last a.channel) last e, leb-true a.seq (s.last a.channel) is))
      (λ _. cond_both (nat_lt MAX_OWN (length (s.own a.channel) + length (brought s a))) _ _ (λ (r : State × Answer). told_of cache (Asks a) r.1 ≡ Told.Replayed last → (s.last a.channel ≡ last) × (a.seq ≤ s.last a.channel))
      (λ _ e. let no : ⊥ = cc in absurd no)
      (λ _ e. absurd (never_replayed (first_hit (unlapsed s.clock cache) a) last e)))

  -- there is no room for what is presented, and how many are held is told
  pub too_many : (held : ℕ) → told_of cache (Asks a) (asking s a).1 ≡ Told.Full held → (length (s.own a.channel) ≡ held) × (MAX_OWN < length (s.own a.channel) + length (brought s a))
  too_many held =
      cond_both (nat_le a.seq (s.last a.channel)) _ _ (λ (r : State × Answer). told_of cache (Asks a) r.1 ≡ Told.Full held → (length (s.own a.channel) ≡ held) × (MAX_OWN < length (s.own a.channel) + length (brought s a)))
      (λ _ e. let no : ⊥ = cc in absurd no)
      (λ _. cond_both (nat_lt MAX_OWN (length (s.own a.channel) + length (brought s a))) _ _ (λ (r : State × Answer). told_of cache (Asks a) r.1 ≡ Told.Full held → (length (s.own a.channel) ≡ held) × (MAX_OWN < length (s.own a.channel) + length (brought s a)))
      (λ is e. (same_held (length (s.own a.channel)) held e, ltb-true MAX_OWN (length (s.own a.channel) + length (brought s a)) is))
      (λ _ e. absurd (never_full (first_hit (unlapsed s.clock cache) a) held e)))

-- there is no room for what is to be held in common, and how many are held is told
held_full : (cache : List Cached) (s : State) (certs new : List Certificate) (held : ℕ) → told_of cache (Holds certs) (holding s new).1 ≡ Told.CommonsFull held → (length s.commons ≡ held) × (MAX_COMMONS < length s.commons + length new)
held_full cache s certs new held =
    cond_both (nat_lt MAX_COMMONS (length s.commons + length new)) _ _ (λ (r : State × Answer). told_of cache (Holds certs) r.1 ≡ Told.CommonsFull held → (length s.commons ≡ held) × (MAX_COMMONS < length s.commons + length new))
    (λ is e. (same_commons (length s.commons) held e, ltb-true MAX_COMMONS (length s.commons + length new) is))
    (λ _ e. let no : ⊥ = cc in absurd no)

-- there is no room for an issuer that is not withdrawn, and how many are is told
no_more_issuers : (plan : Plan) (cache : List Cached) (s : State) (issuer held : ℕ) → told_of cache (Withdraws issuer) (withdrawing plan issuer s).1 ≡ Told.WithdrawnFull held →
    (is_withdrawn s.withdrawn issuer ≡ false) × (length s.withdrawn ≡ held) × (MAX_WITHDRAWN ≤ length s.withdrawn)
no_more_issuers plan cache s issuer held =
    cond_both (is_withdrawn s.withdrawn issuer) _ _
    (λ (r : State × Answer). told_of cache (Withdraws issuer) r.1 ≡ Told.WithdrawnFull held → (is_withdrawn s.withdrawn issuer ≡ false) × (length s.withdrawn ≡ held) × (MAX_WITHDRAWN ≤ length s.withdrawn))
    (λ _ e. let no : ⊥ = cc in absurd no)
    (λ isnt. cond_both (nat_le MAX_WITHDRAWN (length s.withdrawn)) _ _
    (λ (r : State × Answer). told_of cache (Withdraws issuer) r.1 ≡ Told.WithdrawnFull held → (is_withdrawn s.withdrawn issuer ≡ false) × (length s.withdrawn ≡ held) × (MAX_WITHDRAWN ≤ length s.withdrawn))
    (λ full e. (isnt, same_issuers (length s.withdrawn) held e, leb-true MAX_WITHDRAWN (length s.withdrawn) full))
    (λ _ e. let no : ⊥ = cc in absurd no))

-- a Withdraw is not told that the commons are full, nor a Hold that no more issuers fit
never_commons : (plan : Plan) (cache : List Cached) (s : State) (issuer held : ℕ) → told_of cache (Withdraws issuer) (withdrawing plan issuer s).1 ≡ Told.CommonsFull held → ⊥
never_commons plan cache s issuer held =
    cond_both (is_withdrawn s.withdrawn issuer) _ _ (λ (r : State × Answer). told_of cache (Withdraws issuer) r.1 ≡ Told.CommonsFull held → ⊥)
    (λ _ e. let no : ⊥ = cc in no)
    (λ _. cond_both (nat_le MAX_WITHDRAWN (length s.withdrawn)) _ _ (λ (r : State × Answer). told_of cache (Withdraws issuer) r.1 ≡ Told.CommonsFull held → ⊥)
    (λ _ e. let no : ⊥ = cc in no)
    (λ _ e. let no : ⊥ = cc in no))

never_issuers : (cache : List Cached) (s : State) (certs new : List Certificate) (held : ℕ) → told_of cache (Holds certs) (holding s new).1 ≡ Told.WithdrawnFull held → ⊥
never_issuers cache s certs new held =
    cond_both (nat_lt MAX_COMMONS (length s.commons + length new)) _ _ (λ (r : State × Answer). told_of cache (Holds certs) r.1 ≡ Told.WithdrawnFull held → ⊥)
    (λ _ e. let no : ⊥ = cc in no)
    (λ _ e. let no : ⊥ = cc in no)

-- what a full list of commons is told of: a Hold, at this state
pub record HeldFull (op : Op) (certs : List Certificate) (event : Event) (s : State) (held : ℕ) : Type 0 where
  pub op_is : op ≡ Hold
  pub event_is : event ≡ Holds certs
  pub held_is : length s.commons ≡ held
  pub more : MAX_COMMONS < length s.commons + length (new_commons s certs)

module _ (plan : Plan) (before : List Entry) (certs : List Certificate) (reading held : ℕ) (event : Event) (tells : Told.CommonsFull held ≡ told_at plan before event) where
  tells_so : (other : Event) → event ≡ other → told_at plan before other ≡ Told.CommonsFull held
  tells_so other same = sym (subst (λ (e : Event). Told.CommonsFull held ≡ told_at plan before e) same tells)

  same_event : (x : Event) → Some x ≡ Some event → event ≡ x
  same_event x e = sym (same_Some x event e)

  pub commons_were_full : (op : Op) → effect_of op certs reading ≡ Some event → HeldFull op certs event (state_after plan before) held
  commons_were_full Hold e =
      let same = same_event (Holds certs) e in
      let s = state_after plan before in
      let full = held_full (cache_after plan before) s certs (new_commons s certs) held (tells_so (Holds certs) same) in
      record { op_is = refl; event_is = same; held_is = full.0; more = full.1 }
  commons_were_full (Discard digest) e = let also = tells_so (Discards digest) (same_event (Discards digest) e) in let no : ⊥ = cc in absurd no
  commons_were_full (Forget channel) e = let also = tells_so _ (same_event _ e) in let no : ⊥ = cc in absurd no
  commons_were_full Sweep e = let also = tells_so _ (same_event _ e) in let no : ⊥ = cc in absurd no
  commons_were_full (Withdraw issuer) e =
      absurd (never_commons plan (cache_after plan before) (state_after plan before) issuer held (tells_so (Withdraws issuer) (same_event (Withdraws issuer) e)))
  commons_were_full _ e = let no : ⊥ = cc in absurd no

-- what no more room for issuers is told of: a Withdraw of another one, at this state
pub record NoMoreIssuers (op : Op) (event : Event) (s : State) (held : ℕ) : Type 0 where
  pub issuer : ℕ
  pub op_is : op ≡ Withdraw issuer
  pub event_is : event ≡ Withdraws issuer
  pub held_is : length s.withdrawn ≡ held
  pub other : is_withdrawn s.withdrawn issuer ≡ false
  pub full : MAX_WITHDRAWN ≤ length s.withdrawn

module _ (plan : Plan) (before : List Entry) (certs : List Certificate) (reading held : ℕ) (event : Event) (tells : Told.WithdrawnFull held ≡ told_at plan before event) where
  says_so : (other : Event) → event ≡ other → told_at plan before other ≡ Told.WithdrawnFull held
  says_so other same = sym (subst (λ (e : Event). Told.WithdrawnFull held ≡ told_at plan before e) same tells)

  is_event : (x : Event) → Some x ≡ Some event → event ≡ x
  is_event x e = sym (same_Some x event e)

  pub issuers_were_full : (op : Op) → effect_of op certs reading ≡ Some event → NoMoreIssuers op event (state_after plan before) held
  issuers_were_full Hold e =
      let s = state_after plan before in
      absurd (never_issuers (cache_after plan before) s certs (new_commons s certs) held (says_so (Holds certs) (is_event (Holds certs) e)))
  issuers_were_full (Discard digest) e = let also = says_so (Discards digest) (is_event (Discards digest) e) in let no : ⊥ = cc in absurd no
  issuers_were_full (Forget channel) e = let also = says_so _ (is_event _ e) in let no : ⊥ = cc in absurd no
  issuers_were_full Sweep e = let also = says_so _ (is_event _ e) in let no : ⊥ = cc in absurd no
  issuers_were_full (Withdraw issuer) e =
      let same = is_event (Withdraws issuer) e in
      let none = no_more_issuers plan (cache_after plan before) (state_after plan before) issuer held (says_so (Withdraws issuer) same) in
      record { issuer = issuer; op_is = refl; event_is = same; held_is = none.1; other = none.0; full = none.2 }
  issuers_were_full _ e = let no : ⊥ = cc in absurd no
