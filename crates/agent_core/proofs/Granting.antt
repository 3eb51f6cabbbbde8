-- A grant that was not kept before: the Ask's step, and what became of the proof that was made for it.
use Rattle.std.proofs.Common.{◌≡◌, ℕ, ◌+◌, ◌<◌, ◌≤◌, true, false, nat_le, List, [], ◌∷◌, ◌++◌, length, Option, None, Some, slice_get, refl, sym, ap, ◌∙◌, subst, arith, append_assoc, length-append, inl, inr, ◌⊎◌}
use Rattle.std.proofs.Common.{ap₂}
use Rattle.std.specs.Option.{option_map}
use Rattle.std.specs.Arc.{arc_value}
use Rattle.std.proofs.lemmas.Bool.{cond_both}
use Rattle.std.proofs.lemmas.List.Elements.{All-cons, All-nil, All-weaker}
use Rattle.std.proofs.lemmas.List.Kept.{AllPairs-cons}
use Rattle.prin_term.specs.declared.term.Anchor.{Anchor}
use Rattle.prin_term.specs.View.{Grant}
use Rattle.stmt_codec.specs.Certificates.{Certificate, IsLive}
use Rattle.std.specs.declared.alloc.Global.{Global}
use Rattle.std.specs.declared.sync.Arc.{Arc}
use Rattle.stmt_codec.specs.View.{certificates}
use Rattle.proof_cache.specs.Cached.{Cached, cached}
use Rattle.proof_cache.specs.declared.cached.Cached.{Cached as CachedValue}
use Rattle.agent_core.specs.declared.told.Snapshot.{Snapshot}
use Rattle.agent_core.specs.declared.asked.Settled.{Settled}
use Rattle.agent_core.specs.declared.asked.Settled.TheVariants as settled
use Rattle.agent_core.specs.declared.whole_ask.settling.Settlement.{Settlement}
use Rattle.agent_core.specs.declared.whole_ask.settling.Settlement.TheVariants as settlement
use Rattle.agent_core.specs.declared.told.Answer.{Answer as ValueOfAnswer}
use Rattle.agent_core.specs.declared.told.Answer.TheVariants as answer
use Rattle.agent_core.specs.declared.told.DropCause.{DropCause}
use Rattle.agent_core.specs.declared.told.Told.{Told}
use Rattle.agent_core.specs.Answers.{SteppedTo}
use Rattle.agent_core.specs.Asked.{IsGrantedBy, IsGrantedAt, IsGrant, was_kept, was_dropped, had_no_room, LacksMemory, AskedTo}
use Rattle.agent_core.specs.Granted.{IsProofFor}
use Rattle.agent_core.specs.Journals.{Entry, entry, Stands, Begins, state_after, moment_at, IsKeepable, granted}
use Rattle.agent_core.specs.Plans.{AreShards, home}
use Rattle.agent_core.specs.Settling.{KeptAs, Settles}
use Rattle.agent_core.specs.State.{Plan, Ask, Event, Asks, Keeps, Plain, first_missing, settled_by, next}
use Rattle.agent_core.specs.Steps.{StepAnswer, Hit, Miss, Other, IsAnswer, hit, miss, other, JournalSeen, StepsTo, StepRefused}
use Rattle.agent_core.proofs.Apart.{cites_apart}
use Rattle.agent_core.proofs.Asks.{anchors_are, granted_at_last, judged_by, some_own, told_other, stands_missed}
use Rattle.agent_core.proofs.AtPlaces.{count_places, slice_at}
use Rattle.agent_core.proofs.Moments.{moment_judged}
use Rattle.agent_core.proofs.Onward.{begins_on, granted_stays}

-- ---- what a Keep is told

abbrev IsToldOfKeep : Told → Type 0
IsToldOfKeep Told.Kept = Unit {0}
IsToldOfKeep (Told.Dropped cause) = Unit {0}
IsToldOfKeep _ = ⊥

abbrev IsKeepAnswer : StepAnswer → Type 0
IsKeepAnswer (Hit e c) = ⊥
IsKeepAnswer (Miss moment certs) = ⊥
IsKeepAnswer (Other told) = IsToldOfKeep told

settled_told : (o : Option Certificate) (clock lease : ℕ) → IsToldOfKeep (settled_by o clock lease)
settled_told (Some x) clock lease = tt
settled_told None clock lease = cond_both (nat_le lease clock) (Told.Dropped (DropCause.Lapsed clock lease)) Told.Kept IsToldOfKeep (λ _. tt) (λ _. tt)

keep_answer : (plan : Plan) (before : List Entry) (event : Event) (told : Told) (x : StepAnswer) → IsAnswer plan before event told x → (p e : ℕ) (c : Cached) → event ≡ Keeps p e c → IsKeepAnswer x
keep_answer plan before event told x (hit j at found) p e c is = let no : ⊥ = cc in absurd no
keep_answer plan before event told x (miss j) p e c is = let no : ⊥ = cc in absurd no
keep_answer plan before event told x (other q) p e c is =
    let s = state_after plan before in
    let tells : Plain (settled_by (first_missing s c) s.clock c.lease) ≡ Plain told = subst (λ y. (next plan s y).1 ≡ Plain told) is q in
    let same : settled_by (first_missing s c) s.clock c.lease ≡ told = cc in
    subst IsToldOfKeep same (settled_told (first_missing s c) s.clock c.lease)

-- ---- a step, of any event

module _ {plan : Plan} {earlier later : JournalSeen} {event : Event} {place : ℕ} {x : StepAnswer} (s : StepsTo plan earlier later event place x) where
  pub step_goes : Begins earlier.journal later.journal
  step_goes = begins_on s.goes_on (record { rest = entry event s.steps.told ∷ []; is = s.steps.adds })

  pub step_place : length earlier.journal ≤ place
  step_place =
      let more : length s.before ≡ length earlier.journal + length s.goes_on.rest = ap (λ (l : List Entry). length l) s.goes_on.is ∙ length-append earlier.journal s.goes_on.rest in
      let here : length s.before ≡ place = s.steps.placed in omega (arith, more, here)

  pub step_length : length later.journal ≡ place + 1
  step_length =
      let grown : length later.journal ≡ length s.before + 1 = ap (λ (l : List Entry). length l) s.steps.adds ∙ length-append s.before (entry event s.steps.told ∷ []) in
      let here : length s.before ≡ place = s.steps.placed in omega (arith, grown, here)

  pub step_undisturbed : earlier.alone ≡ true → length later.journal ≡ length earlier.journal + 1
  step_undisturbed e =
      ap (λ (l : List Entry). length l) (s.steps.adds ∙ ap (λ (l : List Entry). l ++ entry event s.steps.told ∷ []) (s.undisturbed e)) ∙ length-append earlier.journal (entry event s.steps.told ∷ [])

  pub step_stands : (told : Told) → s.steps.told ≡ told → Stands later.journal place s.before (entry event told)
  step_stands told e = record { rest = []; is = s.steps.adds ∙ ap (λ t. s.before ++ entry event t ∷ []) e; placed = s.steps.placed }

begins_length : {xs ys : List Entry} → Begins xs ys → length xs ≤ length ys
begins_length {xs = xs} b = omega (arith, ap (λ (l : List Entry). length l) b.is, length-append xs b.rest)

-- a Keep is answered by these alone
module _ (plan : Plan) (earlier later : JournalSeen) (p e : ℕ) (c : Cached) (place : ℕ) (r : ValueOfAnswer) (s : SteppedTo plan earlier later (Keeps p e c) place r) where
  step_as : (x : ValueOfAnswer) → r ≡ x → SteppedTo plan earlier later (Keeps p e c) place x
  step_as x is = subst (SteppedTo plan earlier later (Keeps p e c) place) is s

  pub kept_step : r ≡ answer.Kept → KeptAs plan earlier later (Keeps p e c) settled.Kept
  kept_step is = (place, step_as answer.Kept is)

  pub dropped_step : (cause : DropCause) → r ≡ answer.Dropped cause → KeptAs plan earlier later (Keeps p e c) (settled.Dropped cause)
  dropped_step cause is = (place, step_as (answer.Dropped cause) is)

  pub full_step : (n : ℕ) → r ≡ answer.JournalFull n → KeptAs plan earlier later (Keeps p e c) (settled.NoRoom n)
  full_step n is = let t = step_as (answer.JournalFull n) is in (t.0, t.1, t.2)

  pub no_other_step : (x : ValueOfAnswer) (y : StepAnswer) → r ≡ x → (SteppedTo plan earlier later (Keeps p e c) place x → StepsTo plan earlier later (Keeps p e c) place y) → IsKeepAnswer y
  no_other_step x y is go =
      let t = go (step_as x is) in
      keep_answer plan t.before (Keeps p e c) t.steps.told y t.steps.answers p e c refl

  -- what only other events are told
  pub never_kept : ((n : ℕ) × (r ≡ answer.Replayed n)) ⊎ (((n : ℕ) × (r ≡ answer.Full n)) ⊎ (((n : ℕ) × (x : Arc CachedValue Global) × (r ≡ answer.Hit n x)) ⊎
      (((x : Snapshot) × (r ≡ answer.Miss x)) ⊎ (((n : ℕ) × (r ≡ answer.Held n)) ⊎ (((n : ℕ) × (r ≡ answer.CommonsFull n)) ⊎ (((n : ℕ) × (r ≡ answer.Removed n)) ⊎ ((n : ℕ) × (r ≡ answer.WithdrawnFull n)))))))) → ⊥
  never_kept (inl h) = no_other_step (answer.Replayed h.0) (Other (Told.Replayed h.0)) h.1 (λ t. t)
  never_kept (inr (inl h)) = no_other_step (answer.Full h.0) (Other (Told.Full h.0)) h.1 (λ t. t)
  never_kept (inr (inr (inl h))) = no_other_step (answer.Hit h.0 h.1) (Hit h.0 (cached (arc_value {X = CachedValue} h.1))) h.2 (λ t. t)
  never_kept (inr (inr (inr (inl h)))) = no_other_step (answer.Miss h.0) (Miss h.0.moment (certificates h.0.certs.items)) h.1 (λ t. t)
  never_kept (inr (inr (inr (inr (inl h))))) = no_other_step (answer.Held h.0) (Other (Told.Held h.0)) h.1 (λ t. t)
  never_kept (inr (inr (inr (inr (inr (inl h)))))) = no_other_step (answer.CommonsFull h.0) (Other (Told.CommonsFull h.0)) h.1 (λ t. t)
  never_kept (inr (inr (inr (inr (inr (inr (inl h))))))) = no_other_step (answer.Removed h.0) (Other (Told.Removed h.0)) h.1 (λ t. t)
  never_kept (inr (inr (inr (inr (inr (inr (inr h))))))) = no_other_step (answer.WithdrawnFull h.0) (Other (Told.WithdrawnFull h.0)) h.1 (λ t. t)

-- the same Ask and anchors
granted_as : (anchors anchors' : List Anchor) → anchors' ≡ anchors → (a b : Ask) → b ≡ a → (certs : List Certificate) (moment e : ℕ) (c : Cached) → IsGrantedBy anchors certs moment b e c → IsGrantedBy anchors' certs moment a e c
granted_as anchors anchors' same a b is certs moment e c h =
    subst (λ (l : List Anchor). IsGrantedBy l certs moment a e c) (sym same) (subst (λ (x : Ask). IsGrantedBy anchors certs moment x e c) is h)

-- the Ask was settled by a grant, at the shard that was asked
pub granted_there : {plans mid : List Plan} → mid ≡ plans → {anchors : List Anchor} → AreShards mid anchors →
    {a b : Ask} → b ≡ a → {plan : Plan} → slice_get plans (home plans a.channel) ≡ Some plan → (certs : List Certificate) (moment : ℕ)
    {e : ℕ} {x : Arc CachedValue Global} {v : Settlement} → v ≡ settlement.Granted e x → Settles anchors certs moment b v →
    IsGrantedBy plan.anchors certs moment a e (cached (arc_value {X = CachedValue} x))
granted_there {plans = plans} same {anchors = anchors} are {a = a} {b = b} is {plan = plan} at certs moment {e = e} {x = x} grants settled =
    granted_as anchors plan.anchors (anchors_are plans anchors (subst (λ (l : List Plan). AreShards l anchors) same are) (home plans a.channel) plan at)
    a b is certs moment e (cached (arc_value {X = CachedValue} x)) (subst (Settles anchors certs moment b) grants settled)

-- ---- the shard of an Ask's channel, which its step leaves

module _ {plans mid : List Plan} (same : mid ≡ plans) {a b : Ask} (is : b ≡ a) where
  pub home_stays : home mid b.channel ≡ home plans a.channel
  home_stays = ap₂ home same (ap (λ (x : Ask). x.channel) is)

  pub was_home : {plan : Plan} → slice_get mid (home mid b.channel) ≡ Some plan → slice_get plans (home plans a.channel) ≡ Some plan
  was_home at = ap₂ (λ (l : List Plan) n. slice_get l n) (sym same) (sym home_stays) ∙ at

  -- what is so of it then
  pub by_home : (P : ℕ → Type 0) {plan : Plan} → slice_get plans (home plans a.channel) ≡ Some plan →
      (slice_get mid (home mid b.channel) ≡ Some plan → P (home mid b.channel)) → P (home plans a.channel)
  by_home P at so = subst P home_stays (so (ap₂ (λ (l : List Plan) n. slice_get l n) same home_stays ∙ at))

-- ---- the Ask was judged, and is granted by a proof

module _ {plan : Plan} {earlier mid : JournalSeen} (a : Ask) (place moment : ℕ) (certs : List Certificate) (s : StepsTo plan earlier mid (Asks a) place (Miss moment certs))
    (e : ℕ) (c : Cached) (g : IsGrantedBy plan.anchors certs moment a e c) where
  -- the proof may be kept for it
  pub may_keep : IsKeepable plan mid.journal place e c
  may_keep =
      let t = stands_missed a place moment certs s in
      let p : IsProofFor plan.anchors certs moment a e c = g.proof in
      let at_moment : moment ≡ moment_at plan mid.journal place = moment_judged plan mid.journal s.before place moment a certs Told.Miss t (judged_by a place moment certs s) in
      record {
        asked = a;
        told = Told.Miss;
        stands = subst (λ (l : List Entry). slice_get l place ≡ Some (entry (Asks a) Told.Miss)) (sym t.is)
            (subst (λ n. slice_get (s.before ++ entry (Asks a) Told.Miss ∷ t.rest) n ≡ Some (entry (Asks a) Told.Miss)) t.placed (slice_at s.before (entry (Asks a) Told.Miss) t.rest));
        subject_is = p.subject_is;
        who_is = ap (option_map (λ (x : Grant). x.who)) p.stands ∙ ap Some (sym p.who_is);
        proves = p.proves;
        lease_is = p.lease_is;
        apart = cites_apart plan.anchors c.cites c.proof p.places (ap (λ (l : List Certificate). length l) p.cites_are ∙ count_places certs p.places p.inside) p.proves.follow p.tidy;
        begun = All-weaker (IsLive moment) (λ (x : Certificate). x.from ≤ moment_at plan mid.journal place) (λ x lives. omega (arith, lives.0, at_moment)) c.cites p.alive;
      }

  module _ (later : JournalSeen) (same : mid.alone ≡ earlier.alone) where
    granted_later : Begins mid.journal later.journal → IsGrantedAt plan later.journal a place e c
    granted_later goes = granted_stays plan mid.journal later.journal a goes place e c (granted_at_last a place moment certs s e c g)

    -- a second own entry
    twice_asks : (keep : ℕ) (x : StepAnswer) → StepsTo plan mid later (Keeps place e c) keep x → (Ends : List ℕ → Type 0) → Ends (place ∷ keep ∷ []) → AskedTo plan earlier later a Ends
    twice_asks keep x t Ends ends =
        let from : length earlier.journal ≤ place = step_place s in
        let after : length mid.journal ≤ keep = step_place t in
        let mid_is : length mid.journal ≡ place + 1 = step_length s in
        let later_is : length later.journal ≡ keep + 1 = step_length t in
        record {
          places = place ∷ keep ∷ [];
          goes_on = begins_on (step_goes s) (step_goes t);
          undisturbed = λ alone. omega (arith, step_undisturbed s alone, step_undisturbed t (same ∙ alone));
          legal = t.steps.legal;
          owned = t.owned ∙ (ap (λ (l : List ℕ). l ++ keep ∷ []) s.owned ∙ append_assoc earlier.own (place ∷ []) (keep ∷ []));
          new = All-cons (λ p. length earlier.journal ≤ p) place (keep ∷ []) from (All-cons (λ p. length earlier.journal ≤ p) keep [] (omega (arith, from, after, mid_is)) (All-nil (λ p. length earlier.journal ≤ p)));
          there = All-cons (λ p. p < length later.journal) place (keep ∷ []) (omega (arith, after, mid_is, later_is))
              (All-cons (λ p. p < length later.journal) keep [] (omega (arith, later_is)) (All-nil (λ p. p < length later.journal)));
          ascending = AllPairs-cons (λ p q. p < q) place (keep ∷ []) (All-cons (λ q. place < q) keep [] (omega (arith, after, mid_is)) (All-nil (λ q. place < q)))
              (λ i k d lt within. absurd (omega arith));
          ends = ends;
        }

    -- no second one
    once_asks : StepRefused plan mid later → (Ends : List ℕ → Type 0) → Ends (place ∷ []) → AskedTo plan earlier later a Ends
    once_asks r Ends ends =
        let from : length earlier.journal ≤ place = step_place s in
        let mid_is : length mid.journal ≡ place + 1 = step_length s in
        let more : length mid.journal ≤ length later.journal = begins_length r.goes_on in
        record {
          places = place ∷ [];
          goes_on = begins_on (step_goes s) r.goes_on;
          undisturbed = λ alone. ap (λ (l : List Entry). length l) (r.undisturbed (same ∙ alone)) ∙ step_undisturbed s alone;
          legal = r.legal;
          owned = r.owned ∙ s.owned;
          new = All-cons (λ p. length earlier.journal ≤ p) place [] from (All-nil (λ p. length earlier.journal ≤ p));
          there = All-cons (λ p. p < length later.journal) place [] (omega (arith, mid_is, more)) (All-nil (λ p. p < length later.journal));
          ascending = λ i j d lt within. absurd (omega arith);
          ends = ends;
        }

    -- whatever became of the proof
    pub kept_asks : (r : Settled) → KeptAs plan mid later (Keeps place e c) r → AskedTo plan earlier later a (IsGrant plan later.journal a place e c false r)
    kept_asks settled.NoNeed h = absurd h
    kept_asks settled.Kept h =
        let t : StepsTo plan mid later (Keeps place e c) h.0 (Other Told.Kept) = h.1 in
        twice_asks h.0 (Other Told.Kept) t (IsGrant plan later.journal a place e c false settled.Kept)
        (was_kept (granted_later (step_goes t)) (t.before, step_stands t Told.Kept (told_other plan t.before a (Keeps place e c) t.steps.told Told.Kept t.steps.answers)))
    kept_asks (settled.Dropped cause) h =
        let t : StepsTo plan mid later (Keeps place e c) h.0 (Other (Told.Dropped cause)) = h.1 in
        twice_asks h.0 (Other (Told.Dropped cause)) t (IsGrant plan later.journal a place e c false (settled.Dropped cause))
        (was_dropped (granted_later (step_goes t)) (t.before, step_stands t (Told.Dropped cause) (told_other plan t.before a (Keeps place e c) t.steps.told (Told.Dropped cause) t.steps.answers)))
    kept_asks (settled.NoRoom n) h =
        once_asks h.0 (IsGrant plan later.journal a place e c false (settled.NoRoom n))
        (subst (λ k. IsGrant plan later.journal a place e c false (settled.NoRoom k) (place ∷ [])) (sym h.2) (had_no_room (granted_later h.0.goes_on) h.1))

    -- memory was refused for it
    pub unkept_asks : StepRefused plan mid later → AskedTo plan earlier later a (LacksMemory plan earlier.journal later.journal a)
    unkept_asks r =
        let t : IsGrantedAt plan later.journal a place e c = granted_later r.goes_on in
        once_asks r (LacksMemory plan earlier.journal later.journal a) (record {
          unanswered = inr (place, t.before, t.stands, granted t.judged (record { place = e; entry = t.granted.grant; stands = t.granted.first.stands; has_right = t.granted.first.has_right; speaks = t.granted.first.holds }), refl);
          room = λ none. absurd (some_own place none);
        })
