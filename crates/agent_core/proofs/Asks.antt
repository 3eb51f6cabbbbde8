-- A step of an Ask, and what it came to, make the whole of an ask.
use Rattle.std.proofs.Common.{◌≡◌, ℕ, zero, suc, ◌+◌, ◌<◌, ◌≤◌, true, false, nat_le, nat_lt, List, [], ◌∷◌, ◌++◌, length, refl, sym, ap, ◌∙◌, arith, append-nil, length-append, replicate, slice_get, find, Some, subst, ◌⊎◌, inl, inr}
use Rattle.std.proofs.lemmas.List.{length-replicate}
use Rattle.std.proofs.lemmas.Bool.{cond_both}
use Rattle.std.specs.Prelude.{Result, Ok, Err, IfOk, OnErr}
use Rattle.std.proofs.lemmas.List.Elements.{All-cons, All-nil}
use Rattle.stmt_codec.specs.Certificates.{Certificate, live}
use Rattle.taos_calculus.specs.Monitor.{Grants}
use Rattle.denial_link.specs.Revived.{claims}
use Rattle.std.specs.Arc.{arc_value}
use Rattle.prin_term.specs.declared.term.Anchor.{Anchor}
use Rattle.taos_calculus.specs.Question.{IsAskable}
use Rattle.std.proofs.lemmas.Option.{same_Some}
use Rattle.prin_term.specs.View.{Grant}
use Rattle.taos_calculus.proofs.Induction.{All-at}
use Rattle.proof_cache.specs.Cache.{is_for}
use Rattle.proof_cache.specs.Cached.{Cached, cached}
use Rattle.proof_cache.specs.declared.cached.Cached.{Cached as CachedValue}
use Rattle.std.specs.declared.alloc.Global.{Global}
use Rattle.std.specs.declared.sync.Arc.{Arc}
use Rattle.stmt_codec.specs.View.{certificates}
use Rattle.agent_core.specs.declared.told.Snapshot.{Snapshot}
use Rattle.agent_core.specs.declared.told.Answer.{Answer as ValueOfAnswer}
use Rattle.agent_core.specs.declared.told.Answer.TheVariants as answer
use Rattle.agent_core.specs.Answers.{SteppedTo}
use Rattle.agent_core.specs.declared.asked.Asked.{Asked}
use Rattle.agent_core.specs.declared.asked.Settled.TheVariants.{NoNeed}
use Rattle.agent_core.specs.declared.asked.Verdict.{Verdict}
use Rattle.agent_core.specs.declared.asked.Verdict.TheVariants as verdict
use Rattle.agent_core.specs.Plans.{IsPlan, AreShards}
use Rattle.agent_core.proofs.Few.{judges_few}
use Rattle.agent_core.proofs.Hits.{hit_proof}
use Rattle.agent_core.proofs.Onward.{begins_on}
use Rattle.agent_core.specs.declared.told.Told.{Told}
use Rattle.agent_core.specs.declared.told.DropCause.{DropCause}
use Rattle.agent_core.specs.Caches.{unlapsed}
use Rattle.agent_core.specs.Granted.{IsKeptProofFor}
use Rattle.agent_core.specs.declared.asked.Denial.{Denial}
use Rattle.agent_core.specs.State.{Plan, State, Ask, Event, Asks, Answer, Plain, swept, brought, asking, moment_of}
use Rattle.agent_core.specs.Journals.{Entry, entry, state_after, cache_after, Stands, IsLegalJournal, IsJudged, granted}
use Rattle.agent_core.specs.Steps.{StepAnswer, Hit, Miss, Other, IsAnswer, hit, miss, other, JournalSeen, StepsTo, StepRefused}
use Rattle.agent_core.specs.Shards.{LeavesShards, ShardsSeen, StepsShard, shard_at}
use Rattle.agent_core.specs.Asked.{FitsAsk, IsGrantedBy, IsDeniedBy, IsGrantedAt, IsHitAt, IsDeniedAt, IsTold, IsGrant, by_kept, EndsBy, Ends, AskEnds, LacksMemory, AskedTo}
use Rattle.agent_core.specs.Settling.{RefusesAsk, StepsAsk}

pub on_err : {T E P : Type 0} (r : Result T E) → P → OnErr r P
on_err (Ok x) p = tt
on_err (Err e) p = p

pub some_own : (place : ℕ) → place ∷ [] ≡ [] → ⊥
some_own place e = cc

-- ---- what a step of an Ask says

abbrev pub IsToldOfAsk : Told → Type 0
IsToldOfAsk (Told.Replayed last) = Unit {0}
IsToldOfAsk (Told.Full held) = Unit {0}
IsToldOfAsk _ = ⊥

module _ (plan : Plan) (before : List Entry) (a : Ask) where
  missed : (told : Told) (moment : ℕ) (certs : List Certificate) → IsAnswer plan before (Asks a) told (Miss moment certs) →
      (told ≡ Told.Miss) × IsJudged plan before a moment certs
  missed told moment certs (miss j) = (refl, j)

  pub told_other : (event : Event) (told told' : Told) → IsAnswer plan before event told (Other told') → told ≡ told'
  told_other event told told' (other e) = refl

  -- what a hit hands out
  pub hit_parts : (told : Told) (e : ℕ) (c : Cached) → IsAnswer plan before (Asks a) told (Hit e c) →
      (told ≡ Told.Hit e) × ((moment : ℕ) × (certs : List Certificate) × (g : Grant) × IsJudged plan before a moment certs × (slice_get a.list e ≡ Some g) ×
      (find (is_for a.subject g.who) (unlapsed moment (cache_after plan before)) ≡ Some c))
  hit_parts told e c (hit {moment = moment} {certs = certs} {g = g} j at found) = (refl, (moment, certs, g, j, at, found))

  -- an Ask that is not to be judged
  asking_tells : (s : State) (told : Told) → (asking s a).1 ≡ Plain told → IsToldOfAsk told
  asking_tells s told =
      cond_both (nat_le a.seq (s.last a.channel)) _ _ (λ (r : State × Answer). r.1 ≡ Plain told → IsToldOfAsk told)
      (λ _ e. let same : Told.Replayed (s.last a.channel) ≡ told = cc in subst IsToldOfAsk same tt)
      (λ _. cond_both (nat_lt 32 (length (s.own a.channel) + length (brought s a))) _ _ (λ (r : State × Answer). r.1 ≡ Plain told → IsToldOfAsk told)
      (λ _ e. let same : Told.Full (length (s.own a.channel)) ≡ told = cc in subst IsToldOfAsk same tt)
      (λ _ e. let no : ⊥ = cc in absurd no))

  answer_tells : (told : Told) (answer : StepAnswer) → IsAnswer plan before (Asks a) told answer → (told' : Told) → answer ≡ Other told' → IsToldOfAsk told'
  answer_tells told answer (hit j at found) told' is = let no : ⊥ = cc in absurd no
  answer_tells told answer (miss j) told' is = let no : ⊥ = cc in absurd no
  answer_tells told answer (other p) told' is =
      let same : told ≡ told' = cc in
      let s : State = state_after plan before in
      subst IsToldOfAsk same (asking_tells (swept plan.keep (moment_of s a.reading) s) told p)

module _ {plan : Plan} {earlier later : JournalSeen} (a : Ask) where
  -- no own entry
  pub refused_asks : (Ends : List ℕ → Type 0) → StepRefused plan earlier later → Ends [] → AskedTo plan earlier later a Ends
  refused_asks Ends s ends = record {
    places = [];
    goes_on = s.goes_on;
    undisturbed = λ e. omega (arith, ap (λ (l : List Entry). length l) (s.undisturbed e));
    legal = s.legal;
    owned = s.owned ∙ sym (append-nil earlier.own);
    new = All-nil (λ p. length earlier.journal ≤ p);
    there = All-nil (λ p. p < length later.journal);
    ascending = λ i j d lt within. absurd (omega arith);
    ends = ends;
  }

  -- memory was refused for it
  pub lacked_asks : RefusesAsk plan earlier later → AskedTo plan earlier later a (LacksMemory plan earlier.journal later.journal a)
  lacked_asks r = refused_asks (LacksMemory plan earlier.journal later.journal a) r.refused (record { unanswered = inl refl; room = λ _. r.room })

  module _ (place : ℕ) (answer : StepAnswer) (s : StepsTo plan earlier later (Asks a) place answer) where
    stands_last : (told : Told) → s.steps.told ≡ told → Stands later.journal place s.before (entry (Asks a) told)
    stands_last told e = record { rest = []; is = s.steps.adds ∙ ap (λ t. s.before ++ entry (Asks a) t ∷ []) e; placed = s.steps.placed }

    -- one own entry
    pub stepped_asks : (Ends : List ℕ → Type 0) → Ends (place ∷ []) → AskedTo plan earlier later a Ends
    stepped_asks Ends ends =
        let more : length s.before ≡ length earlier.journal + length s.goes_on.rest = ap (λ (l : List Entry). length l) s.goes_on.is ∙ length-append earlier.journal s.goes_on.rest in
        let here : length s.before ≡ place = s.steps.placed in
        let new : length earlier.journal ≤ place = omega arith in
        let grown : length later.journal ≡ length s.before + 1 = ap (λ (l : List Entry). length l) s.steps.adds ∙ length-append s.before (entry (Asks a) s.steps.told ∷ []) in
        record {
          places = place ∷ [];
          goes_on = begins_on s.goes_on (record { rest = entry (Asks a) s.steps.told ∷ []; is = s.steps.adds });
          undisturbed = λ e. ap (λ (l : List Entry). length l) (s.steps.adds ∙ ap (λ (l : List Entry). l ++ entry (Asks a) s.steps.told ∷ []) (s.undisturbed e)) ∙ length-append earlier.journal (entry (Asks a) s.steps.told ∷ []);
          legal = s.steps.legal;
          owned = s.owned;
          new = All-cons (λ p. length earlier.journal ≤ p) place [] new (All-nil (λ p. length earlier.journal ≤ p));
          there = All-cons (λ p. p < length later.journal) place [] (omega (arith, grown, here)) (All-nil (λ p. p < length later.journal));
          ascending = λ i j d lt within. absurd (omega arith);
          ends = ends;
        }

  -- an Ask that a kept proof serves
  pub hit_at_last : (place e : ℕ) (c : Cached) → StepsTo plan earlier later (Asks a) place (Hit e c) → IsHitAt plan later.journal a place e c
  hit_at_last place e c s =
      let (told, rest) = hit_parts plan s.before a s.steps.told e c s.steps.answers in
      let (moment, certs, g, j, at, found) = rest in
      let legal : IsLegalJournal plan (s.before ++ entry (Asks a) (Told.Hit e) ∷ []) =
      subst (IsLegalJournal plan) (s.steps.adds ∙ ap (λ t. s.before ++ entry (Asks a) t ∷ []) told) s.steps.legal in
      let k : IsKeptProofFor plan.anchors certs moment a e c = hit_proof plan s.before a e legal moment certs g c j at found in
      record {
        before = s.before;
        moment = moment;
        certs = certs;
        stands = stands_last place (Hit e c) s (Told.Hit e) told;
        judged = j;
        proof = k;
        found = subst (λ (x : Grant). find (is_for a.subject x.who) (unlapsed moment (cache_after plan s.before)) ≡ Some c) (same_Some g k.grant (sym at ∙ k.stands)) found;
      }

  pub told_of_ask : (place : ℕ) (told : Told) → StepsTo plan earlier later (Asks a) place (Other told) → IsToldOfAsk told
  told_of_ask place told s = answer_tells plan s.before a s.steps.told (Other told) s.steps.answers told refl

  pub told_at_last : (place : ℕ) (told : Told) → StepsTo plan earlier later (Asks a) place (Other told) → IsTold plan later.journal a place told
  told_at_last place told s = (s.before, stands_last place (Other told) s told (told_other plan s.before a (Asks a) s.steps.told told s.steps.answers))

  -- an Ask that was judged by these
  module _ (place moment : ℕ) (certs : List Certificate) (s : StepsTo plan earlier later (Asks a) place (Miss moment certs)) where
    pub judged_by : IsJudged plan s.before a moment certs
    judged_by = (missed plan s.before a s.steps.told moment certs s.steps.answers).1

    pub stands_missed : Stands later.journal place s.before (entry (Asks a) Told.Miss)
    stands_missed = stands_last place (Miss moment certs) s Told.Miss (missed plan s.before a s.steps.told moment certs s.steps.answers).0

    pub granted_at_last : (e : ℕ) (c : Cached) → IsGrantedBy plan.anchors certs moment a e c → IsGrantedAt plan later.journal a place e c
    granted_at_last e c g = record {
      before = s.before;
      moment = moment;
      certs = certs;
      stands = stands_missed;
      judged = judged_by;
      granted = g;
    }

    pub denied_at_last : (denial : Denial) → IsDeniedBy plan.anchors certs moment a denial → IsDeniedAt plan later.journal a place denial
    denied_at_last denial d = record {
      before = s.before;
      moment = moment;
      certs = certs;
      stands = stands_missed;
      judged = judged_by;
      denied = d;
    }

    -- the proof found no memory
    pub unanswered_at_last : Grants plan.anchors (claims (live certs moment)) a.subject a.list a.right → LacksMemory plan earlier.journal later.journal a (place ∷ [])
    unanswered_at_last g = record {
      unanswered = inr (place, s.before, stands_missed, granted judged_by g, refl);
      room = λ none. absurd (some_own place none);
    }

    -- the live certificates grant none
    pub denied_asks : (anchors : List Anchor) → plan.anchors ≡ anchors → (b : Ask) → b ≡ a → (denial : Denial) → IsDeniedBy anchors certs moment b denial →
        AskedTo plan earlier later a (EndsBy plan later.journal a place (verdict.Denied denial))
    denied_asks anchors same b is denial d =
        stepped_asks place (Miss moment certs) s (EndsBy plan later.journal a place (verdict.Denied denial))
        (denied_at_last denial (subst (λ l. IsDeniedBy l certs moment a denial) (sym same) (subst (λ x. IsDeniedBy anchors certs moment x denial) is d)), refl)

    pub unanswered_asks : (anchors : List Anchor) → plan.anchors ≡ anchors → (b : Ask) → b ≡ a → Grants anchors (claims (live certs moment)) b.subject b.list b.right →
        AskedTo plan earlier later a (LacksMemory plan earlier.journal later.journal a)
    unanswered_asks anchors same b is h =
        stepped_asks place (Miss moment certs) s (LacksMemory plan earlier.journal later.journal a) (unanswered_at_last (subst (λ l. Grants l (claims (live certs moment)) a.subject a.list a.right) (sym same)
        (subst (λ (x : Ask). Grants anchors (claims (live certs moment)) x.subject x.list x.right) is h)))

-- ---- the other shards

-- where none is stepped
pub leaves_itself : (s : ShardsSeen) (h : ℕ) → LeavesShards s s h
leaves_itself s h = record { plans = refl; alone = refl; others = λ n not. (refl, refl) }

-- where one is stepped, and then again
pub leaves_twice : (a b c : ShardsSeen) (h k : ℕ) → k ≡ h → LeavesShards a b h → LeavesShards b c k → LeavesShards a c h
leaves_twice a b c h k same s t = record {
  plans = t.plans ∙ s.plans;
  alone = t.alone ∙ s.alone;
  others = λ n not.
      let first = s.others n not in
      let second = t.others n (λ is. not (is ∙ same)) in (second.0 ∙ first.0, second.1 ∙ first.1);
}

-- ---- what stands behind each answer

-- the Ask's step where it came to its shard
module _ {E : Type 0} (plan : Plan) (before after : ShardsSeen) (b a : Ask) (i j : ℕ) (there : i ≡ j) (is : b ≡ a) where
  pub steps_here : (r : Result (ℕ × ValueOfAnswer) E) → StepsShard plan (shard_at before i) (shard_at after i) (Asks b) r → IfOk r (λ x. StepsAsk plan (shard_at before j) (shard_at after j) a x.0 x.1)
  steps_here (Ok x) s = record {
    step = subst (λ k. SteppedTo plan (shard_at before k) (shard_at after k) (Asks a) x.0 x.1) there
        (subst (λ z. SteppedTo plan (shard_at before i) (shard_at after i) (Asks z) x.0 x.1) is s.steps);
  }
  steps_here (Err e) s = tt

  -- where memory was refused, the journal had room
  pub refused_here : (r : Result (ℕ × ValueOfAnswer) E) → StepsShard plan (shard_at before i) (shard_at after i) (Asks b) r → OnErr r (RefusesAsk plan (shard_at before j) (shard_at after j))
  refused_here (Ok x) s = tt
  refused_here (Err e) s = subst (λ k. RefusesAsk plan (shard_at before k) (shard_at after k)) there (record { refused = s.refused; room = inr s.room })

module _ {plan : Plan} {earlier later : JournalSeen} {a : Ask} {place : ℕ} {r : ValueOfAnswer} (s : StepsAsk plan earlier later a place r) where
  step_as : (x : ValueOfAnswer) → r ≡ x → SteppedTo plan earlier later (Asks a) place x
  step_as x is = subst (SteppedTo plan earlier later (Asks a) place) is s.step

  pub missed_step : (snapshot : Snapshot) → r ≡ answer.Miss snapshot → StepsTo plan earlier later (Asks a) place (Miss snapshot.moment (certificates snapshot.certs.items))
  missed_step snapshot is = step_as (answer.Miss snapshot) is

  pub replayed_ends : (last : ℕ) → r ≡ answer.Replayed last → AskedTo plan earlier later a (EndsBy plan later.journal a place (verdict.Replayed last))
  replayed_ends last is =
      let t = step_as (answer.Replayed last) is in
      stepped_asks a place (Other (Told.Replayed last)) t (EndsBy plan later.journal a place (verdict.Replayed last)) (told_at_last a place (Told.Replayed last) t, refl)

  pub full_ends : (held : ℕ) → r ≡ answer.Full held → AskedTo plan earlier later a (EndsBy plan later.journal a place (verdict.Full held))
  full_ends held is =
      let t = step_as (answer.Full held) is in
      stepped_asks a place (Other (Told.Full held)) t (EndsBy plan later.journal a place (verdict.Full held)) (told_at_last a place (Told.Full held) t, refl)

  pub journal_full_ends : (n : ℕ) → r ≡ answer.JournalFull n → AskedTo plan earlier later a (EndsBy plan later.journal a place (verdict.JournalFull n))
  journal_full_ends n is =
      let t = step_as (answer.JournalFull n) is in
      refused_asks a (EndsBy plan later.journal a place (verdict.JournalFull n)) t.0 (t.1, t.2, t.3, refl)

  pub hit_ends : (e : ℕ) (c : Arc CachedValue Global) → r ≡ answer.Hit e c →
      AskedTo plan earlier later a (IsGrant plan later.journal a place e (cached (arc_value {X = CachedValue} c)) true NoNeed)
  hit_ends e c is =
      let t = step_as (answer.Hit e c) is in
      let kept : Cached = cached (arc_value {X = CachedValue} c) in
      stepped_asks a place (Hit e kept) t (IsGrant plan later.journal a place e kept true NoNeed) (by_kept (hit_at_last a place e kept t))

  -- what only other events are told
  pub other_never : (r ≡ answer.Kept) ⊎ (((cause : DropCause) × (r ≡ answer.Dropped cause)) ⊎
      (((n : ℕ) × (r ≡ answer.Held n)) ⊎ (((n : ℕ) × (r ≡ answer.CommonsFull n)) ⊎ (((n : ℕ) × (r ≡ answer.Removed n)) ⊎ ((n : ℕ) × (r ≡ answer.WithdrawnFull n)))))) → ⊥
  other_never (inl h) = told_of_ask a place Told.Kept (step_as answer.Kept h)
  other_never (inr (inl h)) = told_of_ask a place (Told.Dropped h.0) (step_as (answer.Dropped h.0) h.1)
  other_never (inr (inr (inl h))) = told_of_ask a place (Told.Held h.0) (step_as (answer.Held h.0) h.1)
  other_never (inr (inr (inr (inl h)))) = told_of_ask a place (Told.CommonsFull h.0) (step_as (answer.CommonsFull h.0) h.1)
  other_never (inr (inr (inr (inr (inl h))))) = told_of_ask a place (Told.Removed h.0) (step_as (answer.Removed h.0) h.1)
  other_never (inr (inr (inr (inr (inr h))))) = told_of_ask a place (Told.WithdrawnFull h.0) (step_as (answer.WithdrawnFull h.0) h.1)

-- ---- how it ended, of what the program answers

pub asked_as : {plan : Plan} {earlier later : JournalSeen} {a : Ask} (P Q : List ℕ → Type 0) → ((own : List ℕ) → P own → Q own) → AskedTo plan earlier later a P → AskedTo plan earlier later a Q
asked_as P Q go t = record {
  places = t.places;
  goes_on = t.goes_on;
  undisturbed = t.undisturbed;
  legal = t.legal;
  owned = t.owned;
  new = t.new;
  there = t.there;
  ascending = t.ascending;
  ends = go t.places t.ends;
}

plainly : (plan : Plan) (journal : List Entry) (a : Ask) (place : ℕ) (v : Verdict) (own : List ℕ) → EndsBy plan journal a place v own → Ends plan journal a place v false NoNeed own
plainly plan journal a place (verdict.Granted e c) own h = absurd h
plainly plan journal a place (verdict.Denied denial) own h = (h, refl, refl)
plainly plan journal a place (verdict.Replayed last) own h = (h, refl, refl)
plainly plan journal a place (verdict.Full held) own h = (h, refl, refl)
plainly plan journal a place (verdict.JournalFull n) own h = (h, refl, refl)

-- it is not granted
pub ends_made : {plan : Plan} {earlier later : JournalSeen} {a : Ask} (asked : Asked) (place : ℕ) (v : Verdict) →
    asked ≡ record { place = place; verdict = v; kept = false; settled = NoNeed } →
    AskedTo plan earlier later a (EndsBy plan later.journal a place v) → AskedTo plan earlier later a (AskEnds plan later.journal a asked)
ends_made {plan = plan} {later = later} {a = a} asked place v is t =
    asked_as (EndsBy plan later.journal a place v) (AskEnds plan later.journal a asked)
    (λ own h. subst (λ (r : Asked). AskEnds plan later.journal a r own) (sym is) (plainly plan later.journal a place v own h)) t

-- it is granted by a kept proof
pub hit_made : {plan : Plan} {earlier later : JournalSeen} {a : Ask} (asked : Asked) (place e : ℕ) (c : Arc CachedValue Global) →
    asked ≡ record { place = place; verdict = verdict.Granted e c; kept = true; settled = NoNeed } →
    AskedTo plan earlier later a (IsGrant plan later.journal a place e (cached (arc_value {X = CachedValue} c)) true NoNeed) → AskedTo plan earlier later a (AskEnds plan later.journal a asked)
hit_made {plan = plan} {later = later} {a = a} asked place e c is t =
    asked_as (IsGrant plan later.journal a place e (cached (arc_value {X = CachedValue} c)) true NoNeed) (AskEnds plan later.journal a asked)
    (λ own h. subst (λ (r : Asked). AskEnds plan later.journal a r own) (sym is) h) t

-- ---- what stands at a place of a list

pub standing : {X : Type 0} (xs : List X) (i : ℕ) → i < length xs → (x : X) × (slice_get xs i ≡ Some x)
standing [] i lt = absurd (omega (arith, lt))
standing (x ∷ xs) zero lt = (x, refl)
standing (x ∷ xs) (suc i) lt = standing xs i (omega (arith, lt))

-- ---- a question about what an Ask is judged by is within the limits

module _ (plans : List Plan) (anchors : List Anchor) (are : AreShards plans anchors) (number : ℕ) (plan : Plan) (at : slice_get plans number ≡ Some plan) where
  pub anchors_are : plan.anchors ≡ anchors
  anchors_are = All-at (λ (p : Plan). p.anchors ≡ anchors) plans number plan are.anchored at

  pub askable : (before : List Entry) (a : Ask) (moment : ℕ) (certs : List Certificate) (count : ℕ) → length certs ≡ count → IsJudged plan before a moment certs → FitsAsk a →
      IsAskable anchors certs (replicate count true) a.subject a.list
  askable before a moment certs count counted judged fits =
      let is : IsPlan plan = All-at IsPlan plans number plan are.sound at in
      record {
        anchors_fit = subst (λ (l : List Anchor). length l ≤ 64) anchors_are is.few_anchors;
        certs_fit = judges_few plan is.few_commons before a moment certs judged;
        chosen_fit = length-replicate count true ∙ sym counted;
        subject_fits = fits.subject;
        list_fits = fits.few_entries;
        entries_fit = fits.entries;
      }
