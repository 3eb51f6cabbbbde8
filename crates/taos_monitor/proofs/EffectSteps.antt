-- The steps of an effect: what one is told, and how they go on from shard to shard.
use Rattle.std.proofs.Common.{◌≡◌, ◌≢◌, ℕ, zero, suc, ◌+◌, ◌<◌, Bool, false, List, [], ◌∷◌, ◌++◌, length, map, Option, Some, slice_get, refl, sym, ap, subst, subst₂, ◌∙◌, arith, inl, inr, append-nil, length-append}
use Rattle.std.specs.Prelude.{All, IsTrue, ◌↔◌, ◌⊎◌}
use Rattle.std.specs.List.{range_with_len, sum_by}
use Rattle.std.proofs.lemmas.Bool.{cases_eq}
use Rattle.std.proofs.lemmas.List.{get_or_append_left, map-append}
use Rattle.std.proofs.Math.Seq.{get_or-append_seam}
use Rattle.std.specs.Option.{option_to_list}
use Rattle.std.proofs.lemmas.List.Elements.{All-append, All-cons, All-nil}
use Rattle.std.proofs.lemmas.List.Sums.{sum_by_push}
use Rattle.std.proofs.lemmas.Option.{same_Some}
use Rattle.agent_core.specs.declared.told.Told.{Told}
use Rattle.agent_core.specs.State.{Plan, Event, next}
use Rattle.agent_core.specs.Journals.{Entry, entry, Stands, IsLegalJournal}
use Rattle.agent_core.specs.Answers.{SteppedTo}
use Rattle.agent_core.specs.declared.told.Answer.{Answer as ValueOfAnswer}
use Rattle.agent_core.specs.declared.told.Answer.TheVariants as answer
use Rattle.agent_core.specs.declared.told.DropCause.{DropCause}
use Rattle.agent_core.specs.declared.told.Snapshot.{Snapshot}
use Rattle.std.specs.Arc.{arc_value}
use Rattle.std.specs.declared.alloc.Global.{Global}
use Rattle.std.specs.declared.sync.Arc.{Arc}
use Rattle.stmt_codec.specs.View.{certificates}
use Rattle.proof_cache.specs.Cached.{cached}
use Rattle.proof_cache.specs.declared.cached.Cached.{Cached as CachedValue}
use Rattle.agent_core.specs.Steps.{StepAnswer, Hit, Miss, Other, IsAnswer, other, JournalSeen, StepsTo, StepRefused}
use Rattle.agent_core.specs.Shards.{HasPlanAt, LeavesShards, ShardsSeen, shard_at}
use Rattle.agent_core.specs.declared.event.Event.{Event as EventValue}
use Rattle.agent_core.specs.Views.{event_of}
use Rattle.agent_core.proofs.Asks.{standing}
use Rattle.taos_monitor.specs.declared.stepping.Went.{Went}
use Rattle.taos_monitor.specs.declared.stepping.Went.TheVariants as how
use Rattle.request_course.specs.Cells.{in_shard, ShardsGoOn, AreLegalShards, shards_in}
use Rattle.request_course.specs.Operations.{IsEffect}
use Rattle.request_course.specs.Effects.{IsDone, WantsRoom, removed_by, ShardStep, step_at, its_place, LetsGo, IsStep, AreDone, WentThrough, FoundNoRoom, FoundNoPlace}
use Rattle.taos_monitor.specs.Performing.{WentAs, SteppedBy, CanStep}
use Rattle.request_course.proofs.Going.{OneGoesOn, one_place, no_places, shard_went_on, shards_twice, shards_stood, shards_begin}
use Rattle.request_course.proofs.Staying.{steps_stay}
use Rattle.request_course.proofs.EffectTold.{IsAnswerToEffect, told_effect}

-- ---- what is told of an effect

told_other : {plan : Plan} {before : List Entry} {event : Event} (told told' : Told) → IsAnswer plan before event told (Other told') → told ≡ told'
told_other told told' (other e) = refl

-- what only an Ask is told, or a Keep
module _ (plan : Plan) (earlier later : JournalSeen) (event : Event) (place : ℕ) (r : ValueOfAnswer) (is_effect : IsEffect event) (s : SteppedTo plan earlier later event place r) where
  no_effect_step : (x : ValueOfAnswer) (y : StepAnswer) → r ≡ x → (SteppedTo plan earlier later event place x → StepsTo plan earlier later event place y) → IsAnswerToEffect y
  no_effect_step x y is go = told_effect place y is_effect (go (subst (SteppedTo plan earlier later event place) is s))

  pub never_asked : ((n : ℕ) × (r ≡ answer.Replayed n)) ⊎ (((n : ℕ) × (r ≡ answer.Full n)) ⊎ (((n : ℕ) × (x : Arc CachedValue Global) × (r ≡ answer.Hit n x)) ⊎
      (((x : Snapshot) × (r ≡ answer.Miss x)) ⊎ ((r ≡ answer.Kept) ⊎ ((x : DropCause) × (r ≡ answer.Dropped x)))))) → ⊥
  never_asked (inl h) = no_effect_step (answer.Replayed h.0) (Other (Told.Replayed h.0)) h.1 (λ t. t)
  never_asked (inr (inl h)) = no_effect_step (answer.Full h.0) (Other (Told.Full h.0)) h.1 (λ t. t)
  never_asked (inr (inr (inl h))) = no_effect_step (answer.Hit h.0 h.1) (Hit h.0 (cached (arc_value {X = CachedValue} h.1))) h.2 (λ t. t)
  never_asked (inr (inr (inr (inl h)))) = no_effect_step (answer.Miss h.0) (Miss h.0.moment (certificates h.0.certs.items)) h.1 (λ t. t)
  never_asked (inr (inr (inr (inr (inl h))))) = no_effect_step answer.Kept (Other Told.Kept) h (λ t. t)
  never_asked (inr (inr (inr (inr (inr h))))) = no_effect_step (answer.Dropped h.0) (Other (Told.Dropped h.0)) h.1 (λ t. t)

-- ---- one step, in what was seen

goes_refused : {plan : Plan} {earlier later : JournalSeen} → StepRefused plan earlier later → OneGoesOn earlier.alone earlier.journal later.journal earlier.own later.own []
goes_refused {earlier = earlier} {later} s = no_places earlier.alone earlier.journal later.journal earlier.own later.own s.goes_on s.undisturbed s.owned

module _ {plan : Plan} {earlier later : JournalSeen} {event : Event} where
  goes_stepped : (place : ℕ) (x : StepAnswer) → StepsTo plan earlier later event place x → OneGoesOn earlier.alone earlier.journal later.journal earlier.own later.own (place ∷ [])
  goes_stepped place x s =
      one_place earlier.alone earlier.journal s.before later.journal earlier.own later.own (entry event s.steps.told) place s.goes_on s.undisturbed s.steps.adds s.steps.placed s.owned

  stands_here : (place : ℕ) (told : Told) (s : StepsTo plan earlier later event place (Other told)) → Stands later.journal place s.before (entry event told)
  stands_here place told s = record {
    rest = [];
    is = s.steps.adds ∙ ap (λ t. s.before ++ entry event t ∷ []) (told_other s.steps.told told s.steps.answers);
    placed = s.steps.placed;
  }

-- ---- and so on

-- so far each of these shards was stepped
pub record AreStepped (old now : ShardsSeen) (effect : Option Event) (shards : List ℕ) (removed : Bool) : Type 0 where
  pub steps : List ShardStep
  pub goes_on : ShardsGoOn old.alone (shards_in old) (shards_in now) (map its_place steps)
  pub legal : AreLegalShards old.plans now.seen
  pub through : WentThrough now.seen effect shards steps
  pub removed_is : IsTrue removed ↔ LetsGo steps

module _ (old before after : ShardsSeen) (effect : Option Event) (shards : List ℕ) (removed : Bool)
    (so_far : AreStepped old before effect shards removed)
    (h : ℕ) (plan : Plan) (planned : slice_get old.plans h ≡ Some plan) (event : Event) (effect_is : effect ≡ Some event)
    (others : (s : ℕ) → s ≢ h → (after.seen s ≡ before.seen s) × (after.own s ≡ before.own s)) where
  abbrev earlier : JournalSeen
  earlier = record { alone = old.alone; journal = before.seen h; own = before.own h }

  abbrev later : JournalSeen
  later = record { alone = old.alone; journal = after.seen h; own = after.own h }

  legal_now : IsLegalJournal plan (after.seen h) → AreLegalShards old.plans after.seen
  legal_now legal s p at = elim (cases_eq s h) [
    | inl e ↦
        let is : p ≡ plan = same_Some p plan (sym at ∙ ap (slice_get old.plans) e ∙ planned) in
        subst (λ (q : Plan). IsLegalJournal q (after.seen s)) (sym is) (subst (λ (t : ℕ). IsLegalJournal plan (after.seen t)) (sym e) legal)
    | inr ne ↦ subst (IsLegalJournal p) (sym (others s ne).0) (so_far.legal s p at)
  ]

  -- a step more
  module _ (place : ℕ) (told : Told) (s : StepsTo plan earlier later event place (Other told)) where
    went : ShardsGoOn old.alone (shards_in before) (shards_in after) (in_shard h place ∷ [])
    went = shard_went_on h before.seen after.seen before.own after.own others old.alone (place ∷ []) (goes_stepped place (Other told) s)

    both_went : ShardsGoOn old.alone (shards_in old) (shards_in after) (map its_place (so_far.steps ++ step_at h place told ∷ []))
    both_went =
        subst (ShardsGoOn old.alone (shards_in old) (shards_in after)) (sym (map-append its_place so_far.steps (step_at h place told ∷ [])))
        (shards_twice old.alone (shards_in old) (shards_in before) (shards_in after) (map its_place so_far.steps) (in_shard h place ∷ []) so_far.goes_on went)

    is_step : IsStep after.seen effect (step_at h place told)
    is_step = record { event = event; effect_is = effect_is; before = s.before; stands = stands_here place told s }

    before_done : AreDone after.seen effect so_far.steps
    before_done = steps_stay before.seen after.seen effect so_far.steps (shards_begin old.alone (shards_in before) (shards_in after) (in_shard h place ∷ []) went) so_far.through.are_done

    pub one_more : IsDone told → (n : ℕ) → n ≡ removed_by told → (any : Bool) → (IsTrue any ↔ (IsTrue removed ⊎ (0 < n))) → AreStepped old after effect (shards ++ h ∷ []) any
    one_more is_done n count any tells = record {
      steps = so_far.steps ++ step_at h place told ∷ [];
      goes_on = both_went;
      legal = legal_now s.steps.legal;
      through = record {
        order = map-append (λ (x : ShardStep). x.shard) so_far.steps (step_at h place told ∷ []) ∙ ap (λ (l : List ℕ). l ++ h ∷ []) so_far.through.order;
        are_done = record {
          stand = All-append (IsStep after.seen effect) so_far.steps (step_at h place told ∷ []) before_done.stand (All-cons (IsStep after.seen effect) (step_at h place told) [] is_step (All-nil (IsStep after.seen effect)));
          done = All-append (λ (x : ShardStep). IsDone x.told) so_far.steps (step_at h place told ∷ []) before_done.done
              (All-cons (λ (x : ShardStep). IsDone x.told) (step_at h place told) [] is_done (All-nil (λ (x : ShardStep). IsDone x.told)));
        };
      };
      removed_is = (
        λ t. elim (tells.0 t) [
          | inl was ↦ (let before : LetsGo so_far.steps = so_far.removed_is.0 was in omega (arith, before, more))
          | inr now ↦ omega (arith, now, count, more)
        ],
        λ lets. elim (cases_eq n 0) [
          | inl none ↦ tells.1 (inl (so_far.removed_is.1 (omega (arith, lets, none, count, more))))
          | inr any_now ↦ tells.1 (inr (omega (arith, any_now)))
        ],
      );
    }
      where
        more : sum_by (λ (x : ShardStep). removed_by x.told) (so_far.steps ++ step_at h place told ∷ []) ≡ sum_by (λ (x : ShardStep). removed_by x.told) so_far.steps + removed_by told
        more = sum_by_push (λ (x : ShardStep). removed_by x.told) so_far.steps (step_at h place told)

  -- a shard that has no room
  pub stopped_no_room : (rest : List ℕ) (place : ℕ) (told : Told) → WantsRoom told → StepsTo plan earlier later event place (Other told) →
      SteppedBy old after (λ steps. FoundNoRoom after.seen effect (shards ++ h ∷ rest) steps h told × WantsRoom told)
  stopped_no_room rest place told lacks s = record {
    steps = so_far.steps ++ step_at h place told ∷ [];
    goes_on = both_went place told s;
    legal = legal_now s.steps.legal;
    ends = (
      record {
        done = so_far.steps;
        place = place;
        rest = rest;
        order = ap (λ (l : List ℕ). l ++ h ∷ rest) (sym so_far.through.order);
        are_done = before_done place told s;
        steps_are = refl;
        refused = is_step place told s;
      },
      lacks,
    );
  }

  -- a journal that is full
  pub stopped_full : (rest : List ℕ) (n : ℕ) → StepRefused plan earlier later → length (after.seen h) ≡ plan.limit → n ≡ plan.limit →
      SteppedBy old after (λ steps. FoundNoPlace after.seen effect old.plans (shards ++ h ∷ rest) steps h n)
  stopped_full rest n s full limit =
      let stayed : ShardsGoOn old.alone (shards_in before) (shards_in after) [] = shard_went_on h before.seen after.seen before.own after.own others old.alone [] (goes_refused s) in
      record {
        steps = so_far.steps;
        goes_on = subst (ShardsGoOn old.alone (shards_in old) (shards_in after)) (append-nil (map its_place so_far.steps))
            (shards_twice old.alone (shards_in old) (shards_in before) (shards_in after) (map its_place so_far.steps) [] so_far.goes_on stayed);
        legal = legal_now s.legal;
        ends = record {
          rest = rest;
          order = ap (λ (l : List ℕ). l ++ h ∷ rest) (sym so_far.through.order);
          are_done = steps_stay before.seen after.seen effect so_far.steps (shards_begin old.alone (shards_in before) (shards_in after) [] stayed) so_far.through.are_done;
          plan = plan;
          planned = planned;
          limit_is = limit;
          full = full;
        };
      }

-- no shard was stepped yet
pub none_stepped : (old : ShardsSeen) (effect : Option Event) → AreLegalShards old.plans old.seen → AreStepped old old effect [] false
none_stepped old effect legal = record {
  steps = [];
  goes_on = shards_stood old.alone (shards_in old);
  legal = legal;
  through = record {
    order = refl;
    are_done = record { stand = All-nil (IsStep old.seen effect); done = All-nil (λ (x : ShardStep). IsDone x.told) };
  };
  removed_is = (λ t. absurd cc, λ lets. absurd (omega (arith, lets)));
}

-- ---- which shards come next

pub range_split : (a n k : ℕ) → k < n → (rest : List ℕ) × (range_with_len a n ≡ range_with_len a k ++ (a + k) ∷ rest)
range_split a zero k lt = absurd (omega (arith, lt))
range_split a (suc n) zero lt = let same : a ≡ a + 0 = omega arith in (range_with_len (a + 1) n, ap (λ p. p ∷ range_with_len (a + 1) n) same)
range_split a (suc n) (suc k) lt =
    let (rest, is) = range_split (a + 1) n k (omega (arith, lt)) in
    let same : a + 1 + k ≡ a + suc k = omega arith in
    (rest, ap (λ l. a ∷ l) (is ∙ ap (λ p. range_with_len (a + 1) k ++ p ∷ rest) same))

next_range : (a n place : ℕ) → a + n ≡ place → range_with_len a (suc n) ≡ range_with_len a n ++ place ∷ []
next_range a zero place e = let same : a ≡ place = omega arith in ap (λ p. p ∷ []) same
next_range a (suc n) place e = ap (λ l. a ∷ l) (next_range (a + 1) n place (omega arith))

pub range_more : (a n : ℕ) → range_with_len a (n + 1) ≡ range_with_len a n ++ (a + n) ∷ []
range_more a n = let more : n + 1 ≡ suc n = omega arith in ap (range_with_len a) more ∙ next_range a n (a + n) refl

-- ---- the walk

-- the last element was taken off
pub popped : {X : Type 0} (P : X → Type 0) (old new : List X) (r : Option X) (x : X) → All P old → old ≡ new ++ option_to_list r → r ≡ Some x → All P new × P x
popped {X = X} P old new r x all is some =
    let more : old ≡ new ++ x ∷ [] = is ∙ ap (λ (o : Option X). new ++ option_to_list o) some in
    let both = subst (All P) more all in (
      λ k d lt. subst P (get_or_append_left new (x ∷ []) d k lt) (both k d (omega (arith, lt, length-append new (x ∷ [])))),
      subst P (get_or-append_seam new x [] x) (both (length new) x (omega (arith, length-append new (x ∷ [])))),
    )

pub popped_length : {X : Type 0} (old new : List X) (r : Option X) (x : X) → old ≡ new ++ option_to_list r → r ≡ Some x → length old ≡ length new + 1
popped_length {X = X} old new r x is some = ap (λ l. length l) (is ∙ ap (λ (o : Option X). new ++ option_to_list o) some) ∙ length-append new (x ∷ [])

module _ (old before after : ShardsSeen) (same_plans : before.plans ≡ old.plans) (same_alone : before.alone ≡ old.alone)
    (effect : Option Event) (first place : ℕ) (removed : Bool) (so_far : AreStepped old before effect (range_with_len first place) removed)
    (h : ℕ) (h_is : h ≡ first + place) (within : h < length old.plans) (e : EventValue) (can : CanStep effect e) (rest : LeavesShards before after h) where
  abbrev WentHere : Went → Type 0
  WentHere w = (plan : Plan) → HasPlanAt before h plan → WentAs plan (shard_at before h) (shard_at after h) (event_of e) w

  -- as nobody else steps the shards, or others do, from the first step on
  abbrev at_first : ShardsSeen → Bool → JournalSeen
  at_first s alone = record { alone = alone; journal = s.seen h; own = s.own h }

  went_here : (w : Went) → WentHere w → (plan : Plan) × (slice_get old.plans h ≡ Some plan) × WentAs plan (at_first before old.alone) (at_first after old.alone) (event_of e) w
  went_here w went =
      let (plan, planned) = standing old.plans h within in
      (plan, planned, subst₂ (λ (a b : Bool). WentAs plan (at_first before a) (at_first after b) (event_of e) w) same_alone (rest.alone ∙ same_alone) (went plan (ap (λ ps. slice_get ps h) same_plans ∙ planned)))

  pub done_more : (n : ℕ) → WentHere (how.Done n) → (any : Bool) → (IsTrue any ↔ (IsTrue removed ⊎ (0 < n))) → AreStepped old after effect (range_with_len first (place + 1)) any
  done_more n went any tells =
      let (plan, planned, here) = went_here (how.Done n) went in
      let (at, told, s, done, count) = here in
      let next : range_with_len first place ++ h ∷ [] ≡ range_with_len first (place + 1) = ap (λ k. range_with_len first place ++ k ∷ []) h_is ∙ sym (range_more first place) in
      subst (λ ss. AreStepped old after effect ss any) next
      (one_more old before after effect (range_with_len first place) removed so_far h plan planned (event_of e) can.same rest.others at told s done n count any tells)

  pub no_room : (told : Told) (count : ℕ) → place < count → WentHere (how.NoRoom told) →
      SteppedBy old after (λ steps. FoundNoRoom after.seen effect (range_with_len first count) steps h told × WantsRoom told)
  no_room told count lt went =
      let (plan, planned, here) = went_here (how.NoRoom told) went in
      let (at, s, lacks) = here in
      let (rest', split) = range_split first count place lt in
      let all : range_with_len first place ++ h ∷ rest' ≡ range_with_len first count = ap (λ k. range_with_len first place ++ k ∷ rest') h_is ∙ sym split in
      subst (λ ss. SteppedBy old after (λ steps. FoundNoRoom after.seen effect ss steps h told × WantsRoom told)) all
      (stopped_no_room old before after effect (range_with_len first place) removed so_far h plan planned (event_of e) can.same rest.others rest' at told lacks s)

  pub no_place : (n count : ℕ) → place < count → WentHere (how.Full n) → SteppedBy old after (λ steps. FoundNoPlace after.seen effect old.plans (range_with_len first count) steps h n)
  no_place n count lt went =
      let (plan, planned, here) = went_here (how.Full n) went in
      let (s, full, limit) = here in
      let (rest', split) = range_split first count place lt in
      let all : range_with_len first place ++ h ∷ rest' ≡ range_with_len first count = ap (λ k. range_with_len first place ++ k ∷ rest') h_is ∙ sym split in
      subst (λ ss. SteppedBy old after (λ steps. FoundNoPlace after.seen effect old.plans ss steps h n)) all
      (stopped_full old before after effect (range_with_len first place) removed so_far h plan planned (event_of e) can.same rest.others rest' n s full limit)
