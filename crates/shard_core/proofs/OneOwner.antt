-- A step of a shard that nobody else steps is a step among others, of which there are none.
use Rattle.std.proofs.Common.{◌≡◌, ℕ, zero, suc, ◌+◌, ◌-◌, ◌<◌, ◌≤◌, true, List, [], ◌∷◌, ◌++◌, length, map, take, get_or, set, Option, None, Some, Result, Ok, Err, slice_get, refl, ap₂, sym, ap, ◌∙◌, subst, arith, length-append, length-set, inl, inr}
use Rattle.std.specs.Prelude.{All, IfOk, OnErr}
use Rattle.std.specs.List.{range_with_len}
use Rattle.std.specs.Option.{option_map}
use Rattle.std.proofs.lemmas.Bool.{cases_eq}
use Rattle.std.proofs.lemmas.List.{map-set, map_more, length-map}
use Rattle.std.proofs.lemmas.List.Elements.{All-set, All-more}
use Rattle.std.proofs.lemmas.Option.{same_Some, slice_get-map, slice_get-get_or, slice_get_within}
use Rattle.prin_term.specs.declared.term.Anchor.{Anchor}
use Rattle.agent_core.specs.declared.told.Answer.{Answer}
use Rattle.agent_core.specs.State.{Plan, Event}
use Rattle.agent_core.specs.Journals.{Entry, entry, Begins, ShardSeen, IsMeant, IsLegalJournal, told_at}
use Rattle.agent_core.specs.Steps.{JournalSeen, StepAnswer, Steps, StepsTo, StepRefused}
use Rattle.agent_core.specs.Answers.{Given, Handed, Full, given_by, OfGiven, OfAnswer, Stepped, SteppedTo, TakesMemory}
use Rattle.agent_core.specs.Plans.{AreShards}
use Rattle.shard_core.specs.Alone.{LoneSeen, plans_in, journal_of, seen_in, own_in, places_from, shards_seen, HasLegalJournal, IsLone}
use Rattle.agent_core.specs.Shards.{LeavesShards, StepsAmong, shard_at}
use Rattle.taos_calculus.proofs.Induction.{All-at}
use Rattle.agent_core.proofs.Asks.{standing}
use Rattle.agent_core.proofs.Onward.{begins_itself}
use Rattle.shard_core.proofs.Places.{set_same, set_other}

-- ---- answers

-- what follows from what holds of an answer
module _ (H H' : StepAnswer → Type 0) (F F' : ℕ → Type 0) (handed : (x : StepAnswer) → H x → H' x) (full : (n : ℕ) → F n → F' n) where
  of_given : (g : Given) → OfGiven H F g → OfGiven H' F' g
  of_given (Handed x) h = handed x h
  of_given (Full n) h = full n h

  pub of_answer : (r : Answer) → OfAnswer H F r → OfAnswer H' F' r
  of_answer r = of_given (given_by r)

module _ (H : StepAnswer → Type 0) (F : ℕ → Type 0) (P : Type 0) (handed : (x : StepAnswer) → H x → P) (full : (n : ℕ) → F n → P) where
  from_given : (g : Given) → OfGiven H F g → P
  from_given (Handed x) h = handed x h
  from_given (Full n) h = full n h

  pub from_answer : (r : Answer) → OfAnswer H F r → P
  from_answer r = from_given (given_by r)

-- ---- the places that were added

range_more : (first n place : ℕ) → first + n ≡ place → range_with_len first (suc n) ≡ range_with_len first n ++ place ∷ []
range_more first zero place e = let same : first ≡ place = omega arith in ap (λ p. p ∷ []) same
range_more first (suc n) place e = ap (λ l. first ∷ l) (range_more (first + 1) n place (omega arith))

-- what its one owner sees of a shard whose journal was so long at first
abbrev own_sight : Option ℕ → List Entry → JournalSeen
own_sight opened journal = record { alone = true; journal = journal; own = places_from opened (length journal) }

module _ (plan : Plan) (journal later : List Entry) (event : Event) (place first : ℕ) (longer : first ≤ length journal) (legal : IsLegalJournal plan journal) where
  step_added : (x : StepAnswer) → Steps plan journal event later place x →
      StepsTo plan (own_sight (Some first) journal) (own_sight (Some first) later) event place x
  step_added x s =
      let more : length later ≡ length journal + 1 = ap (λ (l : List Entry). length l) s.adds ∙ length-append journal (entry event s.told ∷ []) in
      let count : length later - first ≡ suc (length journal - first) = omega arith in
      let here : first + (length journal - first) ≡ place = let at : length journal ≡ place = s.placed in omega arith in
      record {
        before = journal;
        goes_on = begins_itself journal;
        undisturbed = λ e. refl;
        steps = s;
        owned = ap (range_with_len first) count ∙ range_more first (length journal - first) place here;
      }

  pub stepped_added : (r : Answer) → Stepped plan journal event later place r →
      SteppedTo plan (own_sight (Some first) journal) (own_sight (Some first) later) event place r
  stepped_added = of_answer _ _ _ _ step_added
      (λ n f. let same : later ≡ journal = f.0 in (
        record {
          goes_on = subst (λ l. Begins journal l) (sym same) (begins_itself journal);
          undisturbed = λ e. same;
          legal = subst (IsLegalJournal plan) (sym same) legal;
          owned = ap (λ (l : List Entry). places_from (Some first) (length l)) same;
        },
        ap (λ (l : List Entry). length l) same ∙ f.1,
        f.2,
        f.3,
      ))

  abbrev IsLonger : Type 0
  IsLonger = IsLegalJournal plan later × (length journal ≤ length later)

  longer_step : (x : StepAnswer) → Steps plan journal event later place x → IsLonger
  longer_step x s =
      let more : length later ≡ length journal + 1 = ap (λ (l : List Entry). length l) s.adds ∙ length-append journal (entry event s.told ∷ []) in
      (s.legal, omega arith)

  pub stepped_legal : (r : Answer) → Stepped plan journal event later place r → IsLonger
  stepped_legal = from_answer _ _ _ longer_step
      (λ n f. (subst (IsLegalJournal plan) (sym f.0) legal, let same : length later ≡ length journal = ap (λ (l : List Entry). length l) f.0 in omega arith))

-- ---- one shard of many

pub set_itself : {X : Type 0} (xs : List X) (i : ℕ) (x : X) → slice_get xs i ≡ Some x → set xs i x ≡ xs
set_itself [] i x e = refl
set_itself (y ∷ ys) zero x e = let same : y ≡ x = cc in ap (λ z. z ∷ ys) (sym same)
set_itself (y ∷ ys) (suc i) x e = ap (λ l. y ∷ l) (set_itself ys i x e)

abbrev plan_in : ShardSeen → Plan
plan_in s = s.plan

module _ (shards : List ShardSeen) (number : ℕ) (s s' : ShardSeen) (here : slice_get shards number ≡ Some s) (same_plan : s'.plan ≡ s.plan) where
  pub plan_here : slice_get (plans_in shards) number ≡ Some s.plan
  plan_here = slice_get-map plan_in shards number ∙ ap (option_map plan_in) here

  pub plan_is : (plan : Plan) → slice_get (plans_in shards) number ≡ Some plan → s.plan ≡ plan
  plan_is plan at = same_Some s.plan plan (sym plan_here ∙ at)

  pub same_plans : plans_in (set shards number s') ≡ plans_in shards
  same_plans = map-set plan_in shards number s' ∙ set_itself (plans_in shards) number s'.plan (plan_here ∙ ap Some (sym same_plan))

  pub seen_now : seen_in (set shards number s') number ≡ s'.journal
  seen_now = ap journal_of (set_same shards number s' (slice_get_within shards number s here))

  pub seen_other : (k : ℕ) → (k ≡ number → ⊥) → seen_in (set shards number s') k ≡ seen_in shards k
  seen_other k other = ap journal_of (set_other shards number s' k other)

  module _ (opened : List ℕ) (anchors : List Anchor) (is : IsLone shards opened anchors) where
    -- how long its journal was at first
    pub opened_at : (n : ℕ) × (slice_get opened number ≡ Some n) × (n ≤ length s.journal)
    opened_at =
        let lt : number < length opened = let within : number < length shards = slice_get_within shards number s here in let long : length opened ≡ length shards = is.counted in omega arith in
        let at : slice_get opened number ≡ Some (get_or opened number 0) = slice_get-get_or opened number 0 lt in
        (get_or opened number 0, at, is.longer number (get_or opened number 0) s at here)

    pub lone_after : IsLegalJournal s'.plan s'.journal → length s.journal ≤ length s'.journal → IsLone (set shards number s') opened anchors
    lone_after legal more = record {
      sound = subst (λ plans. AreShards plans anchors) (sym same_plans) is.sound;
      counted = is.counted ∙ sym (length-set shards number s');
      longer = λ i n t at there. elim (cases_eq i number) [
        | inl same ↦ (
            let now : s' ≡ t = same_Some s' t (sym (set_same shards number s' (slice_get_within shards number s here)) ∙ ap (slice_get (set shards number s')) (sym same) ∙ there) in
            let was : n ≤ length s.journal = is.longer number n s (ap (slice_get opened) (sym same) ∙ at) here in
            subst (λ (x : ShardSeen). n ≤ length x.journal) now (omega arith))
        | inr other ↦ is.longer i n t at (sym (set_other shards number s' i other) ∙ there)
      ];
      legal = All-set HasLegalJournal shards number s' legal is.legal;
    }

    pub stepped_alone : (event : Event) (place : ℕ) (r : Answer) → IsLegalJournal s.plan s.journal → Stepped s.plan s.journal event s'.journal place r →
        SteppedTo s.plan (own_sight (slice_get opened number) (seen_in shards number)) (own_sight (slice_get opened number) (seen_in (set shards number s') number)) event place r
    stepped_alone event place r legal stepped =
        let (first, at, longer) = opened_at in
        let P : Option ℕ → List Entry → List Entry → Type 0 = λ o x y. SteppedTo s.plan (own_sight o x) (own_sight o y) event place r in
        let now : P (Some first) s.journal s'.journal = stepped_added s.plan s.journal s'.journal event place first longer legal r stepped in
        subst (λ o. P o (seen_in shards number) (seen_in (set shards number s') number)) (sym at)
        (subst (λ x. P (Some first) x (seen_in (set shards number s') number)) (sym (ap journal_of here))
        (subst (λ y. P (Some first) s.journal y) (sym seen_now) now))

-- ---- the shards of one owner

pub shard_here : (l v : LoneSeen) (number : ℕ) (s : ShardSeen) → l ≡ v → number < length (plans_in v.shards) → s ≡ get_or l.shards number s → slice_get l.shards number ≡ Some s
shard_here l v number s same there is =
    let lt : number < length (plans_in l.shards) = subst (λ (x : LoneSeen). number < length (plans_in x.shards)) (sym same) there in
    slice_get-get_or l.shards number s (omega (arith, length-map l.shards plan_in)) ∙ ap Some (sym is)

pub meant_here : (l v : LoneSeen) (number : ℕ) (s : ShardSeen) (event : Event) → l ≡ v → slice_get l.shards number ≡ Some s →
    ((plan : Plan) → slice_get (plans_in v.shards) number ≡ Some plan → IsMeant plan (seen_in v.shards number) event) → IsMeant s.plan s.journal event
meant_here l v number s event same here meant =
    subst (λ j. IsMeant s.plan j event) (ap journal_of here)
    (subst (λ (x : LoneSeen). (plan : Plan) → slice_get (plans_in x.shards) number ≡ Some plan → IsMeant plan (seen_in x.shards number) event) (sym same) meant s.plan (plan_here l.shards number s s here refl))

-- a plan is that of a shard
standing_shard : (shards : List ShardSeen) (number : ℕ) (plan : Plan) → slice_get (plans_in shards) number ≡ Some plan → (s : ShardSeen) × (slice_get shards number ≡ Some s)
standing_shard shards number plan at =
    standing shards number (let lt : number < length (plans_in shards) = slice_get_within (plans_in shards) number plan at in omega (arith, length-map shards plan_in))

pub lone_legal : (shards : List ShardSeen) → All HasLegalJournal shards → (number : ℕ) (plan : Plan) → slice_get (plans_in shards) number ≡ Some plan → IsLegalJournal plan (seen_in shards number)
lone_legal shards legal number plan at =
    let (s, here) = standing_shard shards number plan at in
    subst (λ p. IsLegalJournal p (seen_in shards number)) (plan_is shards number s s here refl plan at)
    (subst (IsLegalJournal s.plan) (sym (ap journal_of here)) (All-at HasLegalJournal shards number s legal here))

abbrev entries_in : ShardSeen → ℕ
entries_in s = length s.journal

module _ (shards : List ShardSeen) (opened : List ℕ) (are : opened ≡ map entries_in shards) where
  pub lone_new : (anchors : List Anchor) → AreShards (plans_in shards) anchors → All HasLegalJournal shards → IsLone shards opened anchors
  lone_new anchors sound legal = record {
    sound = sound;
    counted = ap (λ (ns : List ℕ). length ns) are ∙ length-map shards entries_in;
    longer = λ i n s at here.
        let same : entries_in s ≡ n = same_Some (entries_in s) n (sym (ap (λ (ns : List ℕ). slice_get ns i) are ∙ (slice_get-map entries_in shards i ∙ ap (option_map entries_in) here)) ∙ at) in
        omega (arith, same);
    legal = legal;
  }

  none_added : (o : Option ShardSeen) → places_from (option_map entries_in o) (length (journal_of o)) ≡ []
  none_added None = refl
  none_added (Some s) = let none : length s.journal - length s.journal ≡ 0 = omega arith in ap (range_with_len (length s.journal)) none

  pub own_new : (number : ℕ) → places_from (slice_get opened number) (length (seen_in shards number)) ≡ []
  own_new number =
      ap (λ o. places_from o (length (seen_in shards number))) (ap (λ (ns : List ℕ). slice_get ns number) are ∙ slice_get-map entries_in shards number)
      ∙ none_added (slice_get shards number)

-- one more shard was looked at
pub lengths_more : (shards : List ShardSeen) (i : ℕ) (s : ShardSeen) → i < length shards → s ≡ get_or shards i s → (lengths later : List ℕ) (n : ℕ) →
    (lengths ≡ map entries_in (take i shards)) × All HasLegalJournal (take i shards) → later ≡ lengths ++ n ∷ [] → n ≡ length s.journal → HasLegalJournal s →
    (later ≡ map entries_in (take (i + 1) shards)) × All HasLegalJournal (take (i + 1) shards)
lengths_more shards i s lt here lengths later n so_far added is legal = (
  added ∙ (ap₂ (λ (l : List ℕ) k. l ++ k ∷ []) so_far.0 (is ∙ ap entries_in here) ∙ sym (map_more entries_in shards i s lt)),
  All-more HasLegalJournal shards i s lt so_far.1 (subst HasLegalJournal here legal),
)

module _ (l : LoneSeen) (anchors : List Anchor) (is : IsLone l.shards l.opened anchors) (number : ℕ) (s s' : ShardSeen) (here : slice_get l.shards number ≡ Some s) (same_plan : s'.plan ≡ s.plan) (event : Event) where
  abbrev after : LoneSeen
  after = record { shards = set l.shards number s'; opened = l.opened }

  legal_here : IsLegalJournal s.plan s.journal
  legal_here = All-at HasLegalJournal l.shards number s is.legal here

  pub kept_lone : {E : Type 0} (r : Result (ℕ × Answer) E) → IfOk r (λ x. Stepped s.plan s.journal event s'.journal x.0 x.1) → OnErr r (s' ≡ s) → IsLone after.shards l.opened anchors
  kept_lone (Ok x) answered unchanged =
      let (legal, longer) = stepped_legal s.plan s.journal s'.journal event x.0 0 (omega arith) legal_here x.1 answered in
      lone_after l.shards number s s' here same_plan l.opened anchors is (subst (λ p. IsLegalJournal p s'.journal) (sym same_plan) legal) longer
  kept_lone (Err e) answered unchanged =
      subst (λ shards. IsLone shards l.opened anchors) (sym (set_itself l.shards number s' (here ∙ ap Some (sym unchanged)))) is

  others_stay : (k : ℕ) → (k ≡ number → ⊥) → (seen_in after.shards k ≡ seen_in l.shards k) × (own_in after k ≡ own_in l k)
  others_stay k other =
      let same = seen_other l.shards number s s' here same_plan k other in
      (same, ap (λ (j : List Entry). places_from (slice_get l.opened k) (length j)) same)

  lone_rest : LeavesShards (shards_seen l) (shards_seen after) number
  lone_rest = record { plans = same_plans l.shards number s s' here same_plan; alone = refl; others = others_stay }

  pub lone_steps : {E : Type 0} (r : Result (ℕ × Answer) E) → IfOk r (λ x. Stepped s.plan s.journal event s'.journal x.0 x.1) → OnErr r (TakesMemory (told_at s.plan s.journal event)) →
      OnErr r (length s.journal < s.plan.limit) → OnErr r (s' ≡ s) → StepsAmong (shards_seen l) (shards_seen after) number event r
  lone_steps (Ok x) answered wanted room unchanged = record {
    here = λ plan at. record {
      steps = subst (λ p. SteppedTo p (shard_at (shards_seen l) number) (shard_at (shards_seen after) number) event x.0 x.1)
          (plan_is l.shards number s s' here same_plan plan at) (stepped_alone l.shards number s s' here same_plan l.opened anchors is event x.0 x.1 legal_here answered);
      refused = tt;
      wanted = tt;
      room = tt;
    };
    rest = lone_rest;
  }
  lone_steps (Err e) answered wanted room unchanged =
      let same : after.shards ≡ l.shards = set_itself l.shards number s' (here ∙ ap Some (sym unchanged)) in
      let seen : seen_in after.shards number ≡ s.journal = ap (λ shards. seen_in shards number) same ∙ ap journal_of here in
      record {
        here = λ plan at. record {
          steps = tt;
          refused = subst (λ shards. StepRefused plan (shard_at (shards_seen l) number) (shard_at (shards_seen (record { shards = shards; opened = l.opened })) number)) (sym same)
              (record { goes_on = begins_itself (seen_in l.shards number); undisturbed = λ e. refl; legal = lone_legal l.shards is.legal number plan at; owned = refl });
          wanted = subst (λ p. TakesMemory (told_at p (seen_in after.shards number) event)) (plan_is l.shards number s s' here same_plan plan at)
              (subst (λ j. TakesMemory (told_at s.plan j event)) (sym seen) wanted);
          room = subst (λ p. length (seen_in after.shards number) < p.limit) (plan_is l.shards number s s' here same_plan plan at)
              (subst (λ (j : List Entry). length j < s.plan.limit) (sym seen) room);
        };
        rest = lone_rest;
      }
