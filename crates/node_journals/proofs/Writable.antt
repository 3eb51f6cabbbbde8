-- What a node left can be spelled: no proof in it cites too much, and each operation and each Ask is within the limits.
use Rattle.std.proofs.Common.{◌≡◌, ◌≢◌, ◌⊎◌, inl, inr, ℕ, suc, ◌+◌, ◌^◌, ◌<◌, ◌≤◌, Bool, true, false, cond, List, [], ◌∷◌, ◌++◌, length, map, get_or, eqb, Option, None, Some, slice_get, refl, sym, ap, subst, ◌∙◌, arith}
use Rattle.std.specs.Prelude.{All, Contains, IfSome}
use Rattle.std.specs.List.{cons_option, filter_map}
use Rattle.std.proofs.lemmas.Bool.{eqb-true}
use Rattle.std.proofs.lemmas.Bool.Decides.{nat_tests}
use Rattle.std.proofs.lemmas.List.Elements.{All-append, All-contains, All-cons, All-nil}
use Rattle.std.proofs.lemmas.Map.Keys.{IsDistinct-from_apart}
use Rattle.std.proofs.lemmas.Map.Steps.{length-le_from_distinct_below}
use Rattle.std.proofs.lemmas.Map.Views.{Contains-from_any}
use Rattle.std.proofs.lemmas.Option.{same_Some, slice_get-get_or}
use Rattle.prin_term.specs.declared.term.Anchor.{Anchor}
use Rattle.prin_term.specs.declared.limits.TheConstants.{ENTRY_NODES, QUOTED_NODES}
use Rattle.prin_term.specs.Principal.{Principal}
use Rattle.prin_term.specs.Refusal.{FitsLimits}
use Rattle.prin_term.specs.View.{Grant}
use Rattle.prin_text.proofs.Pieced.{depth-le-node_count}
use Rattle.stmt_codec.specs.Certificates.{Certificate, key_quoting}
use Rattle.object_core.specs.Objects.{ObjectEntry, latest, listed, listed_by}
use Rattle.object_core.specs.Operation.{Op, FitsOperation, IsAccessList, right_of, Read, Write, SetList, Hold, Discard, Forget, Sweep, Withdraw}
use Rattle.object_core.specs.Shelving.{ObjectFixed, fixed_at}
use Rattle.object_core.specs.declared.ruling.Ruling.{Ruling}
use Rattle.object_core.specs.declared.ruling.Ruling.TheVariants as rulings
use Rattle.proof_cache.specs.Cached.{Cached}
use Rattle.agent_core.specs.declared.limits.TheConstants.{MAX_COMMONS, MAX_OWN}
use Rattle.agent_core.specs.declared.asked.Settled.{Settled}
use Rattle.agent_core.specs.declared.told.Told.{Told}
use Rattle.agent_core.specs.Asked.{IsGrant, IsGrantedAt, by_kept, was_kept, was_dropped, had_no_room}
use Rattle.agent_core.specs.Granted.{IsProofFor}
use Rattle.agent_core.specs.Journals.{Begins, Entry, entry, Stands}
use Rattle.agent_core.specs.State.{Plan, Ask, Asks, Event, Keeps, Holds, Discards, Forgets, Expires, Withdraws}
use Rattle.agent_core.proofs.AtPlaces.{count_places}
use Rattle.agent_core.proofs.Few.{judges_few}
use Rattle.taos_calculus.proofs.Induction.{All-at}
use Rattle.journal_bytes.specs.declared.limits.TheConstants.{MAX_CITES}
use Rattle.journal_bytes.specs.Limits.{AsksWithinOf, CitesFewOf, IsAskWithin, is_right}
use Rattle.request_course.specs.Asking.{IsUnruled, full, replayed, channel_full, untold, unanswered}
use Rattle.request_course.specs.AtObject.{IsGuardedAfter, Own, Seeking, asks_for, denied, granted, no_ruling, object_is_full, places_at}
use Rattle.request_course.specs.Cells.{Journals, Node, OfObject, OfShard, Place, in_object, in_shard, no_entries}
use Rattle.request_course.specs.Course.{Course, TurnAfter, Used, bad_seal, cert_refused, its_seeking, malformed, relay_failed, ruled, unknown_channel, unknown_object, unopened, unread}
use Rattle.request_course.specs.Course.{plain, pull_failed, unfetched, unpulled, pull_stopped, pulled}
use Rattle.request_course.specs.Effects.{IsPerformed, IsStep, ShardStep, its_place, step_at, through, not_held, no_room, no_place}
use Rattle.request_course.specs.Operations.{effect_of}
use Rattle.request_course.specs.Run.{IsCourse, Turn}
use Rattle.taos_wire.specs.Reply.{Reply, Sent}
use Rattle.taos_wire.specs.Request.{FitsRequest}
use Rattle.node_journals.specs.Works.{In}
use Rattle.node_journals.proofs.Members.{all_in, in_either, in_flat, map_in}
use Rattle.taos_lanes.specs.Opened.{HasFewCommons, HasFittingList}
use Rattle.node_journals.specs.LeftLaws.{AreAsksWithin, AreWritable}
use Rattle.node_journals.proofs.Owning.{Came}
use Rattle.node_journals.proofs.Rulings.{RuledAt, ruled_at, stands_there}

-- ---- how much a proof cites

unequal : (a b : ℕ) → a ≢ b → eqb a b ≡ false
unequal a b other = grind (arith, nat_tests, other)

module _ (anchors : List Anchor) (certs : List Certificate) (moment : ℕ) (a : Ask) (chosen : ℕ) (c : Cached) (p : IsProofFor anchors certs moment a chosen c) where
  inside : (q : ℕ) → Contains p.places q → q < length certs
  inside q has = All-contains (λ i. i < length certs) p.places q p.inside has

  unlike : (i j d : ℕ) → i < j → j < length p.places → eqb (get_or p.places i d) (get_or p.places j d) ≡ false
  unlike i j d less within = unequal (get_or p.places i d) (get_or p.places j d) (p.tidy.apart i j d less within)

  few_places : length p.places ≤ length certs
  few_places = length-le_from_distinct_below p.places (length certs) (IsDistinct-from_apart eqb p.places unlike) (λ q has. inside q (Contains-from_any (λ x y. eqb-true x y) q p.places has))

  pub few_cites : length c.cites ≤ length certs
  few_cites = omega (arith, ap (λ (l : List Certificate). length l) p.cites_are, count_places certs p.places p.inside, few_places)

-- ---- entries of shards

-- what the entry that stands at a place is
one_entry : (journal : List Entry) (place : ℕ) (before : List Entry) (e x : Entry) → Stands journal place before e → slice_get journal place ≡ Some x → e ≡ x
one_entry journal place before e x stands at = same_Some e x (sym (stands_there journal place before e stands) ∙ at)

-- the event cites little, and where this holds, what it asks is within the limits
abbrev IsFineEvent : Type 0 → Event → Type 0
IsFineEvent L event = CitesFewOf event × (L → AsksWithinOf event)

-- so does that of an entry which stands at this place
abbrev pub IsFine : Type 0 → List Entry → ℕ → Type 0
IsFine L journal place = (x : Entry) → slice_get journal place ≡ Some x → IsFineEvent L x.event

fine : (L : Type 0) (journal : List Entry) (place : ℕ) (before : List Entry) (e : Entry) → Stands journal place before e → IsFineEvent L e.event → IsFine L journal place
fine L journal place before e stands is x at = subst (λ (y : Entry). IsFineEvent L y.event) (one_entry journal place before e x stands at) is

module _ (plan : Plan) (few_commons : HasFewCommons plan) (journal : List Entry) (a : Ask) (L : Type 0) (within : L → IsAskWithin a) where
  -- the Ask and the Keep of a grant that was made
  kept_fine : (place chosen : ℕ) (c : Cached) (keep : ℕ) (told : Told) → IsGrantedAt plan journal a place chosen c → (before : List Entry) × Stands journal keep before (entry (Keeps place chosen c) told) → (p : ℕ) → In p (place ∷ keep ∷ []) → IsFine L journal p
  kept_fine place chosen c keep told g (before, stands) p is =
      let few : length g.certs ≤ MAX_OWN + MAX_COMMONS = judges_few plan few_commons g.before a g.moment g.certs g.judged in
      let cites : length c.cites ≤ MAX_CITES = omega (arith, few, few_cites plan.anchors g.certs g.moment a chosen c g.granted.proof) in
      elim is [
        | inl same ↦ subst (IsFine L journal) same (fine L journal place g.before (entry (Asks a) Told.Miss) g.stands (tt, within))
        | inr rest ↦ elim rest [ inl same ↦ subst (IsFine L journal) same (fine L journal keep before (entry (Keeps place chosen c) told) stands (cites, λ holds. tt)) | inr none ↦ absurd none ]
      ]

  -- those of any grant
  grant_fine : (place chosen : ℕ) (c : Cached) (kept : Bool) (settling : Settled) (asks : List ℕ) → IsGrant plan journal a place chosen c kept settling asks → (p : ℕ) → In p asks → IsFine L journal p
  grant_fine place chosen c kept settling asks (by_kept h) p is = elim is [
    | inl same ↦ subst (IsFine L journal) same (fine L journal place h.before (entry (Asks a) (Told.Hit chosen)) h.stands (tt, within))
    | inr none ↦ absurd none
  ]
  grant_fine place chosen c kept settling asks (was_kept {keep = k} g stands) p is = kept_fine place chosen c k Told.Kept g stands p is
  grant_fine place chosen c kept settling asks (was_dropped {keep = k} {cause = cause} g stands) p is = kept_fine place chosen c k (Told.Dropped cause) g stands p is
  grant_fine place chosen c kept settling asks (had_no_room g ends) p is = elim is [
    | inl same ↦ subst (IsFine L journal) same (fine L journal place g.before (entry (Asks a) Told.Miss) g.stands (tt, within))
    | inr none ↦ absurd none
  ]

  -- one that has no ruling
  unruled_fine : (shard : ℕ) (own : List ℕ) (reply : Reply) → IsUnruled plan journal shard a own reply → (p : ℕ) → In p own → IsFine L journal p
  unruled_fine shard own reply (full is_full) p is = absurd is
  unruled_fine shard own reply (replayed {place = k} {last = last} told) p is = elim is [
    | inl same ↦ subst (IsFine L journal) same (fine L journal k told.0 (entry (Asks a) (Told.Replayed last)) told.1 (tt, within))
    | inr none ↦ absurd none
  ]
  unruled_fine shard own reply (channel_full {place = k} {held = held} told) p is = elim is [
    | inl same ↦ subst (IsFine L journal) same (fine L journal k told.0 (entry (Asks a) (Told.Full held)) told.1 (tt, within))
    | inr none ↦ absurd none
  ]
  unruled_fine shard own reply (untold {place = k} {entry = e} {c = c} {kept = kept} {settled = settling} grant) p is = grant_fine k e c kept settling own grant p is
  unruled_fine shard own reply (unanswered ends) p is = elim ends [
    | inl none ↦ absurd (subst (In p) none is)
    | inr u ↦ elim (subst (In p) u.4 is) [
      | inl same ↦ subst (IsFine L journal) same (fine L journal u.0 u.1 (entry (Asks a) Told.Miss) u.2 (tt, within))
      | inr none ↦ absurd none
    ]
  ]

-- ---- what is performed

effect_fine : (L : Type 0) (op : Op) (certs : List Certificate) (reading : ℕ) (event : Event) → effect_of op certs reading ≡ Some event → IsFineEvent L event
effect_fine L Read certs reading event is = absurd cc
effect_fine L (Write new) certs reading event is = absurd cc
effect_fine L (SetList list) certs reading event is = absurd cc
effect_fine L Hold certs reading event is = subst (IsFineEvent L) (same_Some (Holds certs) event is) (tt, λ holds. tt)
effect_fine L (Discard digest) certs reading event is = subst (IsFineEvent L) (same_Some (Discards digest) event is) (tt, λ holds. tt)
effect_fine L (Forget channel) certs reading event is = subst (IsFineEvent L) (same_Some (Forgets channel) event is) (tt, λ holds. tt)
effect_fine L Sweep certs reading event is = subst (IsFineEvent L) (same_Some (Expires reading) event is) (tt, λ holds. tt)
effect_fine L (Withdraw issuer) certs reading event is = subst (IsFineEvent L) (same_Some (Withdraws issuer) event is) (tt, λ holds. tt)

module _ (plans : List Plan) (journals : ℕ → List Entry) (op : Op) (effect : Option Event) where
  steps_stand : (steps : List ShardStep) (refused : Option Reply) → IsPerformed plans journals op effect steps refused → All (IsStep journals effect) steps
  steps_stand steps refused (through went lets) = went.are_done.stand
  steps_stand steps refused (not_held digest is went never) = went.are_done.stand
  steps_stand steps refused (no_room {shard = s} {told = told} lacks found) =
      subst (All (IsStep journals effect)) (sym found.steps_are)
      (All-append (IsStep journals effect) found.done (step_at s found.place told ∷ []) found.are_done.stand (All-cons (IsStep journals effect) (step_at s found.place told) [] found.refused (All-nil (IsStep journals effect))))
  steps_stand steps refused (no_place found) = found.are_done.stand

-- ---- what is asked

right_within : (op : Op) → (right_of op < 256) × (is_right (right_of op) ≡ true)
right_within Read = (omega arith, refl)
right_within (Write new) = (omega arith, refl)
right_within (SetList list) = (omega arith, refl)
right_within Hold = (omega arith, refl)
right_within (Discard digest) = (omega arith, refl)
right_within (Forget channel) = (omega arith, refl)
right_within Sweep = (omega arith, refl)
right_within (Withdraw issuer) = (omega arith, refl)

subject_within : (channel : ℕ) (quoted : Option Principal) → channel < 2 ^ 32 → IfSome quoted (FitsLimits QUOTED_NODES) → FitsLimits ENTRY_NODES (key_quoting channel quoted)
subject_within channel None low fits = record { numbers = low; nodes_fit = omega arith; depth_fits = omega arith }
subject_within channel (Some who) low fits = record {
  numbers = (low, fits.numbers);
  nodes_fit = omega (arith, fits.nodes_fit);
  depth_fits = omega (arith, fits.nodes_fit, depth-le-node_count (key_quoting channel (Some who)));
}

-- a list that an entry brings is within the limits
list_brought : (r : Ruling) (op : Op) (list : List Grant) (later : List (List Grant)) → FitsOperation op → IsAccessList list → ((l : List Grant) → IsAccessList l → IsAccessList (latest l later)) → IsAccessList (latest list (cons_option (listed r op) later))
list_brought rulings.Denied op list later fits is more = more list is
list_brought (rulings.Granted e) Read list later fits is more = more list is
list_brought (rulings.Granted e) (Write new) list later fits is more = more list is
list_brought (rulings.Granted e) (SetList new) list later fits is more = more new fits
list_brought (rulings.Granted e) Hold list later fits is more = more list is
list_brought (rulings.Granted e) (Discard digest) list later fits is more = more list is
list_brought (rulings.Granted e) (Forget channel) list later fits is more = more list is
list_brought (rulings.Granted e) Sweep list later fits is more = more list is
list_brought (rulings.Granted e) (Withdraw issuer) list later fits is more = more list is

list_within : (entries : List ObjectEntry) (list : List Grant) → IsAccessList list → All (λ (e : ObjectEntry). FitsOperation e.op) entries → IsAccessList (latest list (filter_map listed_by entries))
list_within [] list is fit = is
list_within (e ∷ entries) list is fit =
    list_brought e.ruling e.op list (filter_map listed_by entries) (fit 0 e (omega arith)) is
    (λ l has. list_within entries l has (λ i d below. fit (suc i) d (omega (arith, below))))

first_or_later : (b : Bool) (g f : ObjectFixed) (later : Option ObjectFixed) → cond b (Some g) later ≡ Some f → (g ≡ f) ⊎ (later ≡ Some f)
first_or_later true g f later is = inl (same_Some g f is)
first_or_later false g f later is = inr is

found_has : (P : ObjectFixed → Type 0) (fs : List ObjectFixed) (number : ℕ) (f : ObjectFixed) → All P fs → fixed_at fs number ≡ Some f → P f
found_has P [] number f all at = absurd cc
found_has P (g ∷ fs) number f all at = elim (first_or_later (eqb g.plan.number number) g f (fixed_at fs number) at) [
  | inl same ↦ subst P same (all 0 g (omega arith))
  | inr later ↦ found_has P fs number f (λ i d below. all (suc i) d (omega (arith, below))) later
]

-- what holds of each holds of those in front
front_all : {X : Type 0} (P : X → Type 0) (front rest : List X) → All P (front ++ rest) → All P front
front_all P [] rest all = All-nil P
front_all P (x ∷ front) rest all = All-cons P x front (all 0 x (omega arith)) (front_all P front rest (λ i d below. all (suc i) d (omega (arith, below))))

-- ---- one request

same_shard : (s t : ℕ) → OfShard s ≡ OfShard t → s ≡ t
same_shard s t e = cc

other_sort : (o k s p : ℕ) → in_object o k ≡ in_shard s p → ⊥
other_sort o k s p e = cells (ap (λ (x : Place). x.cell) e)
  where
    cells : OfObject o ≡ OfShard s → ⊥
    cells same = absurd cc

module _ (n : Node) (few : All HasFewCommons n.plans) (J : Journals) where
  -- the lists at opening are within the limits, and so is what the entries of objects bring
  abbrev ListsFit : Type 0
  ListsFit = All HasFittingList n.objects × ((o : ℕ) → All (λ (e : ObjectEntry). FitsOperation e.op) (J.objects o))

  -- the place of a shard's entry is one of its shard
  at_shard : (s k t p : ℕ) → in_shard s k ≡ in_shard t p → IsFine ListsFit (J.shards s) k → IsFine ListsFit (J.shards t) p
  at_shard s k t p e is =
      subst (λ (x : ℕ). IsFine ListsFit (J.shards x) p) (same_shard s t (ap (λ (x : Place). x.cell) e)) (subst (IsFine ListsFit (J.shards s)) (ap (λ (x : Place). x.number) e) is)

  asks_fine : (s t p : ℕ) (asks : List ℕ) → ((k : ℕ) → In k asks → IsFine ListsFit (J.shards s) k) → In (in_shard t p) (map (in_shard s) asks) → IsFine ListsFit (J.shards t) p
  asks_fine s t p asks each h = let (k, is, same) = map_in (in_shard s) asks (in_shard t p) h in at_shard s k t p same (each k is)

  step_fine : (op : Op) (certs : List Certificate) (reading : ℕ) (step : ShardStep) → IsStep J.shards (effect_of op certs reading) step → IsFine ListsFit (J.shards step.shard) step.place
  step_fine op certs reading step s = fine ListsFit (J.shards step.shard) step.place s.before (entry s.event step.told) s.stands (effect_fine ListsFit op certs reading s.event s.effect_is)

  module _ (x : Seeking) (plan : Plan) (at : slice_get n.plans x.shard ≡ Some plan) (fits : FitsRequest x.request) (there : fixed_at n.objects x.request.object ≡ Some x.fixed) where
    its_plan : HasFewCommons plan
    its_plan = All-at HasFewCommons n.plans x.shard plan few at

    -- the ask that is made where the object has these entries
    asks_within : (before : List ObjectEntry) → Begins before (J.objects x.request.object) → ListsFit → IsAskWithin (asks_for x before)
    asks_within before begins lists = record {
      subject = subject_within x.request.channel x.request.quoted fits.channel fits.quoted;
      list = list_within before x.fixed.plan.list (found_has HasFittingList n.objects x.request.object x.fixed lists.0 there) (front_all (λ (e : ObjectEntry). FitsOperation e.op) before begins.rest (subst (All (λ (e : ObjectEntry). FitsOperation e.op)) begins.is (lists.1 x.request.object)));
      right = right_within x.request.op;
    }

    begun : {at : ℕ} {e : ObjectEntry} (before : List ObjectEntry) → Stands (J.objects x.request.object) at before e → Begins before (J.objects x.request.object)
    begun {e = e} before stands = record { rest = e ∷ stands.rest; is = stands.is }

    guarded_fine : (own : Own) (reply : Reply) (s p : ℕ) → IsGuardedAfter n.plans plan (no_entries, J) x own reply → In (in_shard s p) (places_at x own) → IsFine ListsFit (J.shards s) p
    guarded_fine own reply s p (object_is_full is_full) h = absurd h
    guarded_fine own reply s p (no_ruling {own = asks} before seen unruled) h = elim (in_either (in_shard s p) (map (in_shard x.shard) asks ++ []) [] h) [
      | inl asked ↦ elim (in_either (in_shard s p) (map (in_shard x.shard) asks) [] asked) [
        | inl ask ↦ asks_fine x.shard s p asks (λ k is. unruled_fine plan its_plan (J.shards x.shard) (asks_for x before) ListsFit (asks_within before seen.begins) x.shard asks reply unruled k is) ask
        | inr none ↦ absurd none
      ]
      | inr none ↦ absurd none
    ]
    guarded_fine own reply s p (denied {place = q} {at = k} before stands is tells) h = elim h [
      | inl ask ↦ at_shard x.shard q s p ask (fine ListsFit (J.shards x.shard) q is.before (entry (Asks (asks_for x before)) Told.Miss) is.stands (tt, asks_within before (begun before stands)))
      | inr rest ↦ elim rest [ inl ruling ↦ absurd (other_sort x.request.object k s p ruling) | inr none ↦ absurd none ]
    ]
    guarded_fine own reply s p (granted {place = q} {at = k} {entry = chosen} {c = c} {kept = kept} {settled = settling} {asks = asks} {steps = steps} {refused = refused} before stands is performed leaves) h =
        elim (in_either (in_shard s p) (map (in_shard x.shard) asks ++ in_object x.request.object k ∷ []) (map its_place steps) h) [
          | inl first ↦ elim (in_either (in_shard s p) (map (in_shard x.shard) asks) (in_object x.request.object k ∷ []) first) [
            | inl ask ↦ asks_fine x.shard s p asks (λ j there. grant_fine plan its_plan (J.shards x.shard) (asks_for x before) ListsFit (asks_within before (begun before stands)) q chosen c kept settling asks is j there) ask
            | inr rest ↦ elim rest [ inl ruling ↦ absurd (other_sort x.request.object k s p ruling) | inr none ↦ absurd none ]
          ]
          | inr step ↦
              let (one, there, same) = map_in its_place steps (in_shard s p) step in
              let stood : IsStep J.shards (effect_of x.request.op x.certs x.reading) one = all_in (IsStep J.shards (effect_of x.request.op x.certs x.reading)) steps one (steps_stand n.plans J.shards x.request.op (effect_of x.request.op x.certs x.reading) steps refused performed) there in
              at_shard one.shard one.place s p same (step_fine x.request.op x.certs x.reading one stood)
        ]

  course_fine : (payload : List ℕ) (used : Used) (sent : Sent) (s p : ℕ) → Course n J payload used sent → In (in_shard s p) used.places → IsFine ListsFit (J.shards s) p
  course_fine payload used sent s p (malformed none reads) h = absurd h
  course_fine payload used sent s p (unknown_channel q spelled none) h = absurd h
  course_fine payload used sent s p (bad_seal q key spelled keyed bad) h = absurd h
  course_fine payload used sent s p (cert_refused is first) h = absurd h
  course_fine payload used sent s p (relay_failed is first) h = absurd h
  course_fine payload used sent s p (unknown_object is none) h = absurd h
  course_fine payload used sent s p (ruled {own = own} {reply = reply} t reading plan at guarded) h = guarded_fine (its_seeking n t reading) plan at t.arrived.presented.asked.spelled.limits t.arrived.there own reply s p guarded h
  course_fine payload used sent s p unread h = absurd h
  course_fine payload used sent s p (unopened is at) h = absurd h

  turn_fine : (payload : List ℕ) (used : Used) (sent : Sent) (s p : ℕ) → TurnAfter n no_entries J payload used sent → In (in_shard s p) used.places → IsFine ListsFit (J.shards s) p
  turn_fine payload used sent s p (plain c) h = course_fine payload used sent s p c h
  turn_fine payload used sent s p (pull_failed asked) h = absurd h
  turn_fine payload used sent s p (unfetched asked) h = absurd h
  turn_fine payload used sent s p (unpulled asked interrupted) h = absurd h
  turn_fine payload used sent s p (pull_stopped asked failed) h = absurd h
  turn_fine payload used sent s p (pulled {used = later} asked opened c) h = course_fine _ later sent s p c h

  -- ---- the whole

  module _ (c : Came n J) where
    shard_fine : (s p : ℕ) → p < length (J.shards s) → IsFine ListsFit (J.shards s) p
    shard_fine s p below =
        let (t, is, owned) = in_flat (λ (u : Turn). u.used.places) c.turns (in_shard s p) (c.each (OfShard s) p below) in
        turn_fine t.frame t.used t.sent s p (all_in (IsCourse n J) c.turns t c.courses is) owned

    object_fits : (o k : ℕ) (e : ObjectEntry) → slice_get (J.objects o) k ≡ Some e → k < length (J.objects o) → FitsOperation e.op
    object_fits o k e at below =
        let (t, is, owned) = in_flat (λ (u : Turn). u.used.places) c.turns (in_object o k) (c.each (OfObject o) k below) in
        let r : RuledAt n J o k t.used.places = ruled_at n J t.frame t.used t.sent o k (all_in (IsCourse n J) c.turns t c.courses is) owned in
        subst (λ (y : ObjectEntry). FitsOperation y.op) (same_Some r.e e (sym (stands_there (J.objects o) k r.before r.e r.stands) ∙ at)) r.fits

    all_fit : (o : ℕ) → All (λ (e : ObjectEntry). FitsOperation e.op) (J.objects o)
    all_fit o i d below = object_fits o i (get_or (J.objects o) i d) (slice_get-get_or (J.objects o) i d below) below

    pub left_asks : All HasFittingList n.objects → AreAsksWithin J
    left_asks lists s i d below = (shard_fine s i below (get_or (J.shards s) i d) (slice_get-get_or (J.shards s) i d below)).1 (lists, all_fit)

    pub left_writable : AreWritable J
    left_writable = record {
      cites = λ s i d below. (shard_fine s i below (get_or (J.shards s) i d) (slice_get-get_or (J.shards s) i d below)).0;
      ops = all_fit;
    }
