-- What own places make of objects, and that what has no granted entry changes none.
use Rattle.std.proofs.Common.{◌≡◌, ◌≢◌, ⊎_elim, ℕ, ◌+◌, ◌<◌, ◌≤◌, Bool, true, false, cond, List, [], ◌∷◌, ◌++◌, length, map, slice_get, Option, None, Some, refl, sym, ap, ap₂, subst, ◌∙◌, inl, inr, arith, append-nil, length-append}
use Rattle.std.specs.Prelude.{◌==◌}
use Rattle.std.specs.List.{cons_option, filter_map}
use Rattle.std.proofs.lemmas.Bool.{cases_Bool, eqb-true, eq-eqb}
use Rattle.std.proofs.lemmas.List.Elements.{filter_map-append}
use Rattle.object_core.specs.Objects.{ObjectEntry, latest, written_by, listed_by, content_after, list_after}
use Rattle.object_core.specs.Operation.{Op}
use Rattle.object_core.specs.declared.ruling.Ruling.TheVariants as rulings
use Rattle.stmt_codec.specs.Certificates.{Certificate}
use Rattle.taos_wire.specs.Reply.{Reply, Granted, Sent, status_of}
use Rattle.agent_core.specs.declared.told.Told.{Told}
use Rattle.agent_core.specs.State.{Plan, Event, Holds, Discards, Forgets, Expires, Withdraws}
use Rattle.agent_core.specs.Journals.{Entry}
use Rattle.request_course.specs.Asking.{shard_full}
use Rattle.request_course.specs.AtObject.{Seeking, Own, own_at, places_at, ruled_as, told_or, object_full, gives_for, IsGuarded, object_is_full, no_ruling, denied, granted}
use Rattle.request_course.specs.Cells.{Node, Journals, Cell, OfShard, OfObject, Place, in_shard, in_object, number_in, numbers_in, entries_in, Seen, GoesOn}
use Rattle.request_course.specs.Changes.{content_for, list_for, ObjectsAreMade, IsUngranted, NothingChanges, RepliesTellUngranted}
use Rattle.request_course.specs.Course.{Used, Course, ruled}
use Rattle.request_course.specs.Effects.{ShardStep, its_place, IsPerformed, through, not_held, no_room, no_place}
use Rattle.request_course.specs.Operations.{effect_of}
use Rattle.request_course.specs.Projected.{Effect, Written, Listed, Stepped, GrantedEntry, if_some, changes_of, steps_of, effects_in, effects_of, grants_of, AreProjected, none, more}
use Rattle.request_course.proofs.Ascending.{all_rest, numbers_ascend}
use Rattle.request_course.proofs.Effecting.{effects_more, grants_both, shard_grants, step_grants, grant_at, course_projects}
use Rattle.request_course.proofs.Going.{no_object_numbers, numbers_object}
use Rattle.request_course.proofs.Places.{numbers_all}
use Rattle.request_course.proofs.Roomless.{other_reply, room_status, room_statuses}

latest_of_both : {X : Type 0} (x : X) (xs ys : List X) → latest x (xs ++ ys) ≡ latest (latest x xs) ys
latest_of_both x [] ys = refl
latest_of_both x (y ∷ xs) ys = latest_of_both y xs ys

-- ---- what effects bring an object

-- of the effects of an entry this is picked for the object, which is what the entry brings
record Picks {X : Type 0} (by : ObjectEntry → Option X) (o : ℕ) (pick : Effect → Option X) : Type 0 where
  steps : (s : ℕ) (event : Event) (told : Told) → pick (Stepped s event told) ≡ None
  here : (e : ObjectEntry) → filter_map pick (changes_of o e) ≡ cons_option (by e) []
  elsewhere : (t : ℕ) (e : ObjectEntry) → (o == t) ≡ false → filter_map pick (changes_of t e) ≡ []

module _ {X : Type 0} (by : ObjectEntry → Option X) (o : ℕ) (pick : Effect → Option X) (picks : Picks by o pick) (J : Journals) where
  no_step : (s : ℕ) (event : Event) (told : Told) → filter_map pick (steps_of s event told) ≡ []
  no_step s (Holds certs) told = ap (λ (x : Option X). cons_option x []) (picks.steps s (Holds certs) told)
  no_step s (Discards digest) told = ap (λ (x : Option X). cons_option x []) (picks.steps s (Discards digest) told)
  no_step s (Forgets channel) told = ap (λ (x : Option X). cons_option x []) (picks.steps s (Forgets channel) told)
  no_step s (Expires reading) told = ap (λ (x : Option X). cons_option x []) (picks.steps s (Expires reading) told)
  no_step s (Withdraws issuer) told = ap (λ (x : Option X). cons_option x []) (picks.steps s (Withdraws issuer) told)
  no_step s _ told = refl

  at_shard : (s : ℕ) (found : Option Entry) → filter_map pick (if_some (λ (e : Entry). steps_of s e.event e.told) found) ≡ []
  at_shard s None = refl
  at_shard s (Some e) = no_step s e.event e.told

  at_object : (found : Option ObjectEntry) → filter_map pick (if_some (changes_of o) found) ≡ filter_map by (cons_option found [])
  at_object None = refl
  at_object (Some e) = picks.here e

  at_other : (t : ℕ) → (o == t) ≡ false → (found : Option ObjectEntry) → filter_map pick (if_some (changes_of t) found) ≡ []
  at_other t not None = refl
  at_other t not (Some e) = picks.elsewhere t e not

  at_cell : (cell : Cell) (k : ℕ) → filter_map pick (effects_in J cell k) ≡ filter_map by (filter_map (slice_get (J.objects o)) (cons_option (number_in (OfObject o) (record { cell = cell; number = k })) []))
  at_cell (OfShard s) k = at_shard s (slice_get (J.shards s) k)
  at_cell (OfObject t) k = elim (cases_Bool (o == t)) [
    | inl e ↦ subst (λ (u : ℕ). filter_map pick (effects_in J (OfObject u) k) ≡ filter_map by (filter_map (slice_get (J.objects o)) (cons_option (number_in (OfObject o) (in_object u k)) []))) (eqb-true o t e)
        (at_object (slice_get (J.objects o) k) ∙ ap (λ (b : Bool). filter_map by (filter_map (slice_get (J.objects o)) (cons_option (cond b (Some k) None) []))) (sym (eq-eqb o o refl)))
    | inr e ↦ at_other t e (slice_get (J.objects t) k) ∙ ap (λ (b : Bool). filter_map by (filter_map (slice_get (J.objects o)) (cons_option (cond b (Some k) None) []))) (sym e)
  ]

  two_lists : (found : Option ℕ) (ns : List ℕ) → filter_map by (filter_map (slice_get (J.objects o)) (cons_option found ns)) ≡ filter_map by (filter_map (slice_get (J.objects o)) (cons_option found [])) ++ filter_map by (filter_map (slice_get (J.objects o)) ns)
  two_lists None ns = refl
  two_lists (Some k) ns = ap (filter_map by) (filter_map-append (slice_get (J.objects o)) (k ∷ []) ns) ∙ filter_map-append by (filter_map (slice_get (J.objects o)) (k ∷ [])) (filter_map (slice_get (J.objects o)) ns)

  picked : (places : List Place) → filter_map pick (effects_of J places) ≡ filter_map by (filter_map (slice_get (J.objects o)) (numbers_in (OfObject o) places))
  picked [] = refl
  picked (p ∷ places) =
      ap (filter_map pick) (effects_more J p places)
      ∙ filter_map-append pick (effects_in J p.cell p.number) (effects_of J places)
      ∙ ap₂ (λ (l : List X) (m : List X). l ++ m) (at_cell p.cell p.number) (picked places)
      ∙ sym (two_lists (number_in (OfObject o) p) (numbers_in (OfObject o) places))

-- ---- one object

module _ (alone : Cell → Bool) (a b : Seen) (places : List Place) (g : GoesOn alone a b places) (o : ℕ) (lone : alone (OfObject o) ≡ true) where
  came : filter_map (slice_get (b.journals.objects o)) (numbers_in (OfObject o) places) ≡ (g.goes_on.objects o).rest
  came =
      let old = a.journals.objects o in
      let begins = g.goes_on.objects o in
      let ns = numbers_in (OfObject o) places in
      let total : length (b.journals.objects o) ≡ length old + length begins.rest = ap (λ l. length l) begins.is ∙ length-append old begins.rest in
      ap (λ (l : List ObjectEntry). filter_map (slice_get l) ns) begins.is
      ∙ all_rest old begins.rest ns (numbers_ascend (OfObject o) places g.ascending)
      (numbers_all (λ n. length old ≤ n) (OfObject o) places (λ k d lt same. omega (arith, g.new_places k d lt, ap (entries_in a.journals) same)))
      (numbers_all (λ n. n < length old + length begins.rest) (OfObject o) places (λ k d lt same. omega (arith, g.there k d lt, ap (entries_in b.journals) same, total)))
      (omega (arith, g.undisturbed (OfObject o) lone, total))

  made : {X : Type 0} (by : ObjectEntry → Option X) (pick : Effect → Option X) → Picks by o pick → (x : X) →
      latest x (filter_map by (b.journals.objects o)) ≡ latest (latest x (filter_map by (a.journals.objects o))) (filter_map pick (effects_of b.journals places))
  made by pick picks x =
      let old = a.journals.objects o in
      let begins = g.goes_on.objects o in
      ap (λ (l : List ObjectEntry). latest x (filter_map by l)) begins.is
      ∙ ap (latest x) (filter_map-append by old begins.rest)
      ∙ latest_of_both x (filter_map by old) (filter_map by begins.rest)
      ∙ ap (latest (latest x (filter_map by old))) (sym (picked by o pick picks b.journals places ∙ ap (filter_map by) came))

-- ---- contents and lists

if_here : {X : Type 0} (o : ℕ) (x : X) → cond (o == o) (Some x) None ≡ Some x
if_here o x = ap (λ (b : Bool). cond b (Some x) None) (eq-eqb o o refl)

if_not : {X : Type 0} (b : Bool) → b ≡ false → (x : X) → cond b (Some x) None ≡ None
if_not b not x = ap (λ (c : Bool). cond c (Some x) None) not

-- all that comes of what was found is picked
all_picked : {X : Type 0} (pick : Effect → Option X) (effect : X → Effect) → ((x : X) → pick (effect x) ≡ Some x) →
    (found : Option X) → filter_map pick (if_some (λ x. effect x ∷ []) found) ≡ cons_option found []
all_picked pick effect all None = refl
all_picked {X = X} pick effect all (Some x) = ap (λ (r : Option X). cons_option r []) (all x)

-- nothing of it is
none_picked : {X Y : Type 0} (pick : Effect → Option Y) (effect : X → Effect) → ((x : X) → pick (effect x) ≡ None) →
    (found : Option X) → filter_map pick (if_some (λ x. effect x ∷ []) found) ≡ []
none_picked pick effect nothing None = refl
none_picked {Y = Y} pick effect nothing (Some x) = ap (λ (r : Option Y). cons_option r []) (nothing x)

-- what is picked of an entry's changes, by what is of its content and of its list
of_changes : {X : Type 0} (pick : Effect → Option X) (t : ℕ) (e : ObjectEntry) (contents lists : List X) →
    filter_map pick (if_some (λ content. Written t content ∷ []) (written_by e)) ≡ contents →
    filter_map pick (if_some (λ list. Listed t list ∷ []) (listed_by e)) ≡ lists → filter_map pick (changes_of t e) ≡ contents ++ lists
of_changes {X = X} pick t e contents lists content list =
    filter_map-append pick (if_some (λ content. Written t content ∷ []) (written_by e)) (if_some (λ list. Listed t list ∷ []) (listed_by e))
    ∙ ap₂ (λ (l : List X) (m : List X). l ++ m) content list

contents : (o : ℕ) → Picks written_by o (content_for o)
contents o = record {
  steps = λ s event told. refl;
  here = λ e.
      of_changes (content_for o) o e (cons_option (written_by e) []) [] (all_picked (content_for o) (Written o) (if_here o) (written_by e)) (no_list o e)
      ∙ append-nil (cons_option (written_by e) []);
  elsewhere = λ t e not.
      of_changes (content_for o) t e [] [] (none_picked (content_for o) (Written t) (if_not (o == t) not) (written_by e)) (no_list t e);
}
  where
    no_list : (t : ℕ) (e : ObjectEntry) → filter_map (content_for o) (if_some (λ list. Listed t list ∷ []) (listed_by e)) ≡ []
    no_list t e = none_picked (content_for o) (Listed t) (λ list. refl) (listed_by e)

lists : (o : ℕ) → Picks listed_by o (list_for o)
lists o = record {
  steps = λ s event told. refl;
  here = λ e. of_changes (list_for o) o e [] (cons_option (listed_by e) []) (no_content o e) (all_picked (list_for o) (Listed o) (if_here o) (listed_by e));
  elsewhere = λ t e not. of_changes (list_for o) t e [] [] (no_content t e) (none_picked (list_for o) (Listed t) (if_not (o == t) not) (listed_by e));
}
  where
    no_content : (t : ℕ) (e : ObjectEntry) → filter_map (list_for o) (if_some (λ content. Written t content ∷ []) (written_by e)) ≡ []
    no_content t e = none_picked (list_for o) (Written t) (λ content. refl) (written_by e)

pub objects_are_made : ObjectsAreMade
objects_are_made alone old new places g o lone plan = (
  made alone old new places g o lone written_by (content_for o) (contents o) plan.content,
  made alone old new places g o lone listed_by (list_for o) (lists o) plan.list,
)

-- ---- what is not granted

no_effects : (plans : List Plan) (J : Journals) (gs : List GrantedEntry) (es : List Effect) → AreProjected plans J gs es → gs ≡ [] → es ≡ []
no_effects plans J gs es none is = refl
no_effects plans J gs es (more {g} {grants} due later) is = absurd (no_head g grants is)
  where
    no_head : (x : GrantedEntry) (xs : List GrantedEntry) → x ∷ xs ≡ [] → ⊥
    no_head x xs e = cc

-- a grant that was told, or what its steps came to
module _ (plans : List Plan) (J : ℕ → List Entry) (op : Op) (certs : List Certificate) (reading : ℕ) (told : Reply) (zero : status_of told ≡ 0) where
  not_denied : (steps : List ShardStep) (refused : Option Reply) → IsPerformed plans J op (effect_of op certs reading) steps refused → status_of (told_or refused told) ≡ 1 → ⊥
  not_denied steps refused (through w lets) one = let e : status_of told ≡ 1 = one in absurd (omega (arith, zero, e))
  not_denied steps refused (not_held digest is w lacks) one = let e : 13 ≡ 1 = one in absurd (omega (arith, e))
  not_denied steps refused (no_room {shard} {told = said} {reply} lacks f) one = let e : status_of reply ≡ 1 = one in absurd (omega (arith, e, room_status shard said reply lacks))
  not_denied steps refused (no_place f) one = let e : 10 ≡ 1 = one in absurd (omega (arith, e))

  performed_tells : (steps : List ShardStep) (refused : Option Reply) → IsPerformed plans J op (effect_of op certs reading) steps refused → status_of (told_or refused told) ≢ 0 → status_of (told_or refused told) ≢ 10 → status_of (told_or refused told) ≢ 12 → status_of (told_or refused told) ≢ 13 → status_of (told_or refused told) ≢ 14 → ⊥
  performed_tells steps refused (through w lets) given full room held issuers = given zero
  performed_tells steps refused (not_held digest is w lacks) given full room held issuers = held refl
  performed_tells steps refused (no_room {shard} {told = said} {reply} lacks f) given full room held issuers = ⊎_elim room issuers (room_statuses shard said reply lacks)
  performed_tells steps refused (no_place f) given full room held issuers = full refl

  performed_not_full : (steps : List ShardStep) (refused : Option Reply) → IsPerformed plans J op (effect_of op certs reading) steps refused → (o limit : ℕ) → told_or refused told ≡ object_full o limit → ⊥
  performed_not_full steps refused (through w lets) o limit is = let e : status_of told ≡ 10 = ap status_of is in absurd (omega (arith, zero, e))
  performed_not_full steps refused (not_held digest same w lacks) o limit is = let e : 13 ≡ 10 = ap status_of is in absurd (omega (arith, e))
  performed_not_full steps refused (no_room {shard} {told = said} {reply} lacks f) o limit is = other_reply shard said reply (object_full o limit) 10 lacks refl (omega arith) is
  performed_not_full steps refused (no_place {shard} {limit = l} f) o limit is = other_sort shard l o limit is
    where
      other_sort : (s l o m : ℕ) → shard_full s l ≡ object_full o m → ⊥
      other_sort s l o m e = cc

-- ---- the places of a request at objects

no_step_numbers : (o : ℕ) (steps : List ShardStep) → numbers_in (OfObject o) (map its_place steps) ≡ []
no_step_numbers o [] = refl
no_step_numbers o (s ∷ steps) = no_step_numbers o steps

object_numbers : (o : ℕ) (x : Seeking) (own : Own) → numbers_in (OfObject o) (places_at x own) ≡ numbers_in (OfObject o) (map (in_object x.request.object) own.ruling)
object_numbers o x own =
    let asks = map (in_shard x.shard) own.asks in
    let ruling = map (in_object x.request.object) own.ruling in
    let steps = map its_place own.steps in
    filter_map-append (number_in (OfObject o)) (asks ++ ruling) steps
    ∙ ap₂ (λ (l : List ℕ) (m : List ℕ). l ++ m) (filter_map-append (number_in (OfObject o)) asks ruling ∙ ap (λ (l : List ℕ). l ++ numbers_in (OfObject o) ruling) (no_object_numbers o x.shard own.asks)) (no_step_numbers o own.steps)
    ∙ append-nil (numbers_in (OfObject o) ruling)

object_grants : (J : Journals) (x : Seeking) (own : Own) → grants_of J (places_at x own) ≡ grants_of J (map (in_object x.request.object) own.ruling)
object_grants J x own =
    let asks = map (in_shard x.shard) own.asks in
    let ruling = map (in_object x.request.object) own.ruling in
    let steps = map its_place own.steps in
    grants_both J (asks ++ ruling) steps
    ∙ ap₂ (λ (l : List GrantedEntry) (m : List GrantedEntry). l ++ m) (grants_both J asks ruling ∙ ap (λ (l : List GrantedEntry). l ++ grants_of J ruling) (shard_grants J x.shard own.asks)) (step_grants J own.steps)
    ∙ append-nil (grants_of J ruling)

one_there : (k : ℕ) → k ∷ [] ≡ [] → ⊥
one_there k e = cc

module _ (plans : List Plan) (plan : Plan) (J : Journals) (x : Seeking) where
  guarded_no_grant : (own : Own) (reply : Reply) → IsGuarded plans plan J x own reply → IsUngranted (places_at x own) reply → grants_of J (places_at x own) ≡ []
  guarded_no_grant own reply (object_is_full at) is = refl
  guarded_no_grant own reply (no_ruling {own = asks} before b u) is = object_grants J x (own_at asks [] [])
  guarded_no_grant own reply (denied {place} {at} before s d tells) is =
      object_grants J x (own_at (place ∷ []) (at ∷ []) []) ∙ grant_at J x.request.object at before (ruled_as x.shard place x.request.op rulings.Denied) s
  guarded_no_grant own reply (granted {place} {at} {entry} {c} {kept} {settled} {asks} {steps} {refused} before s g p out) (inl one) =
      absurd (not_denied plans J.shards x.request.op x.certs x.reading (Granted kept entry x.shard place c.proof c.cites (gives_for x before)) refl steps refused p one)
  guarded_no_grant own reply (granted {place} {at} {entry} {c} {kept} {settled} {asks} {steps} {refused} before s g p out) (inr nowhere) =
      let o = x.request.object in
      absurd (one_there at (sym (object_numbers o x (own_at asks (at ∷ []) steps) ∙ numbers_object o (at ∷ [])) ∙ nowhere o))

  guarded_tells : (own : Own) (reply : Reply) → IsGuarded plans plan J x own reply →
      (status_of reply ≢ 0 → status_of reply ≢ 10 → status_of reply ≢ 12 → status_of reply ≢ 13 → status_of reply ≢ 14 → IsUngranted (places_at x own) reply) ×
      ((o limit : ℕ) → reply ≡ object_full o limit → IsUngranted (places_at x own) reply)
  guarded_tells own reply (object_is_full at) = (λ a b c d e. inr (λ o. refl), λ o limit is. inr (λ t. refl))
  guarded_tells own reply (no_ruling {own = asks} before b u) = (λ e f c d g. inr (λ o. object_numbers o x (own_at asks [] [])), λ o limit is. inr (λ t. object_numbers t x (own_at asks [] [])))
  guarded_tells own reply (denied before s d tells) = (λ e f c h i. inl refl, λ o limit is. inl refl)
  guarded_tells own reply (granted {place} {at} {entry} {c} {kept} {settled} {asks} {steps} {refused} before s g p out) =
      let told = Granted kept entry x.shard place c.proof c.cites (gives_for x before) in (
        λ a b d e f. absurd (performed_tells plans J.shards x.request.op x.certs x.reading told refl steps refused p a b d e f),
        λ o limit is. absurd (performed_not_full plans J.shards x.request.op x.certs x.reading told refl steps refused p o limit is),
      )

-- ---- the laws

course_no_grant : (n : Node) (J : Journals) (payload : List ℕ) (used : Used) (sent : Sent) → Course n J payload used sent → IsUngranted used.places sent.reply → grants_of J used.places ≡ []
course_no_grant n J payload used sent (ruled {own} {reply} t reading plan planned r) is = guarded_no_grant n.plans plan J _ own reply r is
course_no_grant n J payload used sent _ is = refl

pub nothing_changes : (n : Node) → NothingChanges n
nothing_changes n alone old new payload used sent course g is =
    let quiet : effects_of new.journals used.places ≡ [] = no_effects n.plans new.journals (grants_of new.journals used.places) (effects_of new.journals used.places)
    (course_projects n new.journals payload used sent course) (course_no_grant n new.journals payload used sent course is) in (
      quiet,
      λ o lone plan.
          let now = objects_are_made alone old new used.places g o lone plan in (
            now.0 ∙ ap (λ (es : List Effect). latest (content_after plan (old.journals.objects o)) (filter_map (content_for o) es)) quiet,
            now.1 ∙ ap (λ (es : List Effect). latest (list_after plan (old.journals.objects o)) (filter_map (list_for o) es)) quiet,
          ),
    )

pub replies_tell_ungranted : (n : Node) → RepliesTellUngranted n
replies_tell_ungranted n J payload used sent (ruled {own} {reply} t reading plan planned r) = guarded_tells n.plans plan J _ own reply r
replies_tell_ungranted n J payload used sent _ = (λ a b c d e. inr (λ o. refl), λ o limit is. inr (λ t. refl))
