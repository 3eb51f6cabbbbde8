-- The effects of a request's own places are due to its grant.
use Rattle.std.proofs.Common.{◌≡◌, ℕ, Bool, List, [], ◌∷◌, ◌++◌, map, Option, Some, All, refl, sym, ap, ap₂, subst, subst₂, ◌∙◌, inl, inr, append-nil, append_assoc}
use Rattle.std.proofs.lemmas.Grind.{flat_map-append}
use Rattle.std.proofs.lemmas.List.{map-append}
use Rattle.std.proofs.lemmas.List.Concat.{flat_map-cons}
use Rattle.std.proofs.lemmas.List.Elements.{All-nil, All-cons, All-head, All-tail}
use Rattle.object_core.specs.Objects.{ObjectEntry}
use Rattle.object_core.specs.Operation.{Op, Hold, Discard, Forget, Sweep, Withdraw}
use Rattle.object_core.specs.declared.ruling.Ruling.TheVariants as rulings
use Rattle.proof_cache.specs.Cached.{Cached}
use Rattle.stmt_codec.specs.Certificates.{Certificate}
use Rattle.taos_wire.specs.Reply.{Reply, Sent}
use Rattle.agent_core.specs.declared.asked.Settled.{Settled}
use Rattle.agent_core.specs.declared.told.Told.{Told}
use Rattle.agent_core.specs.State.{Plan, Ask, Event, Asks, Keeps, Holds, Discards, Forgets, Expires, Withdraws}
use Rattle.agent_core.specs.Journals.{Entry, entry, Stands}
use Rattle.agent_core.specs.Asked.{IsGrant, by_kept, was_kept, was_dropped, had_no_room}
use Rattle.request_course.specs.Asking.{IsUnruled, full, replayed, channel_full, untold, unanswered}
use Rattle.request_course.specs.AtObject.{Seeking, Own, own_at, places_at, ruled_as, asks_for, IsGuarded, object_is_full, no_ruling, denied, granted}
use Rattle.request_course.specs.Cells.{Node, Journals, Place, in_shard, in_object}
use Rattle.request_course.specs.Course.{Used, Course, ruled, plain, pulled}
use Rattle.request_course.specs.Effects.{ShardStep, step_at, its_place, shards_of, IsDone, lacks_room, IsStep, AreDone, WentThrough, FoundNoRoom, FoundNoPlace, IsPerformed, through, not_held, no_room, no_place}
use Rattle.request_course.specs.Operations.{IsEffect, effect_of, targets_of}
use Rattle.request_course.specs.Projected as projected
use Rattle.request_course.specs.Projected.{Effect, Stepped, GrantedEntry, if_some, changes_of, steps_of, effects_of, if_granted, grants_of, AreTaken, AreDueTo, AreProjected, none, more, EffectsAreProjected}
use Rattle.request_course.specs.Run.{Turn, IsCourse, places_of}
use Rattle.request_course.proofs.Places.{stands_at}
use Rattle.request_course.proofs.Staying.{Turned}

-- ---- the places of more than one list

-- the effects at a place, and the grant there
abbrev pub effects_by : Journals → Place → List Effect
effects_by J p = projected.effects_in J p.cell p.number

abbrev pub grants_by : Journals → Place → List GrantedEntry
grants_by J p = projected.grants_in J p.cell p.number

pub effects_both : (J : Journals) (first later : List Place) → effects_of J (first ++ later) ≡ effects_of J first ++ effects_of J later
effects_both J first later = flat_map-append (effects_by J) first later

pub grants_both : (J : Journals) (first later : List Place) → grants_of J (first ++ later) ≡ grants_of J first ++ grants_of J later
grants_both J first later = flat_map-append (grants_by J) first later

pub effects_more : (J : Journals) (p : Place) (places : List Place) → effects_of J (p ∷ places) ≡ effects_by J p ++ effects_of J places
effects_more J p places = flat_map-cons (effects_by J) p places

grants_more : (J : Journals) (p : Place) (places : List Place) → grants_of J (p ∷ places) ≡ grants_by J p ++ grants_of J places
grants_more J p places = flat_map-cons (grants_by J) p places

module _ (plans : List Plan) (J : Journals) where
  projects_append : (gs hs : List GrantedEntry) (es fs : List Effect) → AreProjected plans J gs es → AreProjected plans J hs fs → AreProjected plans J (gs ++ hs) (es ++ fs)
  projects_append gs hs es fs none later = later
  projects_append gs hs es fs (more {g} {grants} {effects} {later = rest} due first) later =
      subst (AreProjected plans J (g ∷ (grants ++ hs))) (sym (append_assoc effects rest fs)) (more due (projects_append grants hs rest fs first later))

  -- the effects at these places are due to the grants at them
  abbrev Projects : List Place → Type 0
  Projects places = AreProjected plans J (grants_of J places) (effects_of J places)

  projects_both : (first later : List Place) → Projects first → Projects later → Projects (first ++ later)
  projects_both first later a b =
      subst₂ (AreProjected plans J) (sym (grants_both J first later)) (sym (effects_both J first later))
      (projects_append (grants_of J first) (grants_of J later) (effects_of J first) (effects_of J later) a b)

  projects_none : (places : List Place) → grants_of J places ≡ [] → effects_of J places ≡ [] → Projects places
  projects_none places no_grant no_effect = subst₂ (AreProjected plans J) (sym no_grant) (sym no_effect) none

-- ---- no grant stands in a shard

module _ (J : Journals) where
  pub shard_grants : (h : ℕ) (own : List ℕ) → grants_of J (map (in_shard h) own) ≡ []
  shard_grants h [] = refl
  shard_grants h (p ∷ own) = grants_more J (in_shard h p) (map (in_shard h) own) ∙ shard_grants h own

  pub step_grants : (steps : List ShardStep) → grants_of J (map its_place steps) ≡ []
  step_grants [] = refl
  step_grants (s ∷ steps) = grants_more J (its_place s) (map its_place steps) ∙ step_grants steps

  -- ---- an ask has no effect

  -- at these places of the shard
  abbrev AreSilent : ℕ → List ℕ → Type 0
  AreSilent h own = All (λ (p : ℕ). effects_of J (in_shard h p ∷ []) ≡ []) own

  silent : (h : ℕ) (own : List ℕ) → AreSilent h own → effects_of J (map (in_shard h) own) ≡ []
  silent h [] all = refl
  silent h (p ∷ own) all =
      let IsSilent = λ (q : ℕ). effects_of J (in_shard h q ∷ []) ≡ [] in
      effects_both J (in_shard h p ∷ []) (map (in_shard h) own)
      ∙ ap₂ (λ (es : List Effect) (fs : List Effect). es ++ fs) (All-head IsSilent p own all) (silent h own (All-tail IsSilent p own all))

  -- the effects of one entry of a shard
  at_shard : (h place : ℕ) (before : List Entry) (event : Event) (told : Told) → Stands (J.shards h) place before (entry event told) → effects_of J (in_shard h place ∷ []) ≡ steps_of h event told
  at_shard h place before event told s =
      effects_more J (in_shard h place) []
      ∙ append-nil (effects_by J (in_shard h place))
      ∙ ap (if_some (λ (e : Entry). steps_of h e.event e.told)) (stands_at s)

  one_silent : (h place : ℕ) → effects_of J (in_shard h place ∷ []) ≡ [] → AreSilent h (place ∷ [])
  one_silent h place is = All-cons (λ (p : ℕ). effects_of J (in_shard h p ∷ []) ≡ []) place [] is (All-nil (λ (p : ℕ). effects_of J (in_shard h p ∷ []) ≡ []))

  two_silent : (h place keep : ℕ) → effects_of J (in_shard h place ∷ []) ≡ [] → effects_of J (in_shard h keep ∷ []) ≡ [] → AreSilent h (place ∷ keep ∷ [])
  two_silent h place keep is also = All-cons (λ (p : ℕ). effects_of J (in_shard h p ∷ []) ≡ []) place (keep ∷ []) is (one_silent h keep also)

  module _ (plan : Plan) (h : ℕ) (a : Ask) where
    grant_silent : (place e : ℕ) (c : Cached) (kept : Bool) (settled : Settled) (own : List ℕ) → IsGrant plan (J.shards h) a place e c kept settled own → AreSilent h own
    grant_silent place e c kept settled own (by_kept g) = one_silent h place (at_shard h place g.before _ _ g.stands)
    grant_silent place e c kept settled own (was_kept {keep} g t) = two_silent h place keep (at_shard h place g.before _ _ g.stands) (at_shard h keep t.0 _ _ t.1)
    grant_silent place e c kept settled own (was_dropped {keep} g t) = two_silent h place keep (at_shard h place g.before _ _ g.stands) (at_shard h keep t.0 _ _ t.1)
    grant_silent place e c kept settled own (had_no_room g at) = one_silent h place (at_shard h place g.before _ _ g.stands)

    unruled_silent : (own : List ℕ) (reply : Reply) → IsUnruled plan (J.shards h) h a own reply → AreSilent h own
    unruled_silent own reply (full at) = All-nil (λ (p : ℕ). effects_of J (in_shard h p ∷ []) ≡ [])
    unruled_silent own reply (replayed {place} {last} t) = one_silent h place (at_shard h place t.0 _ _ t.1)
    unruled_silent own reply (channel_full {place} {held} t) = one_silent h place (at_shard h place t.0 _ _ t.1)
    unruled_silent own reply (untold {place} {entry = e} {c} {kept} {settled} {own = places} g) = grant_silent place e c kept settled places g
    unruled_silent own reply (unanswered {own = places} (inl nowhere)) = subst (AreSilent h) (sym nowhere) (All-nil (λ (p : ℕ). effects_of J (in_shard h p ∷ []) ≡ []))
    unruled_silent own reply (unanswered {own = places} (inr (place, before, stands, verdict, is))) = subst (AreSilent h) (sym is) (one_silent h place (at_shard h place before _ _ stands))

    -- the Ask of a grant stands
    grant_stands : (place e : ℕ) (c : Cached) (kept : Bool) (settled : Settled) (own : List ℕ) → IsGrant plan (J.shards h) a place e c kept settled own →
        (before : List Entry) × (told : Told) × Stands (J.shards h) place before (entry (Asks a) told)
    grant_stands place e c kept settled own (by_kept g) = (g.before, Told.Hit e, g.stands)
    grant_stands place e c kept settled own (was_kept g t) = (g.before, Told.Miss, g.stands)
    grant_stands place e c kept settled own (was_dropped g t) = (g.before, Told.Miss, g.stands)
    grant_stands place e c kept settled own (had_no_room g at) = (g.before, Told.Miss, g.stands)

  -- ---- one entry of an object

  at_object : (o at : ℕ) (before : List ObjectEntry) (e : ObjectEntry) → Stands (J.objects o) at before e → effects_of J (map (in_object o) (at ∷ [])) ≡ changes_of o e
  at_object o at before e s =
      effects_more J (in_object o at) [] ∙ append-nil (effects_by J (in_object o at)) ∙ ap (if_some (changes_of o)) (stands_at s)

  pub grant_at : (o at : ℕ) (before : List ObjectEntry) (e : ObjectEntry) → Stands (J.objects o) at before e → grants_of J (map (in_object o) (at ∷ [])) ≡ if_granted o e
  grant_at o at before e s =
      grants_more J (in_object o at) [] ∙ append-nil (grants_by J (in_object o at)) ∙ ap (if_some (if_granted o)) (stands_at s)

-- ---- the steps of an operation

pub is_effect : (op : Op) (certs : List Certificate) (reading : ℕ) (e : Event) → effect_of op certs reading ≡ Some e → IsEffect e
is_effect Hold certs reading e is = let same : Holds certs ≡ e = cc in subst IsEffect same tt
is_effect (Discard digest) certs reading e is = let same : Discards digest ≡ e = cc in subst IsEffect same tt
is_effect (Forget channel) certs reading e is = let same : Forgets channel ≡ e = cc in subst IsEffect same tt
is_effect Sweep certs reading e is = let same : Expires reading ≡ e = cc in subst IsEffect same tt
is_effect (Withdraw issuer) certs reading e is = let same : Withdraws issuer ≡ e = cc in subst IsEffect same tt
is_effect _ certs reading e is = absurd cc

one_step : (s : ℕ) (event : Event) (told : Told) → IsEffect event → steps_of s event told ≡ Stepped s event told ∷ []
one_step s (Asks a) told is = absurd is
one_step s (Keeps ask e c) told is = absurd is
one_step s _ told is = refl

module _ (plans : List Plan) (J : Journals) (op : Op) (certs : List Certificate) (reading : ℕ) where
  abbrev Taken : List ℕ → List Effect → Type 0
  Taken shards steps = AreTaken plans J.shards (effect_of op certs reading) shards steps

  at_step : (s : ShardStep) (step : IsStep J.shards (effect_of op certs reading) s) → effects_of J (its_place s ∷ []) ≡ Stepped s.shard step.event s.told ∷ []
  at_step s step = at_shard J s.shard s.place step.before step.event s.told step.stands ∙ one_step s.shard step.event s.told (is_effect op certs reading step.event step.effect_is)

  step_more : (s : ShardStep) (step : IsStep J.shards (effect_of op certs reading) s) (steps : List ShardStep) → effects_of J (map its_place (s ∷ steps)) ≡ Stepped s.shard step.event s.told ∷ effects_of J (map its_place steps)
  step_more s step steps = effects_both J (its_place s ∷ []) (map its_place steps) ∙ ap (λ (es : List Effect). es ++ effects_of J (map its_place steps)) (at_step s step)

  -- steps that were done, and then others
  done_first : (steps : List ShardStep) → AreDone J.shards (effect_of op certs reading) steps → (shards : List ℕ) (later : List Effect) → Taken shards later → Taken (shards_of steps ++ shards) (effects_of J (map its_place steps) ++ later)
  done_first [] are shards later taken = taken
  done_first (s ∷ steps) are shards later taken =
      let Stood = IsStep J.shards (effect_of op certs reading) in
      let Did = λ (t : ShardStep). IsDone t.told in
      let step = All-head Stood s steps are.stand in
      let rest : AreDone J.shards (effect_of op certs reading) steps = record { stand = All-tail Stood s steps are.stand; done = All-tail Did s steps are.done } in
      subst (Taken (s.shard ∷ (shards_of steps ++ shards))) (sym (ap (λ (es : List Effect). es ++ later) (step_more s step steps)))
      (projected.done step.effect_is (All-head Did s steps are.done) (done_first steps rest shards later taken))

  all_done : (shards : List ℕ) (steps : List ShardStep) → WentThrough J.shards (effect_of op certs reading) shards steps → Taken shards (effects_of J (map its_place steps))
  all_done shards steps w =
      subst₂ Taken (append-nil (shards_of steps) ∙ w.order) (append-nil (effects_of J (map its_place steps))) (done_first steps w.are_done [] [] projected.through)

  up_to_room : (shards : List ℕ) (steps : List ShardStep) (shard : ℕ) (told : Told) (reply : Reply) → lacks_room shard told ≡ Some reply → FoundNoRoom J.shards (effect_of op certs reading) shards steps shard told →
      Taken shards (effects_of J (map its_place steps))
  up_to_room shards steps shard told reply lacks f =
      let last = step_at shard f.place told in
      let all : effects_of J (map its_place steps) ≡ effects_of J (map its_place f.done) ++ Stepped shard f.refused.event told ∷ [] =
      ap (λ (ss : List ShardStep). effects_of J (map its_place ss)) f.steps_are ∙ ap (effects_of J) (map-append its_place f.done (last ∷ []))
      ∙ effects_both J (map its_place f.done) (its_place last ∷ []) ∙ ap (λ (es : List Effect). effects_of J (map its_place f.done) ++ es) (at_step last f.refused) in
      subst₂ Taken (sym f.order) (sym all) (done_first f.done f.are_done (shard ∷ f.rest) (Stepped shard f.refused.event told ∷ []) (projected.no_room f.refused.effect_is lacks))

  up_to_place : (shards : List ℕ) (steps : List ShardStep) (shard limit : ℕ) → FoundNoPlace J.shards (effect_of op certs reading) plans shards steps shard limit → Taken shards (effects_of J (map its_place steps))
  up_to_place shards steps shard limit f =
      subst₂ Taken (sym f.order) (append-nil (effects_of J (map its_place steps))) (done_first steps f.are_done (shard ∷ f.rest) [] (projected.no_place f.plan f.planned f.full))

  performed_taken : (steps : List ShardStep) (refused : Option Reply) → IsPerformed plans J.shards op (effect_of op certs reading) steps refused → Taken (targets_of plans op) (effects_of J (map its_place steps))
  performed_taken steps refused (through w lets) = all_done (targets_of plans op) steps w
  performed_taken steps refused (not_held digest is w lacks) = all_done (targets_of plans op) steps w
  performed_taken steps refused (no_room {shard} {told} {reply} lacks f) = up_to_room (targets_of plans op) steps shard told reply lacks f
  performed_taken steps refused (no_place {shard} {limit} f) = up_to_place (targets_of plans op) steps shard limit f

-- ---- a request

module _ (plans : List Plan) (plan : Plan) (J : Journals) (x : Seeking) where
  asks_project : (own : List ℕ) → AreSilent J x.shard own → Projects plans J (map (in_shard x.shard) own)
  asks_project own quiet = projects_none plans J (map (in_shard x.shard) own) (shard_grants J x.shard own) (silent J x.shard own quiet)

  -- the ask, the ruling and the steps
  three : (asks ruling : List ℕ) (steps : List ShardStep) → Projects plans J (map (in_shard x.shard) asks) → Projects plans J (map (in_object x.request.object) ruling ++ map its_place steps) → Projects plans J (places_at x (own_at asks ruling steps))
  three asks ruling steps first later =
      subst (Projects plans J) (sym (append_assoc (map (in_shard x.shard) asks) (map (in_object x.request.object) ruling) (map its_place steps)))
      (projects_both plans J (map (in_shard x.shard) asks) (map (in_object x.request.object) ruling ++ map its_place steps) first later)

  guarded_projects : (own : Own) (reply : Reply) → IsGuarded plans plan J x own reply → Projects plans J (places_at x own)
  guarded_projects own reply (object_is_full at) = none
  guarded_projects own reply (no_ruling {own = asks} before b u) = three asks [] [] (asks_project asks (unruled_silent J plan x.shard (asks_for x before) asks reply u)) none
  guarded_projects own reply (denied {place} {at} before s d tells) =
      let o = x.request.object in
      let e = ruled_as x.shard place x.request.op rulings.Denied in
      three (place ∷ []) (at ∷ []) [] (asks_project (place ∷ []) (one_silent J x.shard place (at_shard J x.shard place d.before _ _ d.stands)))
      (projects_none plans J (map (in_object o) (at ∷ [])) (grant_at J o at before e s) (at_object J o at before e s))
  guarded_projects own reply (granted {place} {at} {entry = e} {c} {kept} {settled} {asks} {steps} {refused} before s g p out) =
      let o = x.request.object in
      let ruling = ruled_as x.shard place x.request.op (rulings.Granted e) in
      let (first, told, stands) = grant_stands J plan x.shard (asks_for x before) place e c kept settled asks g in
      let taken = effects_of J (map its_place steps) in
      let due : AreDueTo plans J (record { object = o; entry = ruling }) (changes_of o ruling ++ taken) = record {
        ask = asks_for x before;
        told = told;
        before = first;
        asked = stands;
        steps = taken;
        are_taken = performed_taken plans J x.request.op x.certs x.reading steps refused p;
        effects_are = refl;
      } in
      let grants = grants_both J (map (in_object o) (at ∷ [])) (map its_place steps)
      ∙ ap₂ (λ (l : List GrantedEntry) (m : List GrantedEntry). l ++ m) (grant_at J o at before ruling s) (step_grants J steps) in
      let effects = effects_both J (map (in_object o) (at ∷ [])) (map its_place steps) ∙ ap (λ (l : List Effect). l ++ taken) (at_object J o at before ruling s) in
      three asks (at ∷ []) steps (asks_project asks (grant_silent J plan x.shard (asks_for x before) place e c kept settled asks g))
      (subst₂ (AreProjected plans J) (sym grants) (append-nil (changes_of o ruling ++ taken) ∙ sym effects) (more due none))

module _ (n : Node) (J : Journals) where
  pub course_projects : (payload : List ℕ) (used : Used) (sent : Sent) → Course n J payload used sent → AreProjected n.plans J (grants_of J used.places) (effects_of J used.places)
  course_projects payload used sent (ruled {own} {reply} t reading plan planned r) = guarded_projects n.plans plan J _ own reply r
  course_projects payload used sent _ = none

  turn_projects : (payload : List ℕ) (used : Used) (sent : Sent) → Turned n J payload used sent → AreProjected n.plans J (grants_of J used.places) (effects_of J used.places)
  turn_projects payload used sent (plain c) = course_projects payload used sent c
  turn_projects payload used sent (pulled {used = later} asked opened c) = course_projects _ later sent c
  turn_projects payload used sent _ = none

  turns_project : (turns : List Turn) → All (IsCourse n J) turns → AreProjected n.plans J (grants_of J (places_of turns)) (effects_of J (places_of turns))
  turns_project [] all = none
  turns_project (t ∷ turns) all =
      subst (Projects n.plans J) (sym (flat_map-cons (λ (u : Turn). u.used.places) t turns))
      (projects_both n.plans J t.used.places (places_of turns) (turn_projects t.frame t.used t.sent (All-head (IsCourse n J) t turns all)) (turns_project turns (All-tail (IsCourse n J) t turns all)))

pub effects_are_projected : (n : Node) → EffectsAreProjected n
effects_are_projected n J used frames replies outcome a = subst (Projects n.plans J) (sym a.owned) (turns_project n J a.turns a.courses)
