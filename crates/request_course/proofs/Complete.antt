-- A request that came to its object came to its verdict, or was hindered.
use Rattle.std.proofs.Common.{◌≡◌, ◌⊎◌, ℕ, zero, suc, ◌+◌, ◌<◌, Bool, List, [], ◌∷◌, ◌++◌, length, map, get_or, Contains, Option, Some, refl, sym, ap, subst, ◌∙◌, inl, inr, arith}
use Rattle.std.specs.List.{range_with_len}
use Rattle.std.proofs.lemmas.List.{get_or-map, length-map}
use Rattle.std.proofs.lemmas.List.Elements.{Contains-append_right, Contains-get_or}
use Rattle.std.proofs.lemmas.List.FromFn.{get_or-range_with_len, length-range_with_len}
use Rattle.std.proofs.lemmas.List.Sums.{get_or-le-sum_by}
use Rattle.std.proofs.lemmas.Option.{same_Some, slice_get_within, slice_get-get_or}
use Rattle.object_core.specs.Objects.{ObjectEntry}
use Rattle.object_core.specs.Operation.{Op, Discard}
use Rattle.object_core.specs.Shelving.{ObjectFixed, fixed_at}
use Rattle.proof_cache.specs.Cached.{Cached}
use Rattle.stmt_codec.specs.Certificates.{Certificate}
use Rattle.taos_wire.specs.Request.{Request}
use Rattle.taos_wire.proofs.RequestLaws.{spelled_once}
use Rattle.taos_wire.specs.Reply as replies
use Rattle.taos_wire.specs.Reply.{Reply, LinkSent}
use Rattle.agent_core.specs.declared.asked.Denial.{Denial}
use Rattle.agent_core.specs.declared.asked.Settled.{Settled}
use Rattle.agent_core.specs.declared.told.Told.{Told}
use Rattle.agent_core.specs.State.{Plan, Ask, Event, Asks, Discards}
use Rattle.agent_core.specs.Journals.{Entry, entry, Begins, Stands, cache_after, MayFollow, Verdict, Granted, Denied, IsVerdict}
use Rattle.agent_core.specs.Asked.{IsGrant, IsDeniedAt, by_kept, was_kept, was_dropped, had_no_room}
use Rattle.agent_core.proofs.Few.{one_verdict}
use Rattle.agent_core.proofs.Onward.{granted_verdict, hit_verdict, denied_verdict}
use Rattle.request_course.specs.Asking.{shard_full, IsUnruled, full, replayed, channel_full}
use Rattle.request_course.specs.AtObject.{Seeking, Own, own_at, places_at, told_or, asks_for, gives_for, IsGuardedAfter, object_is_full, no_ruling, denied, granted}
use Rattle.request_course.specs.Cells.{Node, home, HasPlan, Journals, AreLegal, Place, in_shard, in_object}
use Rattle.request_course.specs.Completeness as complete
use Rattle.request_course.specs.Completeness.{HasStepped, HasAsked, IsHindered, IsItsVerdict, ArrivalsAreJudged, VerdictsAreExact}
use Rattle.request_course.specs.Course.{Arrival, its_seeking, malformed, unknown_channel, bad_seal, cert_refused, relay_failed, unknown_object, ruled}
use Rattle.request_course.specs.Credentials.{LinkCall, AreOpened}
use Rattle.request_course.specs.Effects.{ShardStep, step_at, its_place, shards_of, IsStep, WentThrough, LetsGo, removed_by, IsPerformed, through, not_held, no_room, no_place, lacks_room}
use Rattle.request_course.specs.Operations.{effect_of, targets_of}
use Rattle.request_course.proofs.CertWalks.{Opened, certs_agree, all_opened}
use Rattle.request_course.proofs.Excluding.{arrival_excludes}
use Rattle.request_course.proofs.Hindering.{used_number, too_many, commons_were_full, issuers_were_full}
use Rattle.request_course.proofs.Walks.{targets_there}

-- ---- places

pub head : {X : Type 0} (x : X) (xs : List X) → Contains (x ∷ xs) x
head x xs = (0, omega arith, refl)

behind : {X : Type 0} (y x : X) (xs : List X) → Contains xs x → Contains (y ∷ xs) x
behind y x xs h = Contains-append_right (y ∷ []) xs x h

pub in_middle : {X : Type 0} (xs front rest : List X) (x : X) → xs ≡ front ++ x ∷ rest → Contains xs x
in_middle xs front rest x is = subst (λ l. Contains l x) (sym is) (Contains-append_right front (x ∷ rest) x (head x rest))

pub mapped : {X Y : Type 0} (f : X → Y) (xs : List X) (x : X) → Contains xs x → Contains (map f xs) (f x)
mapped f xs x (i, lt, at) = (i, omega (arith, lt, length-map xs f), get_or-map f xs i x (f x) lt ∙ ap f at)

none_let_go : (k : ℕ) → (0 < k → ⊥) → k ≡ 0
none_let_go zero never = refl
none_let_go (suc k) never = absurd (never (omega arith))

pub front_of_stands : {E : Type 0} {journal before : List E} {at : ℕ} {e : E} → Stands journal at before e → Begins before journal
front_of_stands {e = e} s = record { rest = e ∷ s.rest; is = s.is }

-- what is told for want of room is that the commons are full, or that no more issuers fit
pub room_told : (shard : ℕ) (told : Told) (reply : Reply) → lacks_room shard told ≡ Some reply →
    ((held : ℕ) × (told ≡ Told.CommonsFull held) × (replies.CommonsFull held shard ≡ reply)) ⊎ ((held : ℕ) × (told ≡ Told.WithdrawnFull held) × (replies.WithdrawnFull held shard ≡ reply))
room_told shard (Told.CommonsFull held) reply is = inl (held, refl, same_Some (replies.CommonsFull held shard) reply is)
room_told shard (Told.WithdrawnFull held) reply is = inr (held, refl, same_Some (replies.WithdrawnFull held shard) reply is)
room_told shard _ reply is = absurd cc

module _ (n : Node) (J : Journals) (legal : AreLegal n J) (x : Seeking) (plan : Plan) (planned : HasPlan n x.shard plan) where
  abbrev the_ask : List ObjectEntry → Ask
  the_ask entries = asks_for x entries

  abbrev Ends : List Place → Reply → Type 0
  Ends own reply = IsItsVerdict n J own x reply ⊎ IsHindered n J own x reply

  may : (shard : ℕ) (p : Plan) → HasPlan n shard p → (place : ℕ) (before : List Entry) (e : Entry) → Stands (J.shards shard) place before e → MayFollow p before e
  may shard p at place before e s = legal.shards shard p at before e s.rest s.is

  abbrev stepped : (own : List Place) (shard : ℕ) (p : Plan) → HasPlan n shard p → (place : ℕ) → Contains own (in_shard shard place) → (before : List Entry) (event : Event) (told : Told) → Stands (J.shards shard) place before (entry event told) →
      HasStepped n J own shard event told
  stepped own shard p at place owned before event told s = record { plan = p; planned = at; place = place; owned = owned; before = before; stands = s }

  -- the Ask is at the first own place
  abbrev pub asked : (rest : List Place) (entries : List ObjectEntry) → Begins entries (J.objects x.request.object) → (place : ℕ) (before : List Entry) (told : Told) →
      Stands (J.shards x.shard) place before (entry (Asks (the_ask entries)) told) → HasAsked n J (in_shard x.shard place ∷ rest) x
  asked rest entries begins place before told s = record {
    entries = entries;
    begins = begins;
    told = told;
    step = stepped (in_shard x.shard place ∷ rest) x.shard plan planned place (head (in_shard x.shard place) rest) before (Asks (the_ask entries)) told s;
    first = refl;
  }

  -- ---- there is no ruling

  module _ (entries : List ObjectEntry) (begins : Begins entries (J.objects x.request.object)) where
    abbrev At : ℕ → List Entry → Told → Type 0
    At place before told = Stands (J.shards x.shard) place before (entry (Asks (the_ask entries)) told)

    abbrev alone : ℕ → List Place
    alone place = places_at x (own_at (place ∷ []) [] [])

    abbrev asked_alone : (place : ℕ) (before : List Entry) (told : Told) → At place before told → HasAsked n J (alone place) x
    asked_alone place before told s = asked [] entries begins place before told s

    hindered_by_number : (place last : ℕ) (before : List Entry) → At place before (Told.Replayed last) → IsHindered n J (alone place) x (replies.Replayed last)
    hindered_by_number place last before s =
        let k = asked_alone place before (Told.Replayed last) s in
        let told = used_number (cache_after plan before) (complete.state_asked n J (alone place) k) (the_ask entries) last (sym (may x.shard plan planned place before (entry (Asks (the_ask entries)) (Told.Replayed last)) s).tells) in
        subst (λ (l : ℕ). IsHindered n J (alone place) x (replies.Replayed l)) told.0 (complete.number_used k told.1)

    hindered_by_own : (place held : ℕ) (before : List Entry) → At place before (Told.Full held) → IsHindered n J (alone place) x (replies.ChannelFull held)
    hindered_by_own place held before s =
        let k = asked_alone place before (Told.Full held) s in
        let told = too_many (cache_after plan before) (complete.state_asked n J (alone place) k) (the_ask entries) held (sym (may x.shard plan planned place before (entry (Asks (the_ask entries)) (Told.Full held)) s).tells) in
        subst (λ (l : ℕ). IsHindered n J (alone place) x (replies.ChannelFull l)) told.0 (complete.own_full k told.1)

    unruled_ends : (asks : List ℕ) (reply : Reply) → IsUnruled plan (J.shards x.shard) x.shard (the_ask entries) asks reply → Ends (places_at x (own_at asks [] [])) reply ⊎ (reply ≡ replies.NoMemory)
    unruled_ends asks reply (full at) = inl (inr (complete.shard_is_full plan planned (head x.shard (targets_of n.plans x.request.op)) at))
    unruled_ends asks reply (replayed {place} {last} t) = inl (inr (hindered_by_number place last t.0 t.1))
    unruled_ends asks reply (channel_full {place} {held} t) = inl (inr (hindered_by_own place held t.0 t.1))
    unruled_ends asks reply _ = inr refl

    -- ---- there is one

    pub denied_ends : (place at : ℕ) (denial : Denial) (told : LinkSent) → IsDeniedAt plan (J.shards x.shard) (the_ask entries) place denial → IsItsVerdict n J (places_at x (own_at (place ∷ []) (at ∷ []) [])) x (replies.Denied x.shard place told)
    denied_ends place at denial told d =
        complete.denied d.denied.link (asked (in_object x.request.object at ∷ []) entries begins place d.before Told.Miss d.stands) (denied_verdict plan (J.shards x.shard) (the_ask entries) place denial d)

    pub granted_ends : (place e : ℕ) (c : Cached) (kept : Bool) (settled : Settled) (asks ruling : List ℕ) (steps : List ShardStep) (result : List ℕ) → IsGrant plan (J.shards x.shard) (the_ask entries) place e c kept settled asks →
        IsItsVerdict n J (places_at x (own_at asks ruling steps)) x (replies.Granted kept e x.shard place c.proof c.cites result)
    granted_ends place e c kept settled asks ruling steps result (by_kept g) =
        complete.granted (asked _ entries begins place g.before (Told.Hit e) g.stands) (hit_verdict plan (J.shards x.shard) (the_ask entries) place e c g)
    granted_ends place e c kept settled asks ruling steps result (was_kept g t) =
        complete.granted (asked _ entries begins place g.before Told.Miss g.stands) (granted_verdict plan (J.shards x.shard) (the_ask entries) place e c g)
    granted_ends place e c kept settled asks ruling steps result (was_dropped g t) =
        complete.granted (asked _ entries begins place g.before Told.Miss g.stands) (granted_verdict plan (J.shards x.shard) (the_ask entries) place e c g)
    granted_ends place e c kept settled asks ruling steps result (had_no_room g at) =
        complete.granted (asked _ entries begins place g.before Told.Miss g.stands) (granted_verdict plan (J.shards x.shard) (the_ask entries) place e c g)

  -- ---- what was performed

  some : 0 < length n.plans
  some = omega (arith, slice_get_within n.plans x.shard plan planned)

  abbrev pub effect : Option Event
  effect = effect_of x.request.op x.certs x.reading

  pub has_plan : (shard : ℕ) → shard < length n.plans → HasPlan n shard (get_or n.plans shard plan)
  has_plan shard lt = slice_get-get_or n.plans shard plan lt

  pub target_there : (shard : ℕ) → Contains (targets_of n.plans x.request.op) shard → shard < length n.plans
  target_there shard (i, lt, at) = subst (λ (s : ℕ). s < length n.plans) at (targets_there n.plans some x.request.op i shard lt)

  module _ (asks ruling : List ℕ) (steps : List ShardStep) where
    abbrev own : List Place
    own = places_at x (own_at asks ruling steps)

    pub owned_step : (d : ShardStep) → Contains steps d → Contains own (its_place d)
    owned_step d there = Contains-append_right (map (in_shard x.shard) asks ++ map (in_object x.request.object) ruling) (map its_place steps) (its_place d) (mapped its_place steps d there)

    pub hindered_by_commons : (shard place held : ℕ) (told : Told) → told ≡ Told.CommonsFull held → Contains (targets_of n.plans x.request.op) shard → Contains steps (step_at shard place told) → IsStep J.shards effect (step_at shard place told) → IsHindered n J own x (replies.CommonsFull held shard)
    hindered_by_commons shard place held told told_is target there d =
        let p = get_or n.plans shard plan in
        let at = has_plan shard (target_there shard target) in
        let tells = (may shard p at place d.before (entry d.event told) d.stands).tells in
        let f = commons_were_full p d.before x.certs x.reading held d.event (sym told_is ∙ tells) x.request.op d.effect_is in
        let stands = subst (λ (e : Event). Stands (J.shards shard) place d.before (entry e told)) f.event_is d.stands in
        let s = stepped own shard p at place (owned_step (step_at shard place told) there) d.before _ told stands in
        subst (λ (h : ℕ). IsHindered n J own x (replies.CommonsFull h shard)) f.held_is (complete.commons_full f.op_is s f.more)

    pub hindered_by_issuers : (shard place held : ℕ) (told : Told) → told ≡ Told.WithdrawnFull held → Contains (targets_of n.plans x.request.op) shard → Contains steps (step_at shard place told) → IsStep J.shards effect (step_at shard place told) → IsHindered n J own x (replies.WithdrawnFull held shard)
    hindered_by_issuers shard place held told told_is target there d =
        let p = get_or n.plans shard plan in
        let at = has_plan shard (target_there shard target) in
        let tells = (may shard p at place d.before (entry d.event told) d.stands).tells in
        let f = issuers_were_full p d.before x.certs x.reading held d.event (sym told_is ∙ tells) x.request.op d.effect_is in
        let stands = subst (λ (e : Event). Stands (J.shards shard) place d.before (entry e told)) f.event_is d.stands in
        let s = stepped own shard p at place (owned_step (step_at shard place told) there) d.before _ told stands in
        subst (λ (h : ℕ). IsHindered n J own x (replies.WithdrawnFull h shard)) f.held_is (complete.issuers_full f.op_is s f.other f.full)

    -- a step of a Discard that let go of none
    let_go_of_none : (digest : List ℕ) (d : ShardStep) → effect ≡ Some (Discards digest) → d.shard < length n.plans → Contains steps d → IsStep J.shards effect d → removed_by d.told ≡ 0 → HasStepped n J own d.shard (Discards digest) (Told.Removed 0)
    let_go_of_none digest d is lt there s none =
        let at = has_plan d.shard lt in
        let event : s.event ≡ Discards digest = same_Some s.event (Discards digest) (sym s.effect_is ∙ is) in
        let stands = subst (λ (e : Event). Stands (J.shards d.shard) d.place s.before (entry e d.told)) event s.stands in
        let tells = (may d.shard (get_or n.plans d.shard plan) at d.place s.before (entry (Discards digest) d.told) stands).tells in
        let told : d.told ≡ Told.Removed 0 = tells ∙ ap Told.Removed (sym (ap removed_by tells) ∙ none) in
        stepped own d.shard (get_or n.plans d.shard plan) at d.place (owned_step d there) s.before (Discards digest) (Told.Removed 0) (subst (λ (t : Told). Stands (J.shards d.shard) d.place s.before (entry (Discards digest) t)) told stands)

    abbrev no_step : ShardStep
    no_step = step_at 0 0 Told.Miss

    nowhere : (digest : List ℕ) → x.request.op ≡ Discard digest → WentThrough J.shards effect (targets_of n.plans x.request.op) steps → (LetsGo steps → ⊥) → (shard : ℕ) → shard < length n.plans → HasStepped n J own shard (Discards digest) (Told.Removed 0)
    nowhere digest op_is w none shard lt =
        let order : shards_of steps ≡ range_with_len 0 (length n.plans) = w.order ∙ ap (targets_of n.plans) op_is in
        let long : length steps ≡ length n.plans = sym (length-map steps (λ (s : ShardStep). s.shard)) ∙ ap length order ∙ length-range_with_len 0 (length n.plans) in
        let within : shard < length steps = omega (arith, lt, long) in
        let d = get_or steps shard no_step in
        let from_zero : 0 + shard ≡ shard = omega arith in
        let shard_is : d.shard ≡ shard =
        sym (get_or-map (λ (s : ShardStep). s.shard) steps shard no_step 0 within) ∙ ap (λ (l : List ℕ). get_or l shard 0) order ∙ get_or-range_with_len 0 (length n.plans) shard 0 lt ∙ from_zero in
        let removed = get_or-le-sum_by (λ (s : ShardStep). removed_by s.told) steps shard no_step within in
        let zero_removed : removed_by d.told ≡ 0 = none_let_go (removed_by d.told) (λ more. none (omega (arith, removed, more))) in
        subst (λ (s : ℕ). HasStepped n J own s (Discards digest) (Told.Removed 0)) shard_is
        (let_go_of_none digest d (ap (λ (o : Op). effect_of o x.certs x.reading) op_is) (subst (λ (s : ℕ). s < length n.plans) (sym shard_is) lt) (Contains-get_or steps shard no_step within) (w.are_done.stand shard no_step within) zero_removed)

    performed_ends : (refused : Option Reply) (told : Reply) → IsPerformed n.plans J.shards x.request.op effect steps refused → IsItsVerdict n J own x told → Ends own (told_or refused told)
    performed_ends refused told (through w lets) v = inl v
    performed_ends refused told (not_held digest op_is w none) v = inr (complete.nowhere_held digest op_is (nowhere digest op_is w none))
    performed_ends refused told (no_room {shard} {told = said} {reply} lacks f) v =
        let there = in_middle steps f.done [] (step_at shard f.place said) f.steps_are in
        let target = in_middle (targets_of n.plans x.request.op) (shards_of f.done) f.rest shard f.order in
        elim (room_told shard said reply lacks) [
          | inl (held, told_is, reply_is) ↦ inr (subst (IsHindered n J own x) reply_is (hindered_by_commons shard f.place held said told_is target there f.refused))
          | inr (held, told_is, reply_is) ↦ inr (subst (IsHindered n J own x) reply_is (hindered_by_issuers shard f.place held said told_is target there f.refused))
        ]
    performed_ends refused told (no_place {shard} {limit} f) v =
        inr (subst (λ (l : ℕ). IsHindered n J own x (shard_full shard l)) (sym f.limit_is)
        (complete.shard_is_full f.plan f.planned (behind x.shard shard (targets_of n.plans x.request.op) (in_middle (targets_of n.plans x.request.op) (shards_of steps) f.rest shard f.order)) f.full))

  guarded_ends : (past : Journals) (own : Own) (reply : Reply) → IsGuardedAfter n.plans plan (past, J) x own reply → Ends (places_at x own) reply ⊎ (reply ≡ replies.NoMemory)
  guarded_ends past mine reply (object_is_full at) = inl (inr (complete.object_is_full at))
  guarded_ends past mine reply (no_ruling {own = asks} before b u) = unruled_ends before b.begins asks reply u
  guarded_ends past mine reply (denied {place} {at} {denial} {told} before s d tells) = inl (inl (denied_ends before (front_of_stands s) place at denial told d))
  guarded_ends past mine reply (granted {place} {at} {entry = e} {c} {kept} {settled} {asks} {steps} {refused} before s g p out) =
      inl (performed_ends asks (at ∷ []) steps refused (replies.Granted kept e x.shard place c.proof c.cites (gives_for x before)) p (granted_ends before (front_of_stands s) place e c kept settled asks (at ∷ []) steps (gives_for x before) g))

-- ---- the whole

-- what is sought by a request with these certificates, at a reading
abbrev sought : Node → Request → List Certificate → ObjectFixed → ℕ → Seeking
sought n r certs fixed reading = record { request = r; certs = certs; reading = reading; shard = home n r.channel; fixed = fixed }

same_opened : (a b : List Certificate) → Opened a ≡ Opened b → a ≡ b
same_opened a b e = cc

module _ (n : Node) (payload : List ℕ) where
  pub same_sought : (s t : Arrival n payload) (reading : ℕ) → s.calls ≡ t.calls → its_seeking n s reading ≡ its_seeking n t reading
  same_sought s t reading same =
      let request : s.request ≡ t.request = spelled_once s.request t.request payload s.arrived.presented.asked.spelled t.arrived.presented.asked.spelled in
      let opened = subst (λ (r : Request). AreOpened n.relay_key r.certs t.calls t.certs) (sym request) t.arrived.presented.opened in
      let also = subst (λ (calls : List LinkCall). AreOpened n.relay_key s.request.certs calls t.certs) (sym same) opened in
      let ends = certs_agree n.relay_key s.request.certs (s.calls ++ []) [] [] (Opened s.certs) (Opened t.certs) (all_opened n.relay_key s.request.certs s.calls [] s.certs s.arrived.presented.opened) (all_opened n.relay_key s.request.certs s.calls [] t.certs also) in
      let there : fixed_at n.objects s.request.object ≡ Some t.object = ap (λ (r : Request). fixed_at n.objects r.object) request ∙ t.arrived.there in
      let object : s.object ≡ t.object = same_Some s.object t.object (sym s.arrived.there ∙ there) in
      ap (λ (r : Request). sought n r s.certs s.object reading) request ∙ ap (λ (cs : List Certificate). sought n t.request cs s.object reading) (same_opened s.certs t.certs ends.1) ∙ ap (λ (f : ObjectFixed). sought n t.request t.certs f reading) object

pub arrivals_are_judged : (n : Node) → ArrivalsAreJudged n
arrivals_are_judged n past J payload used sent legal (malformed none reads) t same = absurd (none t.request t.arrived.presented.asked.spelled)
arrivals_are_judged n past J payload used sent legal (unknown_channel r spelled none) t same = let out = arrival_excludes n J payload used sent t (unknown_channel r spelled none) in absurd (out.1 refl)
arrivals_are_judged n past J payload used sent legal (bad_seal r key spelled keyed other) t same = let out = arrival_excludes n J payload used sent t (bad_seal r key spelled keyed other) in absurd (out.2 refl)
arrivals_are_judged n past J payload used sent legal (cert_refused came first) t same = let out = arrival_excludes n J payload used sent t (cert_refused came first) in absurd ((out.3 same).0 refl)
arrivals_are_judged n past J payload used sent legal (relay_failed came first) t same = let out = arrival_excludes n J payload used sent t (relay_failed came first) in absurd ((out.3 same).1 refl)
arrivals_are_judged n past J payload used sent legal (unknown_object opened none) t same = let out = arrival_excludes n J payload used sent t (unknown_object opened none) in absurd ((out.3 same).2 refl)
arrivals_are_judged n past J payload used sent legal (ruled {own} {reply} s reading plan planned is) t same =
    let moved = same_sought n payload s t reading same in
    elim (guarded_ends n J legal (its_seeking n s reading) plan planned past own reply is) [
      | inl ends ↦ inl (record { reading = reading; read = refl; ends = subst (λ (x : Seeking). IsItsVerdict n J (places_at (its_seeking n s reading) own) x reply ⊎ IsHindered n J (places_at (its_seeking n s reading) own) x reply) moved ends })
      | inr lacking ↦ inr lacking
    ]
arrivals_are_judged n past J payload used sent legal _ t same = inr refl

-- ---- a verdict, once

same_cut : {X : Type 0} (a b : List X) (x y : X) (r s : List X) → length a ≡ length b → a ++ x ∷ r ≡ b ++ y ∷ s → (a ≡ b) × (x ≡ y)
same_cut [] [] x y r s long e = (refl, cc)
same_cut (u ∷ a) (v ∷ b) x y r s long e =
    let tails : a ++ x ∷ r ≡ b ++ y ∷ s = cc in
    let heads : u ≡ v = cc in
    let (same, at) = same_cut a b x y r s (omega (arith, long)) tails in
    (ap (λ (z : _). z ∷ a) heads ∙ ap (λ (l : List _). v ∷ l) same, at)
same_cut _ _ x y r s long e = absurd (omega (arith, long))

same_place : (s p q : ℕ) → in_shard s p ≡ in_shard s q → p ≡ q
same_place s p q e = ap (λ (z : Place). z.number) e

same_ask : (a b : Ask) (s t : Told) → entry (Asks a) s ≡ entry (Asks b) t → a ≡ b
same_ask a b s t e =
    let events : Asks a ≡ Asks b = ap (λ (z : Entry). z.event) e in
    cc

module _ (n : Node) (J : Journals) (own : List Place) (x : Seeking) (k l : HasAsked n J own x) where
  -- what holds of the Ask and of what it met holds so of either
  pub moved : (P : Plan → List Entry → Ask → Type 0) → P k.step.plan k.step.before (asks_for x k.entries) → P l.step.plan l.step.before (asks_for x l.entries)
  moved P is =
      let place : k.step.place ≡ l.step.place = same_place x.shard k.step.place l.step.place (same_Some (in_shard x.shard k.step.place) (in_shard x.shard l.step.place) (sym k.first ∙ l.first)) in
      let plan : k.step.plan ≡ l.step.plan = same_Some k.step.plan l.step.plan (sym k.step.planned ∙ l.step.planned) in
      let long : length k.step.before ≡ length l.step.before = k.step.stands.placed ∙ place ∙ sym l.step.stands.placed in
      let (before, at) = same_cut k.step.before l.step.before (entry (Asks (asks_for x k.entries)) k.told) (entry (Asks (asks_for x l.entries)) l.told) k.step.stands.rest l.step.stands.rest long (sym k.step.stands.is ∙ l.step.stands.is) in
      let ask = same_ask (asks_for x k.entries) (asks_for x l.entries) k.told l.told at in
      subst (λ (p : Plan). P p l.step.before (asks_for x l.entries)) plan
      (subst (λ (b : List Entry). P k.step.plan b (asks_for x l.entries)) before
      (subst (λ (a : Ask). P k.step.plan k.step.before a) ask is))

  moved_verdict : (v : Verdict) → IsVerdict k.step.plan k.step.before (asks_for x k.entries) v → IsVerdict l.step.plan l.step.before (asks_for x l.entries) v
  moved_verdict v = moved (λ p b a. IsVerdict p b a v)

pub verdicts_are_exact : (n : Node) → VerdictsAreExact n
verdicts_are_exact n J own x reply (complete.granted {kept} {at} {proof} {cites} {result} k v) l =
    (λ is. refl, λ why is. absurd (one_verdict k.step.plan k.step.before (asks_for x k.entries) why v (moved_verdict n J own x l k (Denied why) is)))
verdicts_are_exact n J own x reply (complete.denied {link} why k v) l =
    (λ is. absurd (one_verdict k.step.plan k.step.before (asks_for x k.entries) why (moved_verdict n J own x l k Granted is) v), λ other is. refl)
