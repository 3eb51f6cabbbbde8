-- A reply has the cause of its status.
use Rattle.std.proofs.Common.{◌≡◌, ◌≢◌, ◌⊎◌, ℕ, ◌<◌, List, [], ◌∷◌, length, All, Contains, Option, refl, sym, subst, inl, inr, arith}
use Rattle.std.proofs.lemmas.List.Elements.{All-contains}
use Rattle.denial_link.specs.declared.link.Link.{Link}
use Rattle.object_core.specs.Objects.{ObjectEntry}
use Rattle.taos_wire.specs.Reply.{Reply, Sent, status_of}
use Rattle.taos_wire.specs.Reply as replies
use Rattle.agent_core.specs.declared.told.Told.{Told}
use Rattle.agent_core.specs.Journals.{entry, Begins, cache_after, Granted, Denied, IsVerdict}
use Rattle.agent_core.specs.State.{Plan, Event, Asks}
use Rattle.request_course.specs.Asking.{IsUnruled, full, replayed, channel_full}
use Rattle.request_course.specs.AtObject.{Seeking, Own, own_at, places_at, told_or, asks_for, gives_for, IsGuardedAfter, object_is_full, no_ruling, denied, granted}
use Rattle.request_course.specs.Causes.{TookStep, AllStepped, AllDid, SomeLetGo, CausesEnd, CausesRuling, HasCauseOf}
use Rattle.request_course.specs.Causes as cause
use Rattle.request_course.specs.Cells.{Node, HasPlan, Journals, AreLegal, Place}
use Rattle.request_course.specs.Completeness.{HasAsked, ask_in, state_asked, IsHindered, IsItsVerdict}
use Rattle.request_course.specs.Completeness as complete
use Rattle.request_course.specs.Course.{its_seeking, Used, CourseAfter, malformed, unknown_channel, bad_seal, cert_refused, relay_failed, unknown_object, ruled}
use Rattle.request_course.specs.Effects.{ShardStep, step_at, shards_of, IsDone, IsStep, WentThrough, FoundNoPlace, LetsGo, IsPerformed, through, not_held, no_room, no_place}
use Rattle.request_course.specs.Operations.{effect_of, targets_of}
use Rattle.request_course.proofs.Agreeing.{IsEntry, performed_entries}
use Rattle.request_course.proofs.Complete.{asked, mapped, target_there, denied_ends, granted_ends, hindered_by_commons, hindered_by_issuers, in_middle, front_of_stands, room_told}
use Rattle.request_course.proofs.Hindering.{used_number, too_many}
use Rattle.request_course.proofs.Judging.{full_is_new}
use Rattle.request_course.proofs.OwnSteps.{IsAside, grant_aside, stepped_once, some_removed, one_let_go, unmapped, took, located, lets_go}

-- a verdict that is the reply, by its status
abbrev HasRuled : Node → Journals → List Place → Seeking → ℕ → Type 0
HasRuled n J own x s =
    ((s ≡ 0) × (k : HasAsked n J own x) × IsVerdict k.step.plan k.step.before (ask_in n J own k) Granted)
    ⊎ ((s ≡ 1) × (why : Link) × (k : HasAsked n J own x) × IsVerdict k.step.plan k.step.before (ask_in n J own k) (Denied why))

of_verdict : (n : Node) (J : Journals) (own : List Place) (x : Seeking) (reply : Reply) → IsItsVerdict n J own x reply → HasRuled n J own x (status_of reply)
of_verdict n J own x reply (complete.granted {kept} {at} {proof} {cites} {result} k v) = inl (refl, k, v)
of_verdict n J own x reply (complete.denied {link} why k v) = inr (refl, why, k, v)

not_both : (s : ℕ) → s ≡ 0 → s ≡ 1 → ⊥
not_both s none one = omega (arith, none, one)

-- what hinders with this status is that the commons are full
of_commons : (n : Node) (J : Journals) (own : List Place) (x : Seeking) (reply : Reply) → IsHindered n J own x reply → status_of reply ≡ 12 → CausesEnd n J own x 12
of_commons n J own x reply (complete.commons_full is s more) e = cause.commons_full is s more
of_commons n J own x reply _ e = absurd cc

-- or that no more issuers fit
of_issuers : (n : Node) (J : Journals) (own : List Place) (x : Seeking) (reply : Reply) → IsHindered n J own x reply → status_of reply ≡ 14 → CausesEnd n J own x 14
of_issuers n J own x reply (complete.issuers_full is s other most) e = cause.issuers_full is s other most
of_issuers n J own x reply _ e = absurd cc

module _ (n : Node) (J : Journals) (legal : AreLegal n J) (x : Seeking) (plan : Plan) (planned : HasPlan n x.shard plan) where
  -- ---- there is no ruling

  unruled_caused : (entries : List ObjectEntry) → Begins entries (J.objects x.request.object) → (asks : List ℕ) (reply : Reply) →
      IsUnruled plan (J.shards x.shard) x.shard (asks_for x entries) asks reply → status_of reply ≢ 11 → CausesRuling n J (places_at x (own_at asks [] [])) x (status_of reply)
  unruled_caused entries begins asks reply (full at) known = cause.shard_full plan planned refl at
  unruled_caused entries begins asks reply (replayed {place} {last} t) known =
      let a = asks_for x entries in
      let k = asked n J legal x plan planned [] entries begins place t.0 (Told.Replayed last) t.1 in
      let tells = (legal.shards x.shard plan planned t.0 (entry (Asks a) (Told.Replayed last)) t.1.rest t.1.is).tells in
      cause.number_used k (used_number (cache_after plan t.0) (state_asked n J (places_at x (own_at (place ∷ []) [] [])) k) a last (sym tells)).1
  unruled_caused entries begins asks reply (channel_full {place} {held} t) known =
      let a = asks_for x entries in
      let k = asked n J legal x plan planned [] entries begins place t.0 (Told.Full held) t.1 in
      let tells = (legal.shards x.shard plan planned t.0 (entry (Asks a) (Told.Full held)) t.1.rest t.1.is).tells in
      let s = state_asked n J (places_at x (own_at (place ∷ []) [] [])) k in
      cause.own_full k (full_is_new (cache_after plan t.0) s a held (sym tells)) (too_many (cache_after plan t.0) s a held (sym tells)).1
  unruled_caused entries begins asks reply _ known = absurd (known refl)

  -- ---- what was performed

  abbrev its_effect : Option Event
  its_effect = effect_of x.request.op x.certs x.reading

  module _ (asks ruling : List ℕ) (steps : List ShardStep) (aside : All (IsAside (J.shards x.shard)) asks) (entries : All (IsEntry J.shards) steps) where
    abbrev own : List Place
    own = places_at x (own_at asks ruling steps)

    its_step : (shard : ℕ) (told : Told) → TookStep n J own x shard told → (place : ℕ) × Contains steps (step_at shard place told)
    its_step = located n J legal x plan planned asks ruling steps aside entries

    -- a step of the effect, at its shard
    step_took : (d : ShardStep) → Contains steps d → All (IsStep J.shards its_effect) steps → d.shard < length n.plans → TookStep n J own x d.shard d.told
    step_took d there stand lt = took n J legal x plan planned asks ruling steps d there (All-contains (IsStep J.shards its_effect) steps d stand there) lt

    all_stepped : WentThrough J.shards its_effect (targets_of n.plans x.request.op) steps → AllStepped n J own x
    all_stepped w shard target =
        let (d, there, is) = unmapped (λ (s : ShardStep). s.shard) (step_at 0 0 Told.Miss) steps shard (subst (λ (l : List ℕ). Contains l shard) (sym w.order) target) in
        let lt = subst (λ (s : ℕ). s < length n.plans) (sym is) (target_there n J legal x plan planned shard target) in
        (d.told, subst (λ (s : ℕ). TookStep n J own x s d.told) is (step_took d there w.are_done.stand lt))

    all_did : All (λ (s : ShardStep). IsDone s.told) steps → AllDid n J own x
    all_did done shard told t = let (place, there) = its_step shard told t in All-contains (λ (s : ShardStep). IsDone s.told) steps (step_at shard place told) done there

    some_let_go : WentThrough J.shards its_effect (targets_of n.plans x.request.op) steps → LetsGo steps → SomeLetGo n J own x
    some_let_go w some =
        let (d, there, more) = one_let_go steps some in
        let (count, removed, is) = some_removed d.told more in
        let target = subst (λ (l : List ℕ). Contains l d.shard) w.order (mapped (λ (s : ShardStep). s.shard) steps d there) in
        (d.shard, count, removed, subst (TookStep n J own x d.shard) is (step_took d there w.are_done.stand (target_there n J legal x plan planned d.shard target)))

    never_stepped : (shard limit : ℕ) → FoundNoPlace J.shards its_effect n.plans (targets_of n.plans x.request.op) steps shard limit → (told : Told) → TookStep n J own x shard told → ⊥
    never_stepped shard limit f told t =
        let (place, there) = its_step shard told t in
        stepped_once n.plans x.request.op shard (shards_of steps) f.rest f.order (mapped (λ (s : ShardStep). s.shard) steps (step_at shard place told) there)

    ended : (refused : Option Reply) (told : Reply) → status_of told ≡ 0 → IsPerformed n.plans J.shards x.request.op its_effect steps refused → CausesEnd n J own x (status_of (told_or refused told))
    ended refused told zero (through w lets) = subst (CausesEnd n J own x) (sym zero) (cause.done (all_stepped w) (all_did w.are_done.done) (λ digest is. some_let_go w (lets digest is)))
    ended refused told zero (not_held digest is w none) = cause.nowhere_held digest is (all_stepped w) (λ some. none (lets_go n J legal x plan planned asks ruling steps aside entries some))
    ended refused told zero (no_room {shard} {told = said} {reply} lacks f) =
        let there = in_middle steps f.done [] (step_at shard f.place said) f.steps_are in
        let target = in_middle (targets_of n.plans x.request.op) (shards_of f.done) f.rest shard f.order in
        elim (room_told shard said reply lacks) [
          | inl (held, told_is, reply_is) ↦
              let hindered = hindered_by_commons n J legal x plan planned asks ruling steps shard f.place held said told_is target there f.refused in
              subst (λ (r : Reply). CausesEnd n J own x (status_of r)) reply_is (of_commons n J own x (replies.CommonsFull held shard) hindered refl)
          | inr (held, told_is, reply_is) ↦
              let hindered = hindered_by_issuers n J legal x plan planned asks ruling steps shard f.place held said told_is target there f.refused in
              subst (λ (r : Reply). CausesEnd n J own x (status_of r)) reply_is (of_issuers n J own x (replies.WithdrawnFull held shard) hindered refl)
        ]
    ended refused told zero (no_place {shard} {limit} f) =
        cause.no_place f.plan f.planned (in_middle (targets_of n.plans x.request.op) (shards_of steps) f.rest shard f.order) f.full (never_stepped shard limit f) (all_did f.are_done.done)

  -- ---- the whole at the object

  guarded_caused : (past : Journals) (mine : Own) (reply : Reply) → IsGuardedAfter n.plans plan (past, J) x mine reply → status_of reply ≢ 11 → CausesRuling n J (places_at x mine) x (status_of reply)
  guarded_caused past mine reply (object_is_full at) known = cause.object_full refl at
  guarded_caused past mine reply (no_ruling {own = asks} before b u) known = unruled_caused before b.begins asks reply u known
  guarded_caused past mine reply (denied {place} {at} {denial} {told} before s d tells) known =
      let verdict = denied_ends n J legal x plan planned before (front_of_stands s) place at denial told d in
      elim (of_verdict n J (places_at x (own_at (place ∷ []) (at ∷ []) [])) x (replies.Denied x.shard place told) verdict) [
        | inl (wrong, k, v) ↦ absurd (not_both 1 wrong refl)
        | inr (is, why, k, v) ↦ cause.denied why k v
      ]
  guarded_caused past mine reply (granted {place} {at} {entry = e} {c} {kept} {settled} {asks} {steps} {refused} before s g p out) known =
      let told = replies.Granted kept e x.shard place c.proof c.cites (gives_for x before) in
      let verdict = granted_ends n J legal x plan planned before (front_of_stands s) place e c kept settled asks (at ∷ []) steps (gives_for x before) g in
      let aside = grant_aside plan (J.shards x.shard) _ place e c kept settled asks g in
      let entries = performed_entries n.plans J.shards x.request.op x.certs x.reading steps refused p in
      elim (of_verdict n J (places_at x (own_at asks (at ∷ []) steps)) x told verdict) [
        | inl (is, k, v) ↦ cause.granted k v (ended asks (at ∷ []) steps aside entries refused told refl p)
        | inr (wrong, why, k, v) ↦ absurd (not_both 0 refl wrong)
      ]

-- ---- the whole

pub caused : (n : Node) (past J : Journals) (payload : List ℕ) (used : Used) (sent : Sent) → AreLegal n J → CourseAfter n past J payload used sent → status_of sent.reply ≢ 11 → HasCauseOf n J payload used (status_of sent.reply)
caused n past J payload used sent legal (malformed none reads) known = cause.malformed none
caused n past J payload used sent legal (unknown_channel r spelled none) known = cause.unknown_channel r spelled none
caused n past J payload used sent legal (bad_seal r key spelled keyed other) known = cause.bad_seal r key spelled keyed other
caused n past J payload used sent legal (cert_refused came first) known = cause.cert_refused came first
caused n past J payload used sent legal (relay_failed came first) known = cause.relay_failed came first
caused n past J payload used sent legal (unknown_object opened none) known = cause.unknown_object opened none
caused n past J payload used sent legal (ruled {own} {reply} t reading plan planned is) known =
    cause.ruled t reading refl refl (guarded_caused n J legal (its_seeking n t reading) plan planned past own reply is known)
caused n past J payload used sent legal _ known = absurd (known refl)
