-- A step of the real shard, and the entry that was spelled.
use Rattle.std.proofs.Common.{◌≡◌, ◌≢◌, ℕ, ◌<◌, ◌≤◌, List, [], length, map, Option, Some, None, slice_get, refl, sym, ap, ap₂, ◌∙◌, subst, arith}
use Rattle.std.specs.Option.{option_map}
use Rattle.std.proofs.lemmas.List.{length-map}
use Rattle.std.proofs.lemmas.Option.{same_Some}
use Rattle.prin_term.specs.Principal.{Principal}
use Rattle.stmt_codec.specs.Certificates.{Certificate}
use Rattle.taos_calculus.specs.Rules.{Line}
use Rattle.proof_cache.specs.Cached.{Cached, lease_of}
use Rattle.agent_core.specs.declared.told.Answer.{Answer}
use Rattle.agent_core.specs.declared.told.Told.{Told}
use Rattle.agent_core.specs.Answers.{FitsEvent, Full, Given, Handed, OfGiven, Stepped, given_by}
use Rattle.agent_core.specs.Journals.{Entry, entry, IsMeant, told_at}
use Rattle.agent_core.specs.Caches.{who_at}
use Rattle.agent_core.specs.State.{Ask, Event, Plan}
use Rattle.agent_core.specs.State as agent
use Rattle.agent_core.specs.Views.{entry_of, plan_of}
use Rattle.agent_core.specs.declared.event.ShardEntry.{ShardEntry}
use Rattle.agent_core.specs.declared.plan.ShardPlan.{ShardPlan}
use Rattle.agent_core.specs.Steps.{IsAnswer, StepAnswer, Steps, hit, miss, other}
use Rattle.journal_bytes.specs.Events.{ask_there, event_from, kept_for}
use Rattle.journal_bytes.specs.Limits.{FitsEntry}
use Rattle.journal_bytes.specs.Limits as spelling
use Rattle.journal_bytes.specs.Spelled.{SpelledEntry, SpelledEvent, Asks, Keeps, Holds, Discards, Forgets, Expires, Withdraws, event_spelled, spelled}
use Rattle.audit_replay.specs.declared.replayed.ReplayCause.{ReplayCause}
use Rattle.audit_replay.specs.Replays.{ShardCause, Unmeant, mistold, unmeant}
use Rattle.audit_replay.specs.Stepping.{IsStepped, told_in}

-- ---- what is spelled within the limits may be stepped

keeps_fit : (o : Option Cached) (ask e : ℕ) (event : Event) → option_map (λ (c : Cached). agent.Keeps ask e c) o ≡ Some event → FitsEvent event
keeps_fit None ask e event is = absurd cc
keeps_fit (Some c) ask e event is = subst FitsEvent (same_Some (agent.Keeps ask e c) event is) tt

event_fits : (before : List Entry) (x : SpelledEvent) (event : Event) → spelling.FitsEvent x → event_from before x ≡ Some event → FitsEvent event
event_fits before (Asks a) event fits is = subst FitsEvent (same_Some (agent.Asks a) event is) (fits.presented.0, fits.list.0)
event_fits before (Keeps ask e proof cites) event fits is = keeps_fit (kept_for (ask_there (slice_get before ask)) e proof cites) ask e event is
event_fits before (Holds certs) event fits is = subst FitsEvent (same_Some (agent.Holds certs) event is) fits.0
event_fits before (Discards digest) event fits is = subst FitsEvent (same_Some (agent.Discards digest) event is) tt
event_fits before (Forgets channel) event fits is = subst FitsEvent (same_Some (agent.Forgets channel) event is) tt
event_fits before (Expires reading) event fits is = subst FitsEvent (same_Some (agent.Expires reading) event is) tt
event_fits before (Withdraws issuer) event fits is = subst FitsEvent (same_Some (agent.Withdraws issuer) event is) tt

pub entry_fits : (before : List Entry) (e : SpelledEntry) (event : Event) → FitsEntry e → event_from before e.event ≡ Some event → FitsEvent event
entry_fits before e event fits is = event_fits before e.event event fits.event is

-- ---- what is spelled of the event is what was spelled

module _ (ask e : ℕ) (proof : List Line) (cites : List Certificate) (event : Event) where
  kept_spelled : (a : Ask) (who : Option Principal) → option_map (λ (c : Cached). agent.Keeps ask e c) (option_map (λ (w : Principal). record { subject = a.subject; who = w; proof = proof; cites = cites; lease = lease_of cites }) who) ≡ Some event →
      event_spelled event ≡ Keeps ask e proof cites
  kept_spelled a None is = absurd cc
  kept_spelled a (Some w) is =
      let kept : Cached = record { subject = a.subject; who = w; proof = proof; cites = cites; lease = lease_of cites } in
      ap event_spelled (sym (same_Some (agent.Keeps ask e kept) event is))

  keeps_spelled : (o : Option Ask) → option_map (λ (c : Cached). agent.Keeps ask e c) (kept_for o e proof cites) ≡ Some event → event_spelled event ≡ Keeps ask e proof cites
  keeps_spelled None is = absurd cc
  keeps_spelled (Some a) is = kept_spelled a (who_at a.list e) is

pub event_again : (before : List Entry) (x : SpelledEvent) (event : Event) → event_from before x ≡ Some event → event_spelled event ≡ x
event_again before (Asks a) event is = ap event_spelled (sym (same_Some (agent.Asks a) event is))
event_again before (Keeps ask e proof cites) event is = keeps_spelled ask e proof cites event (ask_there (slice_get before ask)) is
event_again before (Holds certs) event is = ap event_spelled (sym (same_Some (agent.Holds certs) event is))
event_again before (Discards digest) event is = ap event_spelled (sym (same_Some (agent.Discards digest) event is))
event_again before (Forgets channel) event is = ap event_spelled (sym (same_Some (agent.Forgets channel) event is))
event_again before (Expires reading) event is = ap event_spelled (sym (same_Some (agent.Expires reading) event is))
event_again before (Withdraws issuer) event is = ap event_spelled (sym (same_Some (agent.Withdraws issuer) event is))

-- ---- an event that is none, or not what it has to be

none_some : (event : Event) → None ≡ Some event → ⊥
none_some event e = absurd cc

module _ (plan : Plan) (before : List Entry) (e : SpelledEntry) (cause : ReplayCause) (room : length before < plan.limit) (why : Unmeant e.event cause) where
  pub unmade : None ≡ event_from before e.event → ShardCause plan before e cause
  unmade none = unmeant room (λ made. none_some made.event (none ∙ made.is)) why

  pub untaken : (event : Event) → FitsEntry e → event_from before e.event ≡ Some event → (IsMeant plan before event × FitsEvent event → ⊥) → ShardCause plan before e cause
  untaken event fits is never =
      unmeant room (λ made. never (subst (λ (x : Event). IsMeant plan before x × FitsEvent x) (same_Some made.event event (sym made.is ∙ is)) (made.meant, entry_fits before e made.event fits made.is))) why

-- ---- the shard's room

pub is_full : (entries : List ShardEntry) (p : ShardPlan) (plan : Plan) (journal : List Entry) → map entry_of entries ≡ journal → plan_of p ≡ plan → p.limit ≤ length entries → plan.limit ≤ length journal
is_full entries p plan journal are is over =
    omega (arith, over, ap (λ (l : List Entry). length l) are, length-map entries entry_of, ap (λ (x : Plan). x.limit) is)

pub has_room : (entries : List ShardEntry) (p : ShardPlan) (plan : Plan) (journal : List Entry) → map entry_of entries ≡ journal → plan_of p ≡ plan → length entries < p.limit → length journal < plan.limit
has_room entries p plan journal are is under =
    omega (arith, under, ap (λ (l : List Entry). length l) are, length-map entries entry_of, ap (λ (x : Plan). x.limit) is)

-- ---- the answer

answer_told : (plan : Plan) (before : List Entry) (event : Event) (told : Told) (handed : StepAnswer) → IsAnswer plan before event told handed → told_in (Handed handed) ≡ Some told
answer_told plan before event told handed (hit judged at found) = refl
answer_told plan before event told handed (miss judged) = refl
answer_told plan before event told handed (other is) = refl

module _ (plan : Plan) (before : List Entry) (event : Event) (later : List Entry) where
  spelled_so : (x : Event) (told : Told) (e : SpelledEntry) → event_spelled x ≡ e.event → told ≡ e.told → spelled (entry x told) ≡ e
  spelled_so x told e events tolds = ap₂ (λ (k : SpelledEvent) (t : Told). record { event = k; told = t }) events tolds

  -- what the shard tells is what it is to tell
  tells : (place : ℕ) (handed : StepAnswer) (s : Steps plan before event later place handed) → s.told ≡ told_at plan before event
  tells place handed s = (s.legal before (entry event s.told) [] s.adds).tells

  moved : (place : ℕ) (handed : StepAnswer) → Steps plan before event later place handed → Steps plan before event later (length before) handed
  moved place handed s = record { told = s.told; adds = s.adds; placed = refl; legal = s.legal; answers = s.answers }

  abbrev Goes : ℕ → Given → Type 0
  Goes place g = OfGiven (Steps plan before event later place) (λ n. (later ≡ before) × (length before ≡ plan.limit) × (n ≡ plan.limit) × (place ≡ plan.limit)) g

  -- the shard tells what was spelled
  pub stepped_so : (place : ℕ) (answer : Answer) (e : SpelledEntry) → Stepped plan before event later place answer → told_in (given_by answer) ≡ Some e.told → event_spelled event ≡ e.event → IsStepped plan before e later answer
  unfolding moved
  stepped_so place answer e stepped same is = by_given (given_by answer) refl stepped same
    where
      by_given : (g : Given) → given_by answer ≡ g → Goes place g → told_in g ≡ Some e.told → IsStepped plan before e later answer
      by_given (Handed handed) given s told =
          let one : s.told ≡ e.told = same_Some s.told e.told (sym (answer_told plan before event s.told handed s.answers) ∙ told) in
          record { event = event; handed = handed; given = given; steps = moved place handed s; is = spelled_so event s.told e is one }
      by_given (Full n) given s told = absurd cc

  -- it tells something else
  pub told_otherwise : (place : ℕ) (answer : Answer) (e : SpelledEntry) → length before < plan.limit → IsMeant plan before event → event_from before e.event ≡ Some event → Stepped plan before event later place answer →
      (told_in (given_by answer) ≢ Some e.told) → ShardCause plan before e ReplayCause.Told
  told_otherwise place answer e room meant is stepped differs =
      mistold room (record { event = event; is = is; meant = meant }) (λ same. differs (told_now (given_by answer) stepped ∙ ap (λ (t : Told). Some t) (sym same)))
    where
      told_now : (g : Given) → Goes place g → told_in g ≡ Some (told_at plan before event)
      told_now (Handed handed) s = answer_told plan before event s.told handed s.answers ∙ ap (λ (t : Told). Some t) (tells place handed s)
      told_now (Full n) s = absurd (omega (arith, room, s.1))
