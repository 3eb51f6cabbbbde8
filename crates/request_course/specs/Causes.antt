-- The cause of each reply, by its status: in the words of what was presented, of what the link answered,
-- and of what stands in the journals at own places.
use Rattle.std.specs.Prelude.{◌≡◌, ◌≢◌, ◌⊎◌, ℕ, ◌+◌, ◌<◌, ◌≤◌, false, List, [], ◌∷◌, length, None, Some, Contains}
use Rattle.denial_link.specs.declared.link.Link.{Link}
use Rattle.keyed_seal.specs.Keys.{key_of}
use Rattle.object_core.specs.Operation.{Hold, Discard, Withdraw}
use Rattle.object_core.specs.Shelving.{fixed_at}
use Rattle.stmt_codec.specs.Certificates.{Certificate}
use Rattle.taos_wire.specs.Request.{Request, Spells, IsAsked, IsSealed}
use Rattle.taos_wire.specs.Reply.{Sent, status_of}
use Rattle.agent_core.specs.declared.limits.TheConstants.{MAX_OWN, MAX_COMMONS, MAX_WITHDRAWN}
use Rattle.agent_core.specs.declared.told.Told.{Told}
use Rattle.agent_core.specs.Held.{is_withdrawn}
use Rattle.agent_core.specs.State.{Plan, Event, Holds, Withdraws, brought, new_commons}
use Rattle.agent_core.specs.Journals.{Granted, Denied, IsVerdict}
use Rattle.request_course.specs.AtObject.{Seeking}
use Rattle.request_course.specs.Cells.{Node, HasPlan, Journals, AreLegal, Place}
use Rattle.request_course.specs.Completeness.{HasStepped, state_met, HasAsked, ask_in, state_asked}
use Rattle.request_course.specs.Course.{Arrival, its_seeking, IsOpened, Used, CourseAfter}
use Rattle.request_course.specs.Credentials.{IsFirstRefused, IsFirstFailed}
use Rattle.request_course.specs.Effects.{IsDone}
use Rattle.request_course.specs.Operations.{effect_of, targets_of}

module _ (n : Node) (J : Journals) (own : List Place) (x : Seeking) where
  -- ---- what the shards did for a granted operation

  -- the effect of the operation stands at an own place of the shard of this number, which was told this
  pub record TookStep (shard : ℕ) (told : Told) : Type 0 where
    pub event : Event
    pub effect_is : effect_of x.request.op x.certs x.reading ≡ Some event
    pub step : HasStepped n J own shard event told

  -- each shard that the operation steps took its step
  abbrev pub AllStepped : Type 0
  AllStepped = (shard : ℕ) → Contains (targets_of n.plans x.request.op) shard → (told : Told) × TookStep shard told

  -- each step did what it was to do
  abbrev pub AllDid : Type 0
  AllDid = (shard : ℕ) (told : Told) → TookStep shard told → IsDone told

  -- some shard let go of certificates
  abbrev pub SomeLetGo : Type 0
  SomeLetGo = (shard count : ℕ) × (0 < count) × TookStep shard (Told.Removed count)

  -- the shards did all of it; the first that had no place, or no room, ended it; or a Discard found the
  -- certificate nowhere
  pub data CausesEnd : ℕ → Type 0 where
    done : AllStepped → AllDid → ((digest : List ℕ) → x.request.op ≡ Discard digest → SomeLetGo) → CausesEnd 0
    no_place : {shard : ℕ} (plan : Plan) → HasPlan n shard plan →
        Contains (targets_of n.plans x.request.op) shard → length (J.shards shard) ≡ plan.limit →
        ((told : Told) → TookStep shard told → ⊥) → AllDid → CausesEnd 10
    commons_full : {shard : ℕ} {told : Told} → x.request.op ≡ Hold →
        (s : HasStepped n J own shard (Holds x.certs) told) →
        MAX_COMMONS < length (state_met n J own s).commons + length (new_commons (state_met n J own s) x.certs) →
        CausesEnd 12
    nowhere_held : (digest : List ℕ) → x.request.op ≡ Discard digest → AllStepped → (SomeLetGo → ⊥) → CausesEnd 13
    issuers_full : {shard issuer : ℕ} {told : Told} → x.request.op ≡ Withdraw issuer →
        (s : HasStepped n J own shard (Withdraws issuer) told) →
        is_withdrawn (state_met n J own s).withdrawn issuer ≡ false →
        MAX_WITHDRAWN ≤ length (state_met n J own s).withdrawn → CausesEnd 14

  -- ---- what came to its object

  -- nothing was asked, since a journal stands at its limit; or by the state that the Ask met its number is
  -- not new, there is no room for what it presents, or it is judged
  pub data CausesRuling : ℕ → Type 0 where
    object_full : own ≡ [] → length (J.objects x.request.object) ≡ x.fixed.limit → CausesRuling 10
    shard_full : (plan : Plan) → HasPlan n x.shard plan → own ≡ [] → length (J.shards x.shard) ≡ plan.limit →
        CausesRuling 10
    number_used : (k : HasAsked n J own x) →
        x.request.seq ≤ (state_asked n J own k).last x.request.channel → CausesRuling 5
    own_full : (k : HasAsked n J own x) → (state_asked n J own k).last x.request.channel < x.request.seq →
        MAX_OWN < length ((state_asked n J own k).own x.request.channel) + length (brought (state_asked n J own k) (ask_in n J own k)) →
        CausesRuling 7
    denied : (why : Link) (k : HasAsked n J own x) →
        IsVerdict k.step.plan k.step.before (ask_in n J own k) (Denied why) → CausesRuling 1
    granted : {status : ℕ} (k : HasAsked n J own x) →
        IsVerdict k.step.plan k.step.before (ask_in n J own k) Granted → CausesEnd status → CausesRuling status

-- ---- the whole

module _ (n : Node) (J : Journals) (payload : List ℕ) (used : Used) where
  -- The cause of each status but that of memory that was refused: the payload is no request, or its channel
  -- has no key, or another than the one of its seal; a certificate is refused, or the link failed for one;
  -- there is no such object; or what it caused there.
  pub data HasCauseOf : ℕ → Type 0 where
    malformed : ((r : Request) → Spells r payload → ⊥) → HasCauseOf 2
    unknown_channel : (r : Request) → Spells r payload → key_of n.channels r.channel ≡ None → HasCauseOf 3
    bad_seal : (r : Request) (key : List ℕ) → Spells r payload → key_of n.channels r.channel ≡ Some key →
        (IsSealed key payload → ⊥) → HasCauseOf 4
    cert_refused : {r : Request} {key : List ℕ} {index code : ℕ} → IsAsked n.channels payload r key →
        IsFirstRefused n.relay_key r.certs used.calls index code → HasCauseOf 6
    relay_failed : {r : Request} {key : List ℕ} {index : ℕ} → IsAsked n.channels payload r key →
        IsFirstFailed n.relay_key r.certs used.calls index → HasCauseOf 8
    unknown_object : {r : Request} {key : List ℕ} {certs : List Certificate} →
        IsOpened n payload r key used.calls certs → fixed_at n.objects r.object ≡ None → HasCauseOf 9
    ruled : {status : ℕ} (t : Arrival n payload) (reading : ℕ) → used.calls ≡ t.calls → used.readings ≡ reading ∷ [] →
        CausesRuling n J used.places (its_seeking n t reading) status → HasCauseOf status

-- A reply has the cause of its status, and where a cause stands the reply has its status; but for memory
-- that was refused.
abbrev pub CausesAreExact : Node → Type 0
CausesAreExact n =
    (past J : Journals) (payload : List ℕ) (used : Used) (sent : Sent) → AreLegal n J →
    CourseAfter n past J payload used sent →
    (status_of sent.reply ≢ 11 → HasCauseOf n J payload used (status_of sent.reply)) ×
    ((status : ℕ) → HasCauseOf n J payload used status →
    (status_of sent.reply ≡ status) ⊎ (status_of sent.reply ≡ 11))
