-- What comes of a request at its object: it is taken, asked for, ruled on and given back; what was
-- granted is performed.
use Rattle.std.specs.Prelude.{◌≡◌, ◌≢◌, ◌⊎◌, ℕ, ◌<◌, Bool, List, [], ◌∷◌, ◌++◌, length, map, Option, None, Some, All}
use Rattle.object_core.specs.Objects.{ObjectEntry, content_after, list_after}
use Rattle.object_core.specs.Operation.{Op}
use Rattle.object_core.specs.Shelving.{ObjectFixed}
use Rattle.object_core.specs.declared.ruling.Ruling.{Ruling}
use Rattle.object_core.specs.declared.ruling.Ruling.TheVariants as rulings
use Rattle.proof_cache.specs.Cached.{Cached}
use Rattle.stmt_codec.specs.Certificates.{Certificate}
use Rattle.taos_wire.specs.Request.{Request}
use Rattle.taos_wire.specs.Reply as replies
use Rattle.taos_wire.specs.Reply.{Reply, LinkSent}
use Rattle.agent_core.specs.declared.asked.Denial.{Denial}
use Rattle.agent_core.specs.declared.asked.Settled.{Settled}
use Rattle.agent_core.specs.declared.asked.Settled.TheVariants as settled
use Rattle.agent_core.specs.State.{Plan, Ask}
use Rattle.agent_core.specs.Journals.{Begins, Stands}
use Rattle.agent_core.specs.Asked.{IsGrant, IsDeniedAt}
use Rattle.request_course.specs.Cells.{Journals, no_entries, Place, in_shard, in_object}
use Rattle.request_course.specs.Asking.{TellsDenial, ask_of, IsUnruled}
use Rattle.request_course.specs.Operations.{effect_of, result_of}
use Rattle.request_course.specs.Effects.{ShardStep, its_place, IsPerformed}

-- a journal of an object that stands at its limit
abbrev pub object_full : ℕ → ℕ → Reply
object_full number limit = replies.JournalFull 0 number limit

-- the entry of an operation with its ruling, by the Ask at this shard and place
abbrev pub ruled_as : ℕ → ℕ → Op → Ruling → ObjectEntry
ruled_as shard place op ruling =
    record { shard = shard; place = place; op = op; ruling = ruling }

-- what is sought of an object: by which request and certificates, at which reading of the clock, by
-- asking at which shard, and what never changes of the object
pub record Seeking : Type 0 where
  pub request : Request
  pub certs : List Certificate
  pub reading : ℕ
  pub shard : ℕ
  pub fixed : ObjectFixed

-- the ask that is made, where the object has these entries: by its access list after them
abbrev pub asks_for : Seeking → List ObjectEntry → Ask
asks_for x before = ask_of x.request x.certs (list_after x.fixed.plan before) x.reading

-- what it gives, where the object has these entries
abbrev pub gives_for : Seeking → List ObjectEntry → List ℕ
gives_for x before = result_of x.request.op (content_after x.fixed.plan before)

-- ---- own places

-- the own places of a request: those of its ask, that of its ruling, and its steps in the shards
pub record Own : Type 0 where
  pub asks : List ℕ
  pub ruling : List ℕ
  pub steps : List ShardStep

-- these places
abbrev pub own_at : List ℕ → List ℕ → List ShardStep → Own
own_at asks ruling steps = record { asks = asks; ruling = ruling; steps = steps }

-- all of them in their order: at the shard that is asked, at the object, and in the shards
abbrev pub places_at : Seeking → Own → List Place
places_at x own =
    map (in_shard x.shard) own.asks ++ map (in_object x.request.object) own.ruling
    ++ map its_place own.steps

-- ---- the whole

-- the reply of what was performed, else this
abbrev pub told_or : Option Reply → Reply → Reply
told_or None reply = reply
told_or (Some refused) reply = refused

-- the object was looked at: the Ask stands at these places, or the reply tells something else than
-- that memory is lacking
abbrev pub HasLooked : List ℕ → Reply → Type 0
HasLooked own reply = (own ≢ []) ⊎ (reply ≢ replies.NoMemory)

-- The object was asked for with these entries, and there is no ruling. They begin with those that
-- were seen before, and there is room for one more; but a node that is out of memory may say so before
-- it looks at the object.
pub record IsAskedWith (past journal before : List ObjectEntry) (limit : ℕ) (own : List ℕ)
    (reply : Reply) : Type 0 where
  pub begins : Begins before journal
  pub after : HasLooked own reply → Begins past before
  pub room : HasLooked own reply → length before < limit

-- a shard that had no room for the proof of a grant has none for a step
abbrev pub LeavesOut : Settled → ℕ → List ShardStep → Type 0
LeavesOut (settled.NoRoom limit) shard steps = All (λ (s : ShardStep). s.shard ≢ shard) steps
LeavesOut _ shard steps = Unit {0}

-- What comes of it, after what was seen before: the own places and the reply. The object's entry
-- stands in its journal right after those by which the object was asked for. What is performed in the
-- shards stands in journals of its own: no clause says which of two journals had its entry first. The
-- journals are those that were seen before, and these.
pub data IsGuardedAfter (plans : List Plan) (plan : Plan) (seen : Journals × Journals)
    (x : Seeking) : Own → Reply → Type 0 where
  object_is_full : length (seen.1.objects x.request.object) ≡ x.fixed.limit →
      IsGuardedAfter plans plan seen x (own_at [] [] [])
      (object_full x.request.object x.fixed.limit)
  no_ruling : {own : List ℕ} {reply : Reply} (before : List ObjectEntry) →
      IsAskedWith (seen.0.objects x.request.object) (seen.1.objects x.request.object) before
      x.fixed.limit own reply →
      IsUnruled plan (seen.1.shards x.shard) x.shard (asks_for x before) own reply →
      IsGuardedAfter plans plan seen x (own_at own [] []) reply
  denied : {place at : ℕ} {denial : Denial} {told : LinkSent} (before : List ObjectEntry) →
      Stands (seen.1.objects x.request.object) at before
      (ruled_as x.shard place x.request.op rulings.Denied) →
      IsDeniedAt plan (seen.1.shards x.shard) (asks_for x before) place denial →
      TellsDenial (list_after x.fixed.plan before) denial told →
      IsGuardedAfter plans plan seen x (own_at (place ∷ []) (at ∷ []) [])
      (replies.Denied x.shard place told)
  granted : {place at entry : ℕ} {c : Cached} {kept : Bool} {settled : Settled}
      {asks : List ℕ} {steps : List ShardStep} {refused : Option Reply}
      (before : List ObjectEntry) →
      Stands (seen.1.objects x.request.object) at before
      (ruled_as x.shard place x.request.op (rulings.Granted entry)) →
      IsGrant plan (seen.1.shards x.shard) (asks_for x before) place entry c kept settled asks →
      IsPerformed plans seen.1.shards x.request.op (effect_of x.request.op x.certs x.reading)
      steps refused →
      LeavesOut settled x.shard steps →
      IsGuardedAfter plans plan seen x (own_at asks (at ∷ []) steps)
      (told_or refused (replies.Granted kept entry x.shard place c.proof c.cites
      (gives_for x before)))

-- the same, whatever was seen before
abbrev pub IsGuarded : List Plan → Plan → Journals → Seeking → Own → Reply → Type 0
IsGuarded plans plan J x own reply = IsGuardedAfter plans plan (no_entries, J) x own reply
