-- What is promised of a ruling: of the ask that a request makes, of the reply that is left, and of
-- what is done at the object and in the shards.
use Rattle.std.specs.Prelude.{◌≡◌, ◌≢◌, ◌⊎◌, ℕ, ◌<◌, ◌≤◌, ◌^◌, Bool, List, [], ◌∷◌, length, map, Option, None, Some, slice_get}
use Rattle.std.specs.Arc.{arc_value}
use Rattle.object_core.specs.Objects.{ObjectEntry, ObjectSeen, content_after, list_after}
use Rattle.object_core.specs.Operation.{IsDigest}
use Rattle.object_core.specs.Shelving.{ObjectFixed, ShelfSeen, fixed_at, fixed_of}
use Rattle.object_core.specs.declared.ruling.Ruling.{Ruling}
use Rattle.object_core.specs.declared.ruling.Ruling.TheVariants as rulings
use Rattle.byte_fields.specs.Steps.{IsByte}
use Rattle.prin_term.specs.Principal.{Principal, subterms}
use Rattle.prin_term.specs.View.{Grant, principal}
use Rattle.proof_cache.specs.Cached.{Cached, cached}
use Rattle.proof_cache.specs.declared.cached.Cached.{Cached as CachedValue}
use Rattle.taos_wire.specs.Request.{Request}
use Rattle.taos_wire.specs.Reply as replies
use Rattle.taos_wire.specs.Reply.{Reply, LinkSent, sent, spelling}
use Rattle.taos_wire.specs.View.{request, cited as shared}
use Rattle.taos_wire.specs.declared.reply.TheConstants.{MAX_CITED}
use Rattle.agent_core.specs.declared.asked.Asked.{Asked}
use Rattle.agent_core.specs.declared.asked.Denial.{Denial}
use Rattle.agent_core.specs.declared.asked.Denial.TheVariants as denials
use Rattle.agent_core.specs.declared.asked.Settled.{Settled}
use Rattle.agent_core.specs.declared.asked.Verdict.{Verdict}
use Rattle.agent_core.specs.declared.asked.Verdict.TheVariants as verdict
use Rattle.agent_core.specs.State.{Plan, Ask}
use Rattle.agent_core.specs.Journals.{Entry, ShardSeen}
use Rattle.agent_core.specs.Asked.{AskEnds, IsGrant, IsDeniedAt, LacksMemory}
use Rattle.agent_core.specs.Shards.{HasPlanAt, ShardsSeen, home_of}
use Rattle.taos_monitor.specs.declared.arrival.Arrived.{Arrived}
use Rattle.taos_monitor.specs.declared.deciding.Came.{Came}
use Rattle.taos_monitor.specs.declared.deciding.Ruled.{Ruled}
use Rattle.request_course.specs.Cells.{Cell, CellsSeen, Seen, GoesOn, ShardsGoOn, AreLegalIn, AreLegalShards, alone_of, in_shard, seen_by, shards_in}
use Rattle.request_course.specs.Asking.{TellsDenial, IsUnruled, TellsFull, shard_full}
use Rattle.request_course.specs.Operations.{result_of}
use Rattle.request_course.specs.AtObject.{Seeking, Own, places_at, asks_for, gives_for, object_full, IsGuardedAfter}

-- ---- the ask

-- the ask that stands for a request that came to its object, of this access list
abbrev pub ask_seen : Request → Arrived → List Grant → ℕ → Ask
ask_seen r a list reading = record {
  channel = r.channel;
  seq = r.seq;
  reading = reading;
  subject = principal a.subject;
  list = list;
  right = a.right;
  presented = map shared a.certs.items;
}

-- the ask of what came to its object and to the clock
abbrev pub ask_came : Came → List Grant → Ask
ask_came c list = ask_seen (request c.asked.now) c.arrived list c.reading

-- the access list of an object
abbrev pub list_of : ObjectSeen → List Grant
list_of o = list_after o.plan o.journal

-- what a denial names is there, and may be told
abbrev pub HasPart : List Grant → Denial → Type 0
HasPart list (denials.Missing entry node) =
    (g : Grant) × (part : Principal) × (slice_get list entry ≡ Some g)
    × (slice_get (subterms g.who) node ≡ Some part)
HasPart list (denials.Expired entry digest) = IsByte entry × IsDigest digest
HasPart list (denials.Early entry digest) = IsByte entry × IsDigest digest
HasPart list denials.NoEntry = Unit {0}

-- what a verdict names is there, and may be told
abbrev pub MayTell : List Grant → Verdict → Type 0
MayTell list (verdict.Granted e c) =
    length (cached (arc_value {X = CachedValue} c)).cites ≤ MAX_CITED
MayTell list (verdict.Denied denial) = HasPart list denial
MayTell list _ = Unit {0}

-- ---- the reply

-- the ruling of an ask at this shard and place
abbrev pub ruled_at : ℕ → ℕ → Ruling → Ruled
ruled_at shard place ruling = record { shard = shard; place = place; ruling = ruling }

-- the reply tells that there is no ruling
abbrev pub IsRefusal : Reply → Option Ruled → Reply → Type 0
IsRefusal refused ruled reply = (ruled ≡ None) × (reply ≡ refused)

-- what the reply to an ask comes from, beside its verdict
pub record Telling : Type 0 where
  -- what the operation gives
  pub result : List ℕ
  -- the access list of the object
  pub list : List Grant
  pub shard : ℕ
  pub place : ℕ
  -- whether the proof of a grant was kept before
  pub kept : Bool

-- what is told of a request for an object, by an ask at this shard and place
abbrev pub telling : Request → ObjectSeen → ℕ → ℕ → Bool → Telling
telling r o shard place kept = record {
  result = result_of r.op (content_after o.plan o.journal);
  list = list_of o;
  shard = shard;
  place = place;
  kept = kept;
}

-- the reply is the grant, and the ruling is this; or it tells that memory is lacking, and there is no
-- ruling
abbrev pub TellsGrant : Reply → Ruled → Option Ruled → Reply → Type 0
TellsGrant grant ruling ruled reply =
    ((ruled ≡ Some ruling) × (reply ≡ grant)) ⊎ IsRefusal replies.NoMemory ruled reply

-- the reply tells the denial
abbrev pub TellsDenied : List Grant → ℕ → ℕ → Denial → Reply → Type 0
TellsDenied list shard place denial reply =
    (told : LinkSent) × TellsDenial list denial told × (reply ≡ replies.Denied shard place told)

-- the reply tells the verdict, and there is a ruling where it is a grant or a denial
abbrev pub IsToldBy : Telling → Verdict → Option Ruled → Reply → Type 0
IsToldBy t (verdict.Granted e c) ruled reply =
    TellsGrant (replies.Granted t.kept e t.shard t.place
    (cached (arc_value {X = CachedValue} c)).proof (cached (arc_value {X = CachedValue} c)).cites
    t.result) (ruled_at t.shard t.place (rulings.Granted e)) ruled reply
IsToldBy t (verdict.Denied denial) ruled reply =
    (ruled ≡ Some (ruled_at t.shard t.place rulings.Denied))
    × TellsDenied t.list t.shard t.place denial reply
IsToldBy t (verdict.Replayed last) ruled reply = IsRefusal (replies.Replayed last) ruled reply
IsToldBy t (verdict.Full held) ruled reply = IsRefusal (replies.ChannelFull held) ruled reply
IsToldBy t (verdict.JournalFull n) ruled reply = IsRefusal (shard_full t.shard n) ruled reply

-- the bytes of a reply of which this holds, under the key if there is one
pub record Leaves (channel seq : ℕ) (key : Option (List ℕ)) (bytes : List ℕ)
    (Holds : Reply → Type 0) : Type 0 where
  pub reply : Reply
  pub holds : Holds reply
  pub spelled : bytes ≡ spelling (sent key channel seq reply)
  pub short : length bytes < 2 ^ 26

-- the bytes of such a reply before it is sealed
abbrev pub Drafts : ℕ → ℕ → List ℕ → (Reply → Type 0) → Type 0
Drafts channel seq bytes Holds = Leaves channel seq None bytes Holds

-- ---- what came of the ask

-- the ask was made at the shard, and this holds of how it ended in its journal, with these own
-- places
pub record AskedAt (before after : ShardsSeen) (shard : ℕ)
    (Ends : Plan → List Entry → List ℕ → Type 0) : Type 0 where
  pub plan : Plan
  pub planned : HasPlanAt before shard plan
  pub own : List ℕ
  pub goes_on : ShardsGoOn before.alone (shards_in before) (shards_in after)
      (map (in_shard shard) own)
  pub others : (n : ℕ) → n ≢ shard → after.seen n ≡ before.seen n
  pub legal : AreLegalShards before.plans after.seen
  pub ends : Ends plan (after.seen shard) own

-- the ask of what came, of this access list, was made at the shard of its channel, and ended so
abbrev pub EndsAsked : (before after : ShardsSeen) → Came → List Grant → Asked → Type 0
EndsAsked before after c list asked =
    AskedAt before after (home_of before c.asked.now.channel) (λ plan journal own.
    AskEnds plan journal (ask_came c list) asked own)

-- it was made there, and memory was refused
abbrev pub LacksAsked : (before after : ShardsSeen) → Came → List Grant → Type 0
LacksAsked before after c list =
    AskedAt before after (home_of before c.asked.now.channel) (λ plan journal own.
    LacksMemory plan (before.seen (home_of before c.asked.now.channel)) journal
    (ask_came c list) own)

-- what is sought of an object by what came to it and to the clock
abbrev pub seeking_of : Came → ObjectFixed → Seeking
seeking_of c fixed = record {
  request = request c.asked.now;
  certs = map shared c.arrived.certs.items;
  reading = c.reading;
  shard = c.shard;
  fixed = fixed;
}

-- What is ruled on what is sought, where the object has these entries, by the journal of the shard
-- that is asked: the own places there, and the reply.
pub data IsRuled (s : ShardSeen) (x : Seeking) (before : List ObjectEntry) :
    Option Ruled → List ℕ → Reply → Type 0 where
  at_limit : length before ≡ x.fixed.limit →
      IsRuled s x before None [] (object_full x.request.object x.fixed.limit)
  unruled : {own : List ℕ} {reply : Reply} → length before < x.fixed.limit →
      IsUnruled s.plan s.journal x.shard (asks_for x before) own reply →
      IsRuled s x before None own reply
  denied : {place : ℕ} {denial : Denial} {told : LinkSent} →
      IsDeniedAt s.plan s.journal (asks_for x before) place denial →
      TellsDenial (list_after x.fixed.plan before) denial told →
      IsRuled s x before (Some (ruled_at x.shard place rulings.Denied)) (place ∷ [])
      (replies.Denied x.shard place told)
  granted : {place entry : ℕ} {c : Cached} {kept : Bool} {settled : Settled} {own : List ℕ} →
      IsGrant s.plan s.journal (asks_for x before) place entry c kept settled own →
      IsRuled s x before (Some (ruled_at x.shard place (rulings.Granted entry))) own
      (replies.Granted kept entry x.shard place c.proof c.cites (gives_for x before))

-- a shard of this plan and journal
abbrev pub shard_of : Plan → List Entry → ShardSeen
shard_of plan journal = record { plan = plan; journal = journal }

-- the ask was made for the object as it was taken, unless that was full, and this was ruled
abbrev pub DecidedTo : (before after : ShardsSeen) → Came × ObjectSeen × Option Ruled → Reply →
    Type 0
DecidedTo before after (c, o, ruled) reply =
    AskedAt before after c.shard (λ plan journal own.
    IsRuled (shard_of plan journal) (seeking_of c (fixed_of o)) o.journal ruled own reply
    × TellsFull plan (before.seen c.shard) journal own reply)

-- ---- the whole

-- what stays while a request is ruled on: what the cells are opened with, and which of them nobody
-- else steps
pub record Standing : Type 0 where
  pub plans : List Plan
  pub objects : List ObjectFixed
  pub alone : Cell → Bool

-- what stays, of these
abbrev pub standing_of : List Plan → List ObjectFixed → (Cell → Bool) → Standing
standing_of plans objects alone =
    record { plans = plans; objects = objects; alone = alone }

-- what stays, as it is shown
abbrev pub standing_by : ShardsSeen → ShelfSeen → Standing
standing_by s h = standing_of s.plans h.objects (alone_of s.alone h.alone)

-- the object was taken and given back, and what came of that is the reply
pub record GuardedTo (s : Standing) (old new : Seen) (x : Seeking) (reply : Reply) :
    Type 0 where
  pub plan : Plan
  pub planned : slice_get s.plans x.shard ≡ Some plan
  pub own : Own
  pub goes_on : GoesOn s.alone old new (places_at x own)
  pub legal : AreLegalIn s.plans s.objects new.journals
  pub tells_full : (shard : ℕ) (p : Plan) → slice_get s.plans shard ≡ Some p →
      TellsFull p (old.journals.shards shard) (new.journals.shards shard) own.asks reply
  pub guarded : IsGuardedAfter s.plans plan (old.journals, new.journals) x own reply

-- what came was ruled on so, at the object that it is for, and its reply is drafted
abbrev pub Rules : (before after : CellsSeen) → Came → List ℕ → Type 0
Rules before after c bytes =
    (fixed : ObjectFixed) → fixed_at before.shelf.objects c.asked.now.object ≡ Some fixed →
    Drafts c.asked.now.channel c.asked.now.seq bytes
    (GuardedTo (standing_by before.shards before.shelf) (seen_by before.shards before.shelf)
    (seen_by after.shards after.shelf) (seeking_of c fixed))
