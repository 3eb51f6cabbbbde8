-- What the bytes of journals say: of a proof that is to be kept neither whose it is nor when its
-- lease ends, which follow from the Ask that it names and from what it cites.
use Rattle.std.specs.Prelude.{ℕ, List, map}
use Rattle.stmt_codec.specs.Certificates.{Certificate}
use Rattle.taos_calculus.specs.Rules.{Line}
use Rattle.object_core.specs.Objects.{ObjectEntry, ObjectSeen}
use Rattle.agent_core.specs.declared.told.Told.{Told}
use Rattle.agent_core.specs.State.{Ask, Event}
use Rattle.agent_core.specs.State as agent
use Rattle.agent_core.specs.Journals.{Entry, ShardSeen}

-- what is spelled of an event
pub data SpelledEvent : Type 0 where
  -- an Ask
  Asks : Ask → SpelledEvent
  -- a proof is to be kept that was made for the Ask at this place, and grants it by this entry
  Keeps : (ask entry : ℕ) → List Line → (cites : List Certificate) → SpelledEvent
  -- these certificates are to be held in common
  Holds : List Certificate → SpelledEvent
  -- the certificates of this digest are let go
  Discards : (digest : List ℕ) → SpelledEvent
  -- the channel's own certificates are let go
  Forgets : (channel : ℕ) → SpelledEvent
  -- the clock read this
  Expires : (reading : ℕ) → SpelledEvent
  -- the issuer's certificates are let go, and none of them is held from then on
  Withdraws : (issuer : ℕ) → SpelledEvent

-- what is spelled of an entry of a shard's journal
pub record SpelledEntry : Type 0 where
  pub event : SpelledEvent
  pub told : Told

-- the journal of an object, by the object's number
pub record ObjectJournal : Type 0 where
  pub number : ℕ
  pub entries : List ObjectEntry

-- the journals of a node: those of its shards in order, then those of its objects
pub record Journals : Type 0 where
  pub shards : List (List SpelledEntry)
  pub objects : List ObjectJournal

-- ---- what is spelled of a shard and of an object

-- what is spelled of an event
abbrev pub event_spelled : Event → SpelledEvent
event_spelled (agent.Asks a) = Asks a
event_spelled (agent.Keeps ask entry c) = Keeps ask entry c.proof c.cites
event_spelled (agent.Holds certs) = Holds certs
event_spelled (agent.Discards digest) = Discards digest
event_spelled (agent.Forgets channel) = Forgets channel
event_spelled (agent.Expires reading) = Expires reading
event_spelled (agent.Withdraws issuer) = Withdraws issuer

-- what is spelled of an entry
abbrev pub spelled : Entry → SpelledEntry
spelled e = record { event = event_spelled e.event; told = e.told }

-- what is spelled of a shard
abbrev pub shard_spelled : ShardSeen → List SpelledEntry
shard_spelled s = map spelled s.journal

-- the journal of the object of this number
abbrev pub numbered : ℕ → List ObjectEntry → ObjectJournal
numbered number entries = record { number = number; entries = entries }

-- what is spelled of an object
abbrev pub object_spelled : ObjectSeen → ObjectJournal
object_spelled o = numbered o.plan.number o.journal

-- what is spelled of these shards and objects
abbrev pub journals_of : List ShardSeen → List ObjectSeen → Journals
journals_of shards objects =
    record { shards = map shard_spelled shards; objects = map object_spelled objects }
