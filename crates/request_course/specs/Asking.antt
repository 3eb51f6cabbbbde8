-- The ask that a request makes at the shard of its channel, what a denial tells of it, and what comes
-- of one that has no ruling.
use Rattle.std.specs.Prelude.{◌≡◌, ℕ, Bool, List, [], ◌∷◌, length, Some, slice_get}
use Rattle.object_core.specs.Operation.{right_of}
use Rattle.prin_term.specs.Principal.{Principal, subterms}
use Rattle.prin_term.specs.View.{Grant}
use Rattle.proof_cache.specs.Cached.{Cached}
use Rattle.stmt_codec.specs.Certificates.{Certificate}
use Rattle.taos_wire.specs.Request.{Request, subject_of}
use Rattle.taos_wire.specs.Reply as replies
use Rattle.taos_wire.specs.Reply.{Reply, LinkSent}
use Rattle.agent_core.specs.declared.told.Told.{Told}
use Rattle.agent_core.specs.declared.asked.Denial.{Denial}
use Rattle.agent_core.specs.declared.asked.Denial.TheVariants as denials
use Rattle.agent_core.specs.declared.asked.Settled.{Settled}
use Rattle.agent_core.specs.State.{Plan, Ask}
use Rattle.agent_core.specs.Journals.{Entry}
use Rattle.agent_core.specs.Asked.{FoundRoom, IsGrant, IsTold, Unanswered}

-- the ask that a request makes, of the certificates that it presents, the access list of its object
-- and a reading of the clock
abbrev pub ask_of : Request → List Certificate → List Grant → ℕ → Ask
ask_of r certs list reading = record {
  channel = r.channel;
  seq = r.seq;
  reading = reading;
  subject = subject_of r;
  list = list;
  right = right_of r.op;
  presented = certs;
}

-- what a denial tells: a part of an entry by itself
abbrev pub TellsDenial : List Grant → Denial → LinkSent → Type 0
TellsDenial list (denials.Expired entry digest) told = told ≡ replies.Expired entry digest
TellsDenial list (denials.Early entry digest) told = told ≡ replies.Early entry digest
TellsDenial list (denials.Missing entry node) told =
    (g : Grant) × (part : Principal) × (slice_get list entry ≡ Some g)
    × (slice_get (subterms g.who) node ≡ Some part) × (told ≡ replies.Missing entry part)
TellsDenial list denials.NoEntry told = told ≡ replies.NoEntry

-- a journal of a shard that stands at its limit
abbrev pub shard_full : ℕ → ℕ → Reply
shard_full shard limit = replies.JournalFull 1 shard limit

-- What comes of an ask that has no ruling, at the shard of this number: the own places there, and
-- the reply. Once the Ask stands, a node that is out of memory says so only of a grant.
pub data IsUnruled (plan : Plan) (journal : List Entry) (shard : ℕ) (a : Ask) :
    List ℕ → Reply → Type 0 where
  full : length journal ≡ plan.limit →
      IsUnruled plan journal shard a [] (shard_full shard plan.limit)
  replayed : {place last : ℕ} →
      IsTold plan journal a place (Told.Replayed last) →
      IsUnruled plan journal shard a (place ∷ []) (replies.Replayed last)
  channel_full : {place held : ℕ} →
      IsTold plan journal a place (Told.Full held) →
      IsUnruled plan journal shard a (place ∷ []) (replies.ChannelFull held)
  -- it is granted, and memory was refused for the reply
  untold : {place entry : ℕ} {c : Cached} {kept : Bool} {settled : Settled} {own : List ℕ} →
      IsGrant plan journal a place entry c kept settled own →
      IsUnruled plan journal shard a own replies.NoMemory
  unanswered : {own : List ℕ} →
      Unanswered plan journal a own →
      IsUnruled plan journal shard a own replies.NoMemory

-- Where the reply tells that memory is lacking, and there is no own place, the journal was not found
-- full: what is seen of it is what was seen before, or has room.
abbrev pub TellsFull : {P : Type 0} → Plan → (past journal : List Entry) → List P → Reply → Type 0
TellsFull plan past journal own reply =
    reply ≡ replies.NoMemory → own ≡ [] → FoundRoom plan past journal
