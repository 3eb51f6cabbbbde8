-- The event that a spelled one is, in view of the entries before it.
use Rattle.std.specs.Prelude.{ℕ, List, Option, Some, None, slice_get}
use Rattle.std.specs.Option.{option_map}
use Rattle.stmt_codec.specs.Certificates.{Certificate}
use Rattle.taos_calculus.specs.Rules.{Line}
use Rattle.proof_cache.specs.Cached.{Cached, lease_of}
use Rattle.agent_core.specs.Caches.{who_at}
use Rattle.agent_core.specs.State.{ask_in, Ask, Event}
use Rattle.agent_core.specs.State as agent
use Rattle.agent_core.specs.Journals.{Entry}
use Rattle.journal_bytes.specs.Spelled.{SpelledEvent, Asks, Keeps, Holds, Discards, Forgets}
use Rattle.journal_bytes.specs.Spelled.{Expires, Withdraws}

-- the Ask of an entry, if there is one and it is one
abbrev pub ask_there : Option Entry → Option Ask
ask_there None = None
ask_there (Some e) = ask_in e.event

-- the proof for this Ask by an entry of its list, which ends when the first of its cites does
abbrev pub kept_for : Option Ask → ℕ → List Line → List Certificate → Option Cached
kept_for None e proof cites = None
kept_for (Some a) e proof cites =
    option_map (λ who. record {
      subject = a.subject;
      who = who;
      proof = proof;
      cites = cites;
      lease = lease_of cites;
    }) (who_at a.list e)

-- the event; a Keep that names no Ask of these entries, or no entry of its list, is none
abbrev pub event_from : List Entry → SpelledEvent → Option Event
event_from before (Asks a) = Some (agent.Asks a)
event_from before (Keeps ask e proof cites) =
    option_map (λ c. agent.Keeps ask e c) (kept_for (ask_there (slice_get before ask)) e proof cites)
event_from before (Holds certs) = Some (agent.Holds certs)
event_from before (Discards digest) = Some (agent.Discards digest)
event_from before (Forgets channel) = Some (agent.Forgets channel)
event_from before (Expires reading) = Some (agent.Expires reading)
event_from before (Withdraws issuer) = Some (agent.Withdraws issuer)
