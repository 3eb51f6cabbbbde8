-- The journal of a shard: what its entries make of the state and of the kept proofs, and which entry
-- may come next.
use Rattle.std.specs.Prelude.{◌≡◌, ℕ, ◌+◌, ◌<◌, ◌≤◌, List, [], ◌∷◌, ◌++◌, length, take, Some, slice_get, All, AllPairs, Contains, ◌≢◌}
use Rattle.prin_term.specs.Principal.{Principal}
use Rattle.stmt_codec.specs.Certificates.{Certificate, live}
use Rattle.taos_calculus.specs.Monitor.{Grants}
use Rattle.taos_calculus.specs.Rules.{Proves, SpeaksFor}
use Rattle.denial_link.specs.declared.link.Link.{Link}
use Rattle.denial_link.specs.Revived.{claims}
use Rattle.denial_link.specs.Links.{IsFirstLink}
use Rattle.proof_cache.specs.Cached.{Cached, lease_of}
use Rattle.agent_core.specs.declared.told.Told.{Told}
use Rattle.agent_core.specs.Held.{channel_of}
use Rattle.agent_core.specs.State.{Plan, State, Ask, Event, Asks, Keeps, Answer, Judged, Plain, opened, next}
use Rattle.agent_core.specs.Caches.{unlapsed, first_hit, hit_or_miss, who_at, cache_next}

-- an event, and what was told of it
pub record Entry : Type 0 where
  pub event : Event
  pub told : Told

-- the entry of an event and of what was told of it
abbrev pub entry : Event → Told → Entry
entry event told = record { event = event; told = told }

-- the entry stands at the place, after those before
pub record Stands {E : Type 0} (journal : List E) (place : ℕ) (before : List E)
    (e : E) : Type 0 where
  pub rest : List E
  pub is : journal ≡ before ++ e ∷ rest
  pub placed : length before ≡ place

-- the journal begins with this front
pub record Begins {E : Type 0} (front journal : List E) : Type 0 where
  pub rest : List E
  pub is : journal ≡ front ++ rest

-- a shard as contracts see it, and nothing else
pub record ShardSeen : Type 0 where
  pub plan : Plan
  pub journal : List Entry

-- ---- what the entries make of the state

-- the state that these entries make of a state
abbrev pub state_from : Plan → State → List Entry → State
state_from plan s [] = s
state_from plan s (e ∷ es) = state_from plan (next plan s e.event).0 es

-- the plain state after these entries, from the opened shard on
abbrev pub state_after : Plan → List Entry → State
state_after plan journal = state_from plan (opened plan) journal

-- the moment of the entry at this place: where the clock stands after it
abbrev pub moment_at : Plan → List Entry → ℕ → ℕ
moment_at plan journal place = (state_after plan (take (place + 1) journal)).clock

-- the kept proofs that these entries make of some, from a state on
abbrev pub cache_from : Plan → State → List Cached → List Entry → List Cached
cache_from plan s cache [] = cache
cache_from plan s cache (e ∷ es) =
    cache_from plan (next plan s e.event).0
    (cache_next (next plan s e.event).0.clock e.event e.told cache) es

-- the kept proofs after these entries, the most recently used first; at opening there is none
abbrev pub cache_after : Plan → List Entry → List Cached
cache_after plan journal = cache_from plan (opened plan) [] journal

-- ---- what is told

-- what is told by an answer to an event, where these proofs are kept: of an Ask that is to be judged
-- whether one of them serves it
abbrev pub told_of : List Cached → Event → Answer → Told
told_of cache event (Plain told) = told
told_of cache (Asks a) (Judged moment certs) = hit_or_miss (first_hit (unlapsed moment cache) a)
told_of cache _ (Judged moment certs) = Told.Miss

-- what is told of an event after these entries
abbrev pub told_at : Plan → List Entry → Event → Told
told_at plan before event =
    told_of (cache_after plan before) event (next plan (state_after plan before) event).1

-- ---- legal journals

-- the subject speaks on the channel
abbrev pub IsOn : ℕ → Principal → Type 0
IsOn channel subject = channel_of subject ≡ Some channel

-- a proof for an Ask of these entries: its subject speaks for the entry of the Ask's list
pub record IsKeepable (plan : Plan) (before : List Entry) (ask e : ℕ) (c : Cached) : Type 0 where
  pub asked : Ask
  -- what was told of the Ask
  pub told : Told
  pub stands : slice_get before ask ≡ Some (entry (Asks asked) told)
  pub subject_is : c.subject ≡ asked.subject
  pub who_is : who_at asked.list e ≡ Some c.who
  pub proves : Proves plan.anchors (claims c.cites) c.proof (SpeaksFor c.subject c.who)
  pub lease_is : c.lease ≡ lease_of c.cites
  -- it cites nothing twice
  pub apart : AllPairs (λ x y. x ≢ y) c.cites
  -- each cite had begun at the moment of that Ask
  pub begun : All (λ x. x.from ≤ moment_at plan before ask) c.cites

-- what an event after these entries has to be, whoever brings it: an Ask is on a channel of the
-- plan, and its subject speaks on it; what is to be kept is a proof for an Ask
abbrev pub IsMeant : Plan → List Entry → Event → Type 0
IsMeant plan before (Asks a) = IsOn a.channel a.subject × Contains plan.channels a.channel
IsMeant plan before (Keeps ask e c) = IsKeepable plan before ask e c
IsMeant plan before _ = Unit {0}

-- the entry may follow these
pub record MayFollow (plan : Plan) (before : List Entry) (e : Entry) : Type 0 where
  -- the journal is not full
  pub room : length before < plan.limit
  pub meant : IsMeant plan before e.event
  -- what is told is what the state and the kept proofs tell of the event
  pub tells : e.told ≡ told_at plan before e.event

-- each entry may follow those before it
abbrev pub IsLegalJournal : Plan → List Entry → Type 0
IsLegalJournal plan journal =
    (before : List Entry) (e : Entry) (rest : List Entry) → journal ≡ before ++ e ∷ rest →
    MayFollow plan before e

-- ---- verdicts, which look at no kept proof

-- an Ask after these entries is judged at this moment by these certificates
abbrev pub IsJudged : Plan → List Entry → Ask → ℕ → List Certificate → Type 0
IsJudged plan before a moment certs =
    (next plan (state_after plan before) (Asks a)).1 ≡ Judged moment certs

-- what an Ask comes to; a denial names the first link that is missing, has expired or is early
pub data Verdict : Type 0 where
  Granted : Verdict
  Denied : Link → Verdict

-- the verdict on an Ask after these entries
pub data IsVerdict (plan : Plan) (before : List Entry) (a : Ask) : Verdict → Type 0 where
  granted : {moment : ℕ} {certs : List Certificate} → IsJudged plan before a moment certs →
      Grants plan.anchors (claims (live certs moment)) a.subject a.list a.right →
      IsVerdict plan before a Granted
  denied : {moment : ℕ} {certs : List Certificate} {link : Link} →
      IsJudged plan before a moment certs →
      (Grants plan.anchors (claims (live certs moment)) a.subject a.list a.right → ⊥) →
      IsFirstLink plan.anchors certs moment a.subject a.list a.right link →
      IsVerdict plan before a (Denied link)
