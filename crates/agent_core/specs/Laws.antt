-- What the definitions of a shard imply: each law is the contract of a function that does nothing.
use Rattle.std.specs.Prelude.{◌≡◌, ◌⊎◌, ℕ, ◌+◌, ◌<◌, ◌≤◌, ◌↔◌, Bool, List, [], ◌∷◌, ◌++◌, length, map, take, Some, slice_get, All, Contains}
use Rattle.prin_term.specs.declared.term.Anchor.{Anchor}
use Rattle.stmt_codec.specs.Certificates.{Certificate}
use Rattle.denial_link.specs.declared.link.Link.{Link}
use Rattle.taos_calculus.specs.Rules.{Proves, SpeaksFor}
use Rattle.denial_link.specs.Revived.{claims}
use Rattle.proof_cache.specs.Cached.{Cached, lease_of}
use Rattle.proof_cache.specs.Cache.{IsCache}
use Rattle.agent_core.specs.declared.asked.Settled.{Settled}
use Rattle.agent_core.specs.Caches.{cache_next}
use Rattle.agent_core.specs.Granted.{IsKeptProofFor}
use Rattle.agent_core.specs.declared.asked.Denial.{Denial}
use Rattle.agent_core.specs.declared.told.Told.{Told}
use Rattle.agent_core.specs.Asked.{IsGrantedAt, IsHitAt, IsDeniedAt, IsToldOf, IsGrant}
use Rattle.agent_core.specs.declared.limits.TheConstants.{MAX_OWN, MAX_COMMONS, MAX_WITHDRAWN}
use Rattle.agent_core.specs.State.{Plan, State, Ask, Event, Asks, Withdraws, Answer, Judged, Plain, opened, held_for, reading_of, next}
use Rattle.agent_core.specs.Plans.{AreShards, home}
use Rattle.agent_core.specs.Opened.{MayOpen, plans_for}
use Rattle.agent_core.specs.declared.whole_ask.verdict.Decision.{Decision}
use Rattle.agent_core.specs.Judged.{Judges, verdict_of}
use Rattle.agent_core.specs.Steps.{JournalSeen, StepAnswer, Steps, StepsTo}
use Rattle.agent_core.specs.Journals.{Entry, entry, Begins, state_after, cache_after, told_of, told_at, IsMeant, MayFollow, IsLegalJournal, IsJudged, IsVerdict, Granted, Denied}

-- the journal that a shard makes of events from a state and kept proofs on, one after another
abbrev pub journal_from : Plan → State → List Cached → List Event → List Entry
journal_from plan s cache [] = []
journal_from plan s cache (e ∷ es) =
    entry e (told_of cache e (next plan s e).1)
    ∷ journal_from plan (next plan s e).0
    (cache_next (next plan s e).0.clock e (told_of cache e (next plan s e).1) cache) es

-- the journal that a shard makes of events from its opening on
abbrev pub journal_of : Plan → List Event → List Entry
journal_of plan events = journal_from plan (opened plan) [] events

-- ---- the plain machine, which keeps no proof

-- the state that it makes of events, from a state on
abbrev pub plain_from : Plan → State → List Event → State
plain_from plan s [] = s
plain_from plan s (e ∷ es) = plain_from plan (next plan s e).0 es

-- its answer to an event after these
abbrev pub plain_answer : Plan → List Event → Event → Answer
plain_answer plan events event = (next plan (plain_from plan (opened plan) events) event).1

-- what is told of an Ask agrees with the plain machine's answer: it is the same, where that is told
-- at once; of an Ask that it judges, a hit is a grant by what it judges by, and all else is a miss
abbrev pub Agrees : Plan → Ask → Answer → Told → Type 0
Agrees plan a (Plain plain) told = told ≡ plain
Agrees plan a (Judged moment certs) (Told.Hit e) =
    (c : Cached) × IsKeptProofFor plan.anchors certs moment a e c
Agrees plan a (Judged moment certs) told = told ≡ Told.Miss

-- ---- the clock

-- no number of the list is larger; it is one of them, or 0
abbrev pub IsLargest : List ℕ → ℕ → Type 0
IsLargest numbers n = All (λ m. m ≤ n) numbers × ((n ≡ 0) ⊎ Contains numbers n)

-- ---- issuers that are withdrawn

-- each certificate is of an issuer that is not withdrawn
abbrev pub AreAdmitted : State → List Certificate → Type 0
AreAdmitted s certs = All (λ c. Contains s.withdrawn c.issuer → ⊥) certs

-- few issuers are withdrawn, and no certificate of theirs is held
pub record HoldsNoneWithdrawn (s : State) : Type 0 where
  pub few : length s.withdrawn ≤ MAX_WITHDRAWN
  pub own : (channel : ℕ) → AreAdmitted s (s.own channel)
  pub commons : AreAdmitted s s.commons

-- ---- kept proofs

-- the proof holds for its subject, by certificates that are held and have begun, until its lease
-- ends
pub record IsBacked (plan : Plan) (s : State) (c : Cached) : Type 0 where
  pub held : All (Contains (held_for s c.subject)) c.cites
  pub begun : All (λ x. x.from ≤ s.clock) c.cites
  pub ahead : s.clock < c.lease
  pub lease_is : c.lease ≡ lease_of c.cites
  pub proves : Proves plan.anchors (claims c.cites) c.proof (SpeaksFor c.subject c.who)

module _ (plan : Plan) where
  -- a beginning of a legal journal is legal
  abbrev pub FrontIsLegal : Type 0
  FrontIsLegal =
      (front more : List Entry) → IsLegalJournal plan (front ++ more) → IsLegalJournal plan front

  -- a legal journal stays legal with an entry that may follow it
  abbrev pub OneMoreIsLegal : Type 0
  OneMoreIsLegal =
      (journal : List Entry) (e : Entry) → IsLegalJournal plan journal → MayFollow plan journal e →
      IsLegalJournal plan (journal ++ e ∷ [])

  -- each entry may follow those before it, as a turn cell says it of its journal
  abbrev pub AllMayFollow : List Entry → List Entry → Type 0
  AllMayFollow before [] = Unit {0}
  AllMayFollow before (e ∷ es) = MayFollow plan before e × AllMayFollow (before ++ e ∷ []) es

  -- a journal is legal exactly where each entry may follow those before it, one after another
  abbrev pub LegalIsAllowed : Type 0
  LegalIsAllowed = (journal : List Entry) → IsLegalJournal plan journal ↔ AllMayFollow [] journal

  -- each event is meant after what the shard made of those before it
  abbrev pub AreMeant : List Entry → List Event → Type 0
  AreMeant before [] = Unit {0}
  AreMeant before (e ∷ es) =
      IsMeant plan before e × AreMeant (before ++ entry e (told_at plan before e) ∷ []) es

  -- the clock never falls
  abbrev pub ClockNeverFalls : Type 0
  ClockNeverFalls =
      (journal more : List Entry) →
      (state_after plan journal).clock ≤ (state_after plan (journal ++ more)).clock

  -- the clock stands at the largest reading
  abbrev pub ClockIsRead : Type 0
  ClockIsRead =
      (journal : List Entry) →
      IsLargest (map (λ (e : Entry). reading_of e.event) journal) (state_after plan journal).clock

  -- the journal that a shard makes of events is legal, where each is meant and there is room
  abbrev pub JournalIsLegal : Type 0
  JournalIsLegal =
      (events : List Event) → length events ≤ plan.limit → AreMeant [] events →
      IsLegalJournal plan (journal_of plan events)

  -- a legal journal is the one that the shard makes of its events
  abbrev pub HasOneJournal : Type 0
  HasOneJournal =
      (journal : List Entry) → IsLegalJournal plan journal →
      journal ≡ journal_of plan (map (λ (e : Entry). e.event) journal)

  -- a shard with kept proofs gives the verdicts of the plain machine without one, whatever the events
  abbrev pub GivesPlainVerdicts : Type 0
  GivesPlainVerdicts =
      (events : List Event) → length events ≤ plan.limit → AreMeant [] events →
      (place : ℕ) (a : Ask) (told : Told) →
      slice_get (journal_of plan events) place ≡ Some (entry (Asks a) told) →
      Agrees plan a (plain_answer plan (take place events) (Asks a)) told

  -- after a legal journal each kept proof has only cites that are held and have begun, and its lease
  -- is ahead
  abbrev pub CacheIsBacked : Type 0
  CacheIsBacked = (journal : List Entry) → IsLegalJournal plan journal →
      All (IsBacked plan (state_after plan journal)) (cache_after plan journal)

  -- few proofs are kept, no two of which are for the same
  abbrev pub CacheIsSmall : Type 0
  CacheIsSmall = (journal : List Entry) → IsCache (cache_after plan journal)

  -- where an Ask is told a hit, its verdict is that it is granted
  abbrev pub HitIsGranted : Type 0
  HitIsGranted = (before : List Entry) (a : Ask) (e : ℕ) →
      IsLegalJournal plan (before ++ entry (Asks a) (Told.Hit e) ∷ []) →
      IsVerdict plan before a Granted

  -- neither a channel nor the commons hold more than they may
  abbrev pub HoldsFew : Type 0
  HoldsFew = length plan.commons ≤ MAX_COMMONS → (journal : List Entry) →
      ((c : ℕ) → length ((state_after plan journal).own c) ≤ MAX_OWN)
      × (length (state_after plan journal).commons ≤ MAX_COMMONS)

  -- no certificate of a withdrawn issuer is held after any journal
  abbrev pub WithdrawnAreNotHeld : Type 0
  WithdrawnAreNotHeld = (journal : List Entry) → HoldsNoneWithdrawn (state_after plan journal)

  -- an issuer whose withdrawal removed certificates, or none, is withdrawn from then on
  abbrev pub WithdrawnFromThen : Type 0
  WithdrawnFromThen = (journal before more : List Entry) (issuer count : ℕ) →
      journal ≡ before ++ entry (Withdraws issuer) (Told.Removed count) ∷ more →
      IsLegalJournal plan journal → Contains (state_after plan journal).withdrawn issuer

  -- an Ask is judged by no more certificates than a channel and the commons may hold
  abbrev pub JudgesFew : Type 0
  JudgesFew =
      length plan.commons ≤ MAX_COMMONS →
      (before : List Entry) (a : Ask) (moment : ℕ) (certs : List Certificate) →
      IsJudged plan before a moment certs → length certs ≤ MAX_OWN + MAX_COMMONS

  -- no Ask is both granted and denied: what it is judged by is one moment and one list
  abbrev pub OneVerdict : Type 0
  OneVerdict =
      (before : List Entry) (a : Ask) (link : Link) → IsVerdict plan before a Granted →
      IsVerdict plan before a (Denied link) → ⊥

  -- what is found on what an Ask is judged by is its verdict
  abbrev pub JudgedIsVerdict : Type 0
  JudgedIsVerdict =
      (before : List Entry) (a : Ask) (moment : ℕ) (certs : List Certificate) (finding : Decision) →
      IsJudged plan before a moment certs → Judges plan.anchors certs moment a finding →
      IsVerdict plan before a (verdict_of finding)

  -- what an event has to be stays so when the journal goes on
  abbrev pub MeantStays : Type 0
  MeantStays =
      (xs ys : List Entry) (event : Event) → Begins xs ys → IsMeant plan xs event →
      IsMeant plan ys event

  -- a step of a shard is one among others of which there are none
  abbrev pub StepsAlone : Type 0
  StepsAlone = (earlier later : JournalSeen) (event : Event) (place : ℕ) (answer : StepAnswer) →
      Steps plan earlier.journal event later.journal place answer →
      later.own ≡ earlier.own ++ place ∷ [] → StepsTo plan earlier later event place answer

  -- an Ask that is granted or denied at a place has this verdict after the entries before it
  abbrev pub AsksAreVerdicts : Type 0
  AsksAreVerdicts = (journal : List Entry) (a : Ask) (place : ℕ) →
      ((e : ℕ) (c : Cached) (g : IsGrantedAt plan journal a place e c) →
      IsVerdict plan g.before a Granted) ×
      ((e : ℕ) (c : Cached) (h : IsHitAt plan journal a place e c) →
      IsVerdict plan h.before a Granted) ×
      ((denial : Denial) (d : IsDeniedAt plan journal a place denial) →
      IsVerdict plan d.before a (Denied d.denied.link))

  -- how an Ask ended in a journal it ended in each that begins with it; a proof for which there was
  -- no room finds none in a longer journal within the limit
  abbrev pub AskStays : Type 0
  AskStays = (xs ys : List Entry) (a : Ask) (place : ℕ) → Begins xs ys →
      ((e : ℕ) (c : Cached) → IsGrantedAt plan xs a place e c → IsGrantedAt plan ys a place e c) ×
      ((e : ℕ) (c : Cached) (kept : Bool) (settled : Settled) (own : List ℕ) →
      length ys ≤ plan.limit → IsGrant plan xs a place e c kept settled own →
      IsGrant plan ys a place e c kept settled own) ×
      ((denial : Denial) → IsDeniedAt plan xs a place denial → IsDeniedAt plan ys a place denial) ×
      ((event : Event) (told : Told) → IsToldOf plan xs a event place told →
      IsToldOf plan ys a event place told)

module _ (channels : List ℕ) (shards : ℕ) (anchors : List Anchor) (commons : List Certificate)
    (keep limit : ℕ) where
  -- the plans that a node is opened with are those of all its shards
  abbrev pub OpenedAreShards : Type 0
  OpenedAreShards =
      MayOpen channels shards anchors commons limit →
      AreShards (plans_for channels shards anchors commons keep limit) anchors

  -- a channel of the node is one of its shard's
  abbrev pub EachChannelAtHome : Type 0
  EachChannelAtHome = (channel : ℕ) (plan : Plan) → Contains channels channel →
      slice_get (plans_for channels shards anchors commons keep limit)
      (home (plans_for channels shards anchors commons keep limit) channel) ≡ Some plan →
      Contains plan.channels channel
