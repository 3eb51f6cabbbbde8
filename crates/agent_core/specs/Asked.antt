-- An ask at a shard: its step, the decision on what the step handed out, and how that ended.
use Rattle.std.specs.Prelude.{◌≡◌, ◌⊎◌, ℕ, ◌+◌, ◌<◌, ◌≤◌, Bool, true, false, List, [], ◌∷◌, ◌++◌, length, Some, find, slice_get, All, AllPairs}
use Rattle.std.specs.Arc.{arc_value}
use Rattle.prin_term.specs.declared.limits.TheConstants.{ENTRY_NODES}
use Rattle.prin_term.specs.declared.term.Anchor.{Anchor}
use Rattle.prin_term.specs.Principal.{node_count}
use Rattle.prin_term.specs.View.{Grant}
use Rattle.stmt_codec.specs.Certificates.{Certificate, digest_of, live}
use Rattle.taos_calculus.specs.declared.decide.TheConstants.{MAX_ENTRIES}
use Rattle.taos_calculus.specs.Monitor.{MaySpeak, FirstEntry, Grants}
use Rattle.denial_link.specs.declared.link.Link.{Link}
use Rattle.denial_link.specs.declared.link.Link.TheVariants as links
use Rattle.denial_link.specs.Revived.{claims}
use Rattle.denial_link.specs.Links.{IsFirstLink}
use Rattle.proof_cache.specs.Cache.{is_for}
use Rattle.proof_cache.specs.Cached.{Cached, cached}
use Rattle.proof_cache.specs.declared.cached.Cached.{Cached as CachedValue}
use Rattle.agent_core.specs.declared.limits.TheConstants.{MAX_PRESENTED}
use Rattle.agent_core.specs.declared.told.Told.{Told}
use Rattle.agent_core.specs.declared.asked.Denial.{Denial}
use Rattle.agent_core.specs.declared.asked.Verdict.{Verdict}
use Rattle.agent_core.specs.declared.asked.Verdict.TheVariants as verdict
use Rattle.agent_core.specs.declared.asked.Settled.{Settled}
use Rattle.agent_core.specs.declared.asked.Settled.TheVariants as settled
use Rattle.agent_core.specs.declared.told.DropCause.{DropCause}
use Rattle.agent_core.specs.declared.asked.Asked.{Asked}
use Rattle.agent_core.specs.State.{Plan, Ask, Event, Asks, Keeps}
use Rattle.agent_core.specs.Journals.{Entry, entry, Stands, Begins, cache_after, IsLegalJournal, IsJudged, IsVerdict, Granted}
use Rattle.agent_core.specs.Caches.{unlapsed}
use Rattle.agent_core.specs.Granted.{IsProofFor, IsKeptProofFor}
use Rattle.agent_core.specs.Steps.{JournalSeen}

-- the ask is within the limits of a question
pub record FitsAsk (a : Ask) : Type 0 where
  pub subject : node_count a.subject ≤ ENTRY_NODES
  pub few_entries : length a.list ≤ MAX_ENTRIES
  pub entries : All (λ (e : Grant). node_count e.who ≤ ENTRY_NODES) a.list
  pub few_presented : length a.presented ≤ MAX_PRESENTED

-- what a denial names of a first link: a certificate by its digest
abbrev pub Names : List Certificate → Link → Denial → Type 0
Names certs (links.Expired entry place) denial =
    (c : Certificate) × (slice_get certs place ≡ Some c)
    × (denial ≡ Denial.Expired entry (digest_of c))
Names certs (links.Early entry place) denial =
    (c : Certificate) × (slice_get certs place ≡ Some c)
    × (denial ≡ Denial.Early entry (digest_of c))
Names certs (links.Missing entry node) denial = denial ≡ Denial.Missing entry node
Names certs links.NoEntry denial = denial ≡ Denial.NoEntry

module _ (anchors : List Anchor) (certs : List Certificate) (moment : ℕ) (a : Ask) where
  -- the first entry that the live certificates grant is e, by the proof c
  pub record IsGrantedBy (e : ℕ) (c : Cached) : Type 0 where
    pub grant : Grant
    pub first : FirstEntry a.list a.right
        (λ h. MaySpeak anchors (claims (live certs moment)) a.subject h.who) e grant
    pub proof : IsProofFor anchors certs moment a e c

  -- the live certificates grant none, and the denial names the first link
  pub record IsDeniedBy (denial : Denial) : Type 0 where
    pub link : Link
    pub none : Grants anchors (claims (live certs moment)) a.subject a.list a.right → ⊥
    pub first : IsFirstLink anchors certs moment a.subject a.list a.right link
    pub names : Names certs link denial

module _ (plan : Plan) (journal : List Entry) (a : Ask) where
  -- the Ask stands at the place and was a miss; it is granted by the entry e and the proof c
  pub record IsGrantedAt (place e : ℕ) (c : Cached) : Type 0 where
    -- the entries before the Ask
    pub before : List Entry
    pub moment : ℕ
    pub certs : List Certificate
    pub stands : Stands journal place before (entry (Asks a) Told.Miss)
    pub judged : IsJudged plan before a moment certs
    pub granted : IsGrantedBy plan.anchors certs moment a e c

  -- the Ask stands at the place and was a hit: the proof c, which was kept, grants it by the entry e
  pub record IsHitAt (place e : ℕ) (c : Cached) : Type 0 where
    -- the entries before the Ask
    pub before : List Entry
    pub moment : ℕ
    pub certs : List Certificate
    pub stands : Stands journal place before (entry (Asks a) (Told.Hit e))
    pub judged : IsJudged plan before a moment certs
    pub proof : IsKeptProofFor plan.anchors certs moment a e c
    -- it is the one that is kept for the entry
    pub found : find (is_for a.subject proof.grant.who) (unlapsed moment (cache_after plan before))
        ≡ Some c

  -- the Ask stands at the place and was a miss; it is denied so
  pub record IsDeniedAt (place : ℕ) (denial : Denial) : Type 0 where
    -- the entries before the Ask
    pub before : List Entry
    pub moment : ℕ
    pub certs : List Certificate
    pub stands : Stands journal place before (entry (Asks a) Told.Miss)
    pub judged : IsJudged plan before a moment certs
    pub denied : IsDeniedBy plan.anchors certs moment a denial

  -- the event stands at the place, and this was told
  abbrev pub IsToldOf : Event → ℕ → Told → Type 0
  IsToldOf event place told = (before : List Entry) × Stands journal place before (entry event told)

  -- the Ask stands at the place, and this was told
  abbrev pub IsTold : ℕ → Told → Type 0
  IsTold place told = IsToldOf (Asks a) place told

  -- the Ask at the place is granted by the entry e and the proof c: whether that was kept before,
  -- what became of it, and the own places
  pub data IsGrant (place e : ℕ) (c : Cached) : Bool → Settled → List ℕ → Type 0 where
    -- by a proof that was kept
    by_kept : IsHitAt place e c → IsGrant place e c true settled.NoNeed (place ∷ [])
    -- by one that was made for it, and is kept from its own place on
    was_kept : {keep : ℕ} → IsGrantedAt place e c → IsToldOf (Keeps place e c) keep Told.Kept →
        IsGrant place e c false settled.Kept (place ∷ keep ∷ [])
    -- by one that was not kept: what it cites was let go in between, or its lease ended
    was_dropped : {keep : ℕ} {cause : DropCause} →
        IsGrantedAt place e c → IsToldOf (Keeps place e c) keep (Told.Dropped cause) →
        IsGrant place e c false (settled.Dropped cause) (place ∷ keep ∷ [])
    -- by one for which the journal had no room
    had_no_room : IsGrantedAt place e c → length journal ≡ plan.limit →
        IsGrant place e c false (settled.NoRoom plan.limit) (place ∷ [])

  -- how an ask that is not granted ended, at its own places
  abbrev pub EndsBy : ℕ → Verdict → List ℕ → Type 0
  EndsBy place (verdict.Granted e c) own = ⊥
  EndsBy place (verdict.Denied denial) own = IsDeniedAt place denial × (own ≡ place ∷ [])
  EndsBy place (verdict.Replayed last) own = IsTold place (Told.Replayed last) × (own ≡ place ∷ [])
  EndsBy place (verdict.Full held) own = IsTold place (Told.Full held) × (own ≡ place ∷ [])
  EndsBy place (verdict.JournalFull n) own =
      (length journal ≡ plan.limit) × (n ≡ plan.limit) × (place ≡ plan.limit) × (own ≡ [])

  -- how an ask ended, at which place, by a kept proof or not, and what became of a proof
  abbrev pub Ends : ℕ → Verdict → Bool → Settled → List ℕ → Type 0
  Ends place (verdict.Granted e c) kept settling own =
      IsGrant place e (cached (arc_value {X = CachedValue} c)) kept settling own
  Ends place v kept settling own =
      EndsBy place v own × (kept ≡ false) × (settling ≡ settled.NoNeed)

  -- the same, of what the program answers
  abbrev pub AskEnds : Asked → List ℕ → Type 0
  AskEnds asked own = Ends asked.place asked.verdict asked.kept asked.settled own

  -- memory was refused before the Ask stood; or where it is granted, with the Ask alone
  abbrev pub Unanswered : List ℕ → Type 0
  Unanswered own = (own ≡ []) ⊎
      ((place : ℕ) × (before : List Entry) × Stands journal place before (entry (Asks a) Told.Miss)
      × IsVerdict plan before a Granted × (own ≡ place ∷ []))

-- what is seen of the journal stayed as it was before, or has room
abbrev pub FoundRoom : Plan → (past journal : List Entry) → Type 0
FoundRoom plan past journal = (journal ≡ past) ⊎ (length journal < plan.limit)

-- memory was refused, after what was seen before: with no own place the journal was not found full
pub record LacksMemory (plan : Plan) (past journal : List Entry) (a : Ask) (own : List ℕ) :
    Type 0 where
  pub unanswered : Unanswered plan journal a own
  pub room : own ≡ [] → FoundRoom plan past journal

-- the whole of an ask: its own places are new, ascend, and are how it ended; others may have
-- entries anywhere
pub record AskedTo (plan : Plan) (earlier later : JournalSeen) (a : Ask)
    (Ends : List ℕ → Type 0) : Type 0 where
  -- the own places that are new
  pub places : List ℕ
  -- the journal begins with what was seen of it
  pub goes_on : Begins earlier.journal later.journal
  -- where nobody else steps the shard, no other entries came
  pub undisturbed : earlier.alone ≡ true →
      length later.journal ≡ length earlier.journal + length places
  pub legal : IsLegalJournal plan later.journal
  pub owned : later.own ≡ earlier.own ++ places
  -- they are after what was seen
  pub new : All (λ p. length earlier.journal ≤ p) places
  -- and within the journal as it is now
  pub there : All (λ p. p < length later.journal) places
  pub ascending : AllPairs (λ p q. p < q) places
  pub ends : Ends places

-- the whole of an ask that ended as the program answers
abbrev pub AskEnded : Plan → (earlier later : JournalSeen) → Ask → Asked → Type 0
AskEnded plan earlier later a asked =
    AskedTo plan earlier later a (AskEnds plan later.journal a asked)

-- the whole of an ask to which memory was refused
abbrev pub AskLacked : Plan → (earlier later : JournalSeen) → Ask → Type 0
AskLacked plan earlier later a =
    AskedTo plan earlier later a (LacksMemory plan earlier.journal later.journal a)
