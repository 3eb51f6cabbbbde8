-- What a step of the program answers.
use Rattle.std.specs.Prelude.{◌≡◌, ℕ, ◌≤◌, List, length}
use Rattle.std.specs.Arc.{arc_value}
use Rattle.stmt_codec.specs.View.{certificates}
use Rattle.taos_calculus.specs.declared.decide.TheConstants.{MAX_ENTRIES}
use Rattle.proof_cache.specs.Cached.{cached}
use Rattle.proof_cache.specs.declared.cached.Cached.{Cached as CachedValue}
use Rattle.agent_core.specs.declared.limits.TheConstants.{MAX_PRESENTED}
use Rattle.agent_core.specs.declared.told.Told.{Told}
use Rattle.agent_core.specs.declared.told.Answer.{Answer}
use Rattle.agent_core.specs.declared.told.Answer.TheVariants as answer
use Rattle.agent_core.specs.State.{Plan, Event, Asks, Holds}
use Rattle.agent_core.specs.Journals.{Entry}
use Rattle.agent_core.specs.Steps.{StepAnswer, Hit, Miss, Other, JournalSeen, Steps, StepsTo, StepRefused}

-- the event is within the limits: it brings few certificates, and an Ask's list is short
abbrev pub FitsEvent : Event → Type 0
FitsEvent (Asks a) = (length a.presented ≤ MAX_PRESENTED) × (length a.list ≤ MAX_ENTRIES)
FitsEvent (Holds certs) = length certs ≤ MAX_PRESENTED
FitsEvent _ = Unit {0}

-- what is told of an event for which memory may lack: handles are made for the answer, or for what
-- is kept
abbrev pub TakesMemory : Told → Type 0
TakesMemory (Told.Hit entry) = Unit {0}
TakesMemory Told.Miss = Unit {0}
TakesMemory Told.Kept = Unit {0}
TakesMemory _ = ⊥

-- it is told, and nothing is handed out
abbrev pub IsPlain : Told → Type 0
IsPlain (Told.Hit entry) = ⊥
IsPlain Told.Miss = ⊥
IsPlain _ = Unit {0}

-- what an answer gives
pub data Given : Type 0 where
  -- what is handed out or told
  Handed : StepAnswer → Given
  -- the length of a full journal
  Full : ℕ → Given

-- what each answer gives
abbrev pub given_by : Answer → Given
given_by (answer.Replayed last) = Handed (Other (Told.Replayed last))
given_by (answer.Full held) = Handed (Other (Told.Full held))
given_by (answer.Hit entry c) = Handed (Hit entry (cached (arc_value {X = CachedValue} c)))
given_by (answer.Miss snapshot) =
    Handed (Miss snapshot.moment (certificates snapshot.certs.items))
given_by answer.Kept = Handed (Other Told.Kept)
given_by (answer.Dropped cause) = Handed (Other (Told.Dropped cause))
given_by (answer.Held added) = Handed (Other (Told.Held added))
given_by (answer.CommonsFull held) = Handed (Other (Told.CommonsFull held))
given_by (answer.Removed count) = Handed (Other (Told.Removed count))
given_by (answer.WithdrawnFull held) = Handed (Other (Told.WithdrawnFull held))
given_by (answer.JournalFull n) = Full n

-- the one holds of what is handed out or told; or the other of the length of a full journal
abbrev pub OfGiven : (StepAnswer → Type 0) → (ℕ → Type 0) → Given → Type 0
OfGiven OfHanded OfFull (Handed x) = OfHanded x
OfGiven OfHanded OfFull (Full n) = OfFull n

-- the same of what an answer gives
abbrev pub OfAnswer : (StepAnswer → Type 0) → (ℕ → Type 0) → Answer → Type 0
OfAnswer OfHanded OfFull answer = OfGiven OfHanded OfFull (given_by answer)

-- where nobody else steps the shard: at a full journal nothing is done; else there is one entry
-- more, and the answer is what was told of it
abbrev pub Stepped : Plan → List Entry → Event → List Entry → ℕ → Answer → Type 0
Stepped plan journal event later place answer =
    OfAnswer (Steps plan journal event later place)
    (λ n. (later ≡ journal) × (length journal ≡ plan.limit) × (n ≡ plan.limit)
    × (place ≡ plan.limit)) answer

-- the same where others may step the shard, by what was seen of it before and after
abbrev pub SteppedTo : Plan → JournalSeen → JournalSeen → Event → ℕ → Answer → Type 0
SteppedTo plan earlier later event place answer =
    OfAnswer (StepsTo plan earlier later event place)
    (λ n. StepRefused plan earlier later × (length later.journal ≡ plan.limit)
    × (n ≡ plan.limit) × (place ≡ plan.limit)) answer
