-- What a step of a shard promises, alone and among others.
use Rattle.std.specs.Prelude.{◌≡◌, ℕ, Bool, true, List, [], ◌∷◌, ◌++◌, length, find, Some, slice_get}
use Rattle.prin_term.specs.View.{Grant}
use Rattle.stmt_codec.specs.Certificates.{Certificate}
use Rattle.proof_cache.specs.Cached.{Cached}
use Rattle.proof_cache.specs.Cache.{is_for}
use Rattle.agent_core.specs.declared.told.Told.{Told}
use Rattle.agent_core.specs.State.{Plan, Ask, Event, Asks, Plain, next}
use Rattle.agent_core.specs.Caches.{unlapsed}
use Rattle.agent_core.specs.Journals.{Entry, entry, Begins, state_after, cache_after, IsLegalJournal, IsJudged}

-- what a step hands out: a kept proof; or what is to be judged, at which moment; or what was told
pub data StepAnswer : Type 0 where
  Hit : (entry : ℕ) → Cached → StepAnswer
  Miss : (moment : ℕ) → List Certificate → StepAnswer
  Other : Told → StepAnswer

-- the answer to an event after these entries, of which this was told: a hit hands out the proof that
-- is kept for the entry
pub data IsAnswer (plan : Plan) (before : List Entry) : Event → Told → StepAnswer → Type 0 where
  hit : {a : Ask} {e moment : ℕ} {certs : List Certificate} {g : Grant} {c : Cached} →
      IsJudged plan before a moment certs → slice_get a.list e ≡ Some g →
      find (is_for a.subject g.who) (unlapsed moment (cache_after plan before)) ≡ Some c →
      IsAnswer plan before (Asks a) (Told.Hit e) (Hit e c)
  miss : {a : Ask} {moment : ℕ} {certs : List Certificate} → IsJudged plan before a moment certs →
      IsAnswer plan before (Asks a) Told.Miss (Miss moment certs)
  other : {event : Event} {told : Told} →
      (next plan (state_after plan before) event).1 ≡ Plain told →
      IsAnswer plan before event told (Other told)

-- one entry more, at this place, with this answer
pub record Steps (plan : Plan) (before : List Entry) (event : Event) (later : List Entry)
    (place : ℕ) (answer : StepAnswer) : Type 0 where
  -- what was told of the event
  pub told : Told
  pub adds : later ≡ before ++ entry event told ∷ []
  pub placed : length before ≡ place
  pub legal : IsLegalJournal plan later
  pub answers : IsAnswer plan before event told answer

-- what is seen of a shard
pub record JournalSeen : Type 0 where
  -- whether nobody else steps it
  pub alone : Bool
  pub journal : List Entry
  -- the own places in it
  pub own : List ℕ

-- the same after what was seen of the shard and entries of others, where there are any; the place
-- is an own one
pub record StepsTo (plan : Plan) (earlier later : JournalSeen) (event : Event)
    (place : ℕ) (answer : StepAnswer) : Type 0 where
  -- the journal as it was just before the step
  pub before : List Entry
  pub goes_on : Begins earlier.journal before
  -- where nobody else steps the shard, it is what was seen
  pub undisturbed : earlier.alone ≡ true → before ≡ earlier.journal
  pub steps : Steps plan before event later.journal place answer
  -- the place of the new entry is an own one
  pub owned : later.own ≡ earlier.own ++ place ∷ []

-- no own entry was added: the journal is full, or memory was refused
pub record StepRefused (plan : Plan) (earlier later : JournalSeen) : Type 0 where
  pub goes_on : Begins earlier.journal later.journal
  -- where nobody else steps the shard, its journal stays
  pub undisturbed : earlier.alone ≡ true → later.journal ≡ earlier.journal
  pub legal : IsLegalJournal plan later.journal
  -- the own places stay
  pub owned : later.own ≡ earlier.own
