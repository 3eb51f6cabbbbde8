-- The load of a drill at one shard: what is asked of it, which plan it has, and what its journal is
-- made of.
use Rattle.std.specs.Prelude.{◌≡◌, ◌⊎◌, ℕ, ◌<◌, ◌≤◌, Bool, true, false, List, [], ◌∷◌, length, Some, slice_get}
use Rattle.prin_term.specs.Principal.{Key}
use Rattle.prin_term.specs.View.{Grant}
use Rattle.proof_cache.specs.Cached.{Cached}
use Rattle.proof_cache.specs.declared.row.TheConstants.{MAX_KEPT}
use Rattle.agent_core.specs.declared.told.Told.{Told}
use Rattle.agent_core.specs.State.{Plan, Ask, Event, Asks, Keeps}
use Rattle.agent_core.specs.Journals.{Entry, entry, IsLegalJournal}
use Rattle.agent_core.specs.Asked.{IsGrantedAt}
use Rattle.taos_drill.specs.declared.numbers.TheConstants.{READING}
use Rattle.taos_drill.specs.Opened.{issuer_anchor, reader}
use Rattle.taos_drill.specs.Sent.{drill_certificate}

-- the Ask of a drill's request: a channel asks, under this number, for an object with this list
abbrev pub load_ask : (channel seq : ℕ) → List Grant → Ask
load_ask channel seq list = record {
  channel = channel;
  seq = seq;
  reading = READING;
  subject = Key channel;
  list = list;
  right = 1;
  presented = drill_certificate channel ∷ [];
}

-- the list of an object that a drill asks for: one that its channel may read, or an empty one
abbrev pub IsLoadList : List Grant → Type 0
IsLoadList list = (list ≡ reader ∷ []) ⊎ (list ≡ [])

-- such an Ask stands at the place, and this was told of it
abbrev pub AsksAt : List Entry → ℕ → (channel seq : ℕ) → List Grant → Told → Type 0
AsksAt journal place channel seq list told =
    slice_get journal place ≡ Some (entry (Asks (load_ask channel seq list)) told)

-- what stands at a place: an Ask of the load, or a proof that was made for one
pub data IsLoadEntry (plan : Plan) (journal : List Entry) (place : ℕ) : Type 0 where
  -- an Ask of the load
  asks : {channel seq : ℕ} {list : List Grant} {told : Told} →
      IsLoadList list → AsksAt journal place channel seq list told →
      IsLoadEntry plan journal place
  -- a proof that was made for an Ask of the load, and grants it
  keeps : {channel seq at e : ℕ} {list : List Grant} {c : Cached} {told : Told} →
      IsLoadList list → IsGrantedAt plan journal (load_ask channel seq list) at e c →
      slice_get journal place ≡ Some (entry (Keeps at e c) told) →
      IsLoadEntry plan journal place

-- the plan of a shard of a drill
pub record IsLoadPlan (plan : Plan) : Type 0 where
  pub anchors : plan.anchors ≡ issuer_anchor ∷ []
  pub commons : plan.commons ≡ []
  -- a proof may be kept for each
  pub few : length plan.channels ≤ MAX_KEPT

-- the journal of a shard under the load of a drill: all entries are of the load, and the numbers of
-- each channel rise, from 1 on
pub record IsLoadJournal (plan : Plan) (journal : List Entry) : Type 0 where
  pub planned : IsLoadPlan plan
  pub legal : IsLegalJournal plan journal
  pub entries : (place : ℕ) → place < length journal → IsLoadEntry plan journal place
  -- of two Asks of a channel the later one has the greater number
  pub rising : (p q channel m n : ℕ) (xs ys : List Grant) (t u : Told) → p < q →
      AsksAt journal p channel m xs t → AsksAt journal q channel n ys u → m < n
  -- no Ask has the number 0
  pub first : (p channel m : ℕ) (xs : List Grant) (t : Told) →
      AsksAt journal p channel m xs t → 0 < m

-- each proof that was made is in the journal before its channel asks again
abbrev pub KeepsInTime : List Entry → Type 0
KeepsInTime journal =
    (p q channel m n : ℕ) (ys : List Grant) (u : Told) → p < q →
    AsksAt journal p channel m (reader ∷ []) Told.Miss → AsksAt journal q channel n ys u →
    (k e : ℕ) × (c : Cached) × (told : Told) × (k < q)
    × (slice_get journal k ≡ Some (entry (Keeps p e c) told))

-- for no Ask is a proof to be kept twice
abbrev pub KeepsOnce : List Entry → Type 0
KeepsOnce journal =
    (i j p e f : ℕ) (c d : Cached) (t u : Told) →
    slice_get journal i ≡ Some (entry (Keeps p e c) t) →
    slice_get journal j ≡ Some (entry (Keeps p f d) u) → i ≡ j

-- the event is an Ask
abbrev pub asks_event : Event → Bool
asks_event (Asks a) = true
asks_event _ = false

-- the event is that a proof is to be kept
abbrev pub keeps_event : Event → Bool
keeps_event (Keeps at e c) = true
keeps_event _ = false

-- the entry is an Ask
abbrev pub is_ask : Entry → Bool
is_ask x = asks_event x.event

-- the entry is that a proof is to be kept
abbrev pub is_keep : Entry → Bool
is_keep x = keeps_event x.event
