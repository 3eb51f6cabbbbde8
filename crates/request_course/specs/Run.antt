-- Connections in the journals of a node: the whole frames of an input, each with its course, and
-- the replies.
use Rattle.std.specs.Prelude.{◌≡◌, ◌≢◌, ◌⊎◌, ℕ, false, List, [], ◌∷◌, ◌++◌, map, Some, slice_get, All, AllPairs, Contains}
use Rattle.std.specs.List.{flat_map}
use Rattle.frame_link.specs.declared.outcome.Outcome.{Outcome}
use Rattle.frame_link.specs.declared.outcome.Outcome.TheVariants.{ClockFault}
use Rattle.object_core.specs.Operation.{Op}
use Rattle.object_core.specs.declared.ruling.Ruling.TheVariants as rulings
use Rattle.taos_wire.specs.Reply.{Reply, Granted, Sent, spelling}
use Rattle.agent_core.specs.declared.told.Told.{Told}
use Rattle.agent_core.specs.State.{Ask, Asks}
use Rattle.agent_core.specs.Journals.{entry}
use Rattle.cred_pull.specs.Fetching.{Pull}
use Rattle.request_course.specs.Cells.{Node, Journals, no_entries, Cell, OfShard, OfObject, Place, in_object, numbers_in, IsAfter}
use Rattle.request_course.specs.Credentials.{LinkCall}
use Rattle.request_course.specs.Asking.{shard_full}
use Rattle.request_course.specs.AtObject.{object_full, ruled_as}
use Rattle.request_course.specs.Course.{ComesToClock, Used, TurnAfter}

-- a frame with what its course used, and its reply
pub record Turn : Type 0 where
  pub frame : List ℕ
  pub used : Used
  pub sent : Sent

-- the frames of turns
abbrev pub frames_of : List Turn → List (List ℕ)
frames_of turns = map (λ (t : Turn). t.frame) turns

-- the readings of the clock in turns
abbrev pub readings_of : List Turn → List ℕ
readings_of turns = flat_map (λ (t : Turn). t.used.readings) turns

-- what was fetched in turns
abbrev pub pulls_of : List Turn → List Pull
pulls_of turns = flat_map (λ (t : Turn). t.used.pulls) turns

-- the calls of the link in turns
abbrev pub calls_of : List Turn → List LinkCall
calls_of turns = flat_map (λ (t : Turn). t.used.calls) turns

-- the own places of turns
abbrev pub places_of : List Turn → List Place
places_of turns = flat_map (λ (t : Turn). t.used.places) turns

-- the replies of turns, as bytes
abbrev pub replies_of : List Turn → List (List ℕ)
replies_of turns = map (λ (t : Turn). spelling t.sent) turns

-- the course of a turn stands in the journals, whatever was seen before
abbrev pub IsCourse : Node → Journals → Turn → Type 0
IsCourse n J t = TurnAfter n no_entries J t.frame t.used t.sent

-- each frame has its turn; but where the clock failed, one frame more came to it
abbrev pub AreTurns : Node → Outcome → List Turn → List (List ℕ) → Used → Type 0
AreTurns n ClockFault turns frames used =
    (last : List ℕ) × (pulls : List Pull) × (calls : List LinkCall)
    × ComesToClock n last pulls calls × (frames ≡ frames_of turns ++ last ∷ [])
    × (used.pulls ≡ pulls_of turns ++ pulls) × (used.calls ≡ calls_of turns ++ calls)
AreTurns n _ turns frames used =
    (frames ≡ frames_of turns) × (used.pulls ≡ pulls_of turns) × (used.calls ≡ calls_of turns)

-- the reply is a grant of the shard, by a proof that was not kept before
abbrev pub IsMade : ℕ → Reply → Type 0
IsMade s (Granted false entry shard place proof cites content) = shard ≡ s
IsMade s _ = ⊥

-- The Ask at the place of the shard was a miss, and one of these own places is that of the entry by
-- which it was granted: by a proof that was made for it.
pub record WasMade (J : Journals) (s place : ℕ) (own : List Place) : Type 0 where
  pub ask : Ask
  pub missed : slice_get (J.shards s) place ≡ Some (entry (Asks ask) Told.Miss)
  pub object : ℕ
  pub at : ℕ
  pub owned : Contains own (in_object object at)
  pub op : Op
  pub chosen : ℕ
  pub granted : slice_get (J.objects object) at
      ≡ Some (ruled_as s place op (rulings.Granted chosen))

-- the turn's reply says that the journal of the cell is full; or that of a shard had no room for the
-- proof of a grant, whose Ask stands there alone, whatever the reply says of its steps
abbrev pub FoundFull : Journals → Cell → Turn → Type 0
FoundFull J (OfShard s) t =
    ((limit : ℕ) × (t.sent.reply ≡ shard_full s limit))
    ⊎ ((place : ℕ) × (numbers_in (OfShard s) t.used.places ≡ place ∷ [])
    × (IsMade s t.sent.reply ⊎ WasMade J s place t.used.places))
FoundFull J (OfObject o) t = (limit : ℕ) × (t.sent.reply ≡ object_full o limit)

-- a journal that the earlier turn found full has no place of the later one
abbrev pub IsFilledBefore : Journals → Turn → Turn → Type 0
IsFilledBefore J earlier later =
    (cell : Cell) → FoundFull J cell earlier →
    All (λ (p : Place). p.cell ≢ cell) later.used.places

-- The frames have one course each, in order. Together these used the readings, the answers of the
-- fetch and of the link, and the own places that are given, and no others.
pub record Answered (n : Node) (J : Journals) (used : Used) (frames replies : List (List ℕ))
    (outcome : Outcome) : Type 0 where
  pub turns : List Turn
  pub courses : All (IsCourse n J) turns
  pub in_order : AreTurns n outcome turns frames used
  pub read : used.readings ≡ readings_of turns
  pub owned : used.places ≡ places_of turns
  pub ascending : AllPairs IsAfter used.places
  pub filled : AllPairs (IsFilledBefore J) turns
  pub replies_are : replies ≡ replies_of turns
