-- A node and its cells: what it is opened with, what stands in the journals of its shards and of its
-- objects, and the places of entries there.
use Rattle.std.specs.Prelude.{◌≡◌, ℕ, ◌+◌, ◌<◌, ◌≤◌, ◌==◌, if◌then◌else◌, Bool, true, false, List, [], ◌++◌, length, filter_map, Option, Some, None, slice_get, All, AllPairs}
use Rattle.keyed_seal.specs.Keys.{Entries}
use Rattle.object_core.specs.Objects.{ObjectEntry}
use Rattle.object_core.specs.Shelving.{ObjectFixed, ShelfSeen, AreWithin}
use Rattle.agent_core.specs.State.{Plan}
use Rattle.agent_core.specs.Plans.{home as home_among}
use Rattle.agent_core.specs.Journals.{Entry, Begins}
use Rattle.agent_core.specs.Shards.{ShardsSeen}
pub use Rattle.agent_core.specs.Shards.{AreLegalShards}

-- the keys of a node, and what its cells are opened with
pub record Node : Type 0 where
  -- its number
  pub number : ℕ
  -- the key that it shares with its relay
  pub relay_key : List ℕ
  -- the channels' numbers with their keys
  pub channels : Entries
  -- the shard of number i has plan i
  pub plans : List Plan
  -- what never changes of each object
  pub objects : List ObjectFixed

-- the number of a channel's shard
abbrev pub home : Node → ℕ → ℕ
home n channel = home_among n.plans channel

-- the shard of this number is opened with this plan
abbrev pub HasPlan : Node → ℕ → Plan → Type 0
HasPlan n shard plan = slice_get n.plans shard ≡ Some plan

-- ---- journals

-- what stands in each cell
pub record Journals : Type 0 where
  -- the journal of the shard of each number
  pub shards : ℕ → List Entry
  -- the journal of the object of each number
  pub objects : ℕ → List ObjectEntry

-- nothing stands in a cell
abbrev pub no_entries : Journals
no_entries = record { shards = λ s. []; objects = λ o. [] }

-- what holds a journal: a shard or an object, by its number
pub data Cell : Type 0 where
  OfShard : ℕ → Cell
  OfObject : ℕ → Cell

-- an entry, by its cell and its number in the journal there
pub record Place : Type 0 where
  pub cell : Cell
  pub number : ℕ

-- an entry of the shard of this number
abbrev pub in_shard : ℕ → ℕ → Place
in_shard shard number = record { cell = OfShard shard; number = number }

-- an entry of the object of this number
abbrev pub in_object : ℕ → ℕ → Place
in_object object number = record { cell = OfObject object; number = number }

-- the journal of a cell has so many entries
abbrev pub entries_in : Journals → Cell → ℕ
entries_in J (OfShard s) = length (J.shards s)
entries_in J (OfObject o) = length (J.objects o)

-- the journal of each shard that has a plan is legal, and that of each object within its limit
pub record AreLegalIn (plans : List Plan) (fixed : List ObjectFixed) (J : Journals) :
    Type 0 where
  pub shards : AreLegalShards plans J.shards
  pub objects : AreWithin fixed J.objects

-- the journals of the node's cells are so
abbrev pub AreLegal : Node → Journals → Type 0
AreLegal n J = AreLegalIn n.plans n.objects J

-- each journal of K begins with that of J
pub record Extends (J K : Journals) : Type 0 where
  pub shards : (s : ℕ) → Begins (J.shards s) (K.shards s)
  pub objects : (o : ℕ) → Begins (J.objects o) (K.objects o)

-- ---- what is seen

-- the journals as they were seen, and the own places in each
pub record Seen : Type 0 where
  pub journals : Journals
  pub own : Cell → List ℕ

-- whether the two are one cell
abbrev pub is_cell : Cell → Cell → Bool
is_cell (OfShard s) (OfShard t) = s == t
is_cell (OfObject o) (OfObject p) = o == p
is_cell (OfShard s) (OfObject p) = false
is_cell (OfObject o) (OfShard t) = false

-- the number of a place, where it is in the cell
abbrev pub number_in : Cell → Place → Option ℕ
number_in cell p = if is_cell cell p.cell then Some p.number else None

-- the numbers of those places that are in the cell
abbrev pub numbers_in : Cell → List Place → List ℕ
numbers_in cell places = filter_map (number_in cell) places

-- an earlier own place of a cell stands before a later one
abbrev pub IsAfter : Place → Place → Type 0
IsAfter p q = p.cell ≡ q.cell → p.number < q.number

-- The journals went on, and these places are new own ones: they are after what was seen, ascend in
-- each cell, and are all that came to a cell that nobody else steps.
pub record GoesOn (alone : Cell → Bool) (old new : Seen) (places : List Place) : Type 0 where
  pub goes_on : Extends old.journals new.journals
  -- the new places are own ones of their cells, after those before
  pub owned : (cell : Cell) → new.own cell ≡ old.own cell ++ numbers_in cell places
  -- each is after what was seen of its cell
  pub new_places : All (λ (p : Place). entries_in old.journals p.cell ≤ p.number) places
  -- and within the journal of its cell as it is now
  pub there : All (λ (p : Place). p.number < entries_in new.journals p.cell) places
  pub ascending : AllPairs IsAfter places
  -- where nobody else steps a cell, all its new entries are own ones
  pub undisturbed : (cell : Cell) → alone cell ≡ true →
      entries_in new.journals cell ≡ entries_in old.journals cell + length (numbers_in cell places)

-- ---- what is seen of each sort

-- the cells of one sort, by their numbers: the journal of each as it was seen, and the own places in
-- it
pub record Viewed (E : Type 0) : Type 0 where
  pub seen : ℕ → List E
  pub own : ℕ → List ℕ

-- the cells of one sort, by these
abbrev pub viewed : {E : Type 0} → (ℕ → List E) → (ℕ → List ℕ) → Viewed E
viewed seen own = record { seen = seen; own = own }

-- the shards, as they are shown
abbrev pub shards_in : ShardsSeen → Viewed Entry
shards_in s = viewed s.seen s.own

-- the objects, as they are shown
abbrev pub objects_in : ShelfSeen → Viewed ObjectEntry
objects_in h = viewed h.seen h.own

-- the own places in a cell, by those in each shard and in each object
abbrev pub own_of : Viewed Entry → Viewed ObjectEntry → Cell → List ℕ
own_of shards objects (OfShard s) = shards.own s
own_of shards objects (OfObject o) = objects.own o

-- what was seen, by what was seen of the shards and of the objects
abbrev pub seen_of : Viewed Entry → Viewed ObjectEntry → Seen
seen_of shards objects = record {
  journals = record { shards = shards.seen; objects = objects.seen };
  own = own_of shards objects;
}

-- the same, as they are shown
abbrev pub seen_by : ShardsSeen → ShelfSeen → Seen
seen_by s h = seen_of (shards_in s) (objects_in h)

-- the cells of a node, as they are shown
pub record CellsSeen : Type 0 where
  pub shards : ShardsSeen
  pub shelf : ShelfSeen

-- the cells, of these
abbrev pub both_cells : ShardsSeen → ShelfSeen → CellsSeen
both_cells shards shelf = record { shards = shards; shelf = shelf }

-- the journals that were seen of them are legal
abbrev pub AreLegalCells : CellsSeen → Type 0
AreLegalCells c = AreLegalIn c.shards.plans c.shelf.objects (seen_by c.shards c.shelf).journals

-- what the shards are opened with stayed, and whether nobody else steps them
pub record ShardsStay (before after : ShardsSeen) : Type 0 where
  pub plans : after.plans ≡ before.plans
  pub alone : after.alone ≡ before.alone

-- the same of all cells; and no object is taken
pub record CellsStay (before after : CellsSeen) : Type 0 where
  pub plans : after.shards.plans ≡ before.shards.plans
  pub alone : after.shards.alone ≡ before.shards.alone
  pub objects : after.shelf.objects ≡ before.shelf.objects
  pub others_take : after.shelf.alone ≡ before.shelf.alone
  pub taken : after.shelf.taken ≡ None

-- which cells nobody else steps: the shards, or the objects
abbrev pub alone_of : Bool → Bool → Cell → Bool
alone_of shards objects (OfShard s) = shards
alone_of shards objects (OfObject o) = objects

-- what was seen of the shards went on by these places; the objects are as they were, whatever was
-- seen of them
abbrev pub ShardsGoOn : Bool → (old new : Viewed Entry) → List Place → Type 0
ShardsGoOn alone old new places =
    (others : Bool) (objects : Viewed ObjectEntry) →
    GoesOn (alone_of alone others) (seen_of old objects) (seen_of new objects) places
