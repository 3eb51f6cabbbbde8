-- Objects that nobody else takes.
use Rattle.std.specs.Prelude.{◌≡◌, ℕ, ◌-◌, ◌<◌, ◌≤◌, ◌==◌, true, List, [], length, map, Option, None, Some, IsSome, slice_get, slice_set, All}
use Rattle.std.specs.List.{position_or_len, range_with_len}
use Rattle.object_core.specs.declared.rows.Row.{Row}
use Rattle.object_core.specs.declared.taken.Taken.{Taken}
use Rattle.object_core.specs.Objects.{ObjectEntry, ObjectSeen}
use Rattle.object_core.specs.Numbered.{AreRowsOf, AreAscending}
use Rattle.object_core.specs.Shelving.{ObjectFixed, ShelfSeen, fixed_of, numbers_of, HaveOwnNumbers}

-- objects of one owner, as contracts see them
pub record LoneShelfSeen : Type 0 where
  -- in order; the one that is taken as it was then
  pub objects : List ObjectSeen
  -- how long each journal was at first
  pub opened : List ℕ
  -- the place of the object that is taken
  pub taken : Option ℕ

-- what never changes of each object
abbrev pub fixed_on : LoneShelfSeen → List ObjectFixed
fixed_on l = map fixed_of l.objects

-- the place of the first object of the number; where there is none, how many there are
abbrev pub place_on : LoneShelfSeen → ℕ → ℕ
place_on l number = position_or_len (λ n. n == number) (numbers_of (fixed_on l))

-- the journal of an object, or no entries where there is none
abbrev pub journal_of : Option ObjectSeen → List ObjectEntry
journal_of None = []
journal_of (Some o) = o.journal

-- the journal of the object of this number, or no entries where there is none
abbrev pub seen_on : LoneShelfSeen → ℕ → List ObjectEntry
seen_on l number = journal_of (slice_get l.objects (place_on l number))

-- the places of a journal of so many entries, from one on
abbrev pub places_from : Option ℕ → ℕ → List ℕ
places_from None count = []
places_from (Some first) count = range_with_len first (count - first)

-- the places that were added to its journal since the shelf was made
abbrev pub own_on : LoneShelfSeen → ℕ → List ℕ
own_on l number = places_from (slice_get l.opened (place_on l number)) (length (seen_on l number))

-- the object at a place, where there is such a place
abbrev pub object_there : List ObjectSeen → Option ℕ → Option ObjectSeen
object_there objects None = None
object_there objects (Some place) = slice_get objects place

-- the object that is taken, as it was then
abbrev pub taken_from : LoneShelfSeen → Option ObjectSeen
taken_from l = object_there l.objects l.taken

-- what is shown of them: nobody else takes them
abbrev pub shelf_seen : LoneShelfSeen → ShelfSeen
shelf_seen l = record {
  objects = fixed_on l;
  alone = true;
  seen = λ number. seen_on l number;
  own = λ number. own_on l number;
  taken = taken_from l;
}

-- ---- what is kept

-- the objects, where one may be taken: it stands as it was then
abbrev pub as_taken : List ObjectSeen → Option Taken → List ObjectSeen
as_taken objects None = objects
as_taken objects (Some t) = slice_set objects t.place t.object.value

-- the place of the object that is taken
abbrev pub place_taken : Option Taken → Option ℕ
place_taken None = None
place_taken (Some t) = Some t.place

-- the journal is within its limit
abbrev pub FitsLimit : ObjectSeen → Type 0
FitsLimit o = length o.journal ≤ o.limit

-- what is true of objects with numbers of their own, and of how long their journals were at first
pub record IsLoneShelf (objects : List ObjectSeen) (opened : List ℕ) (rows : List Row) :
    Type 0 where
  pub numbers : HaveOwnNumbers (map fixed_of objects)
  pub counted : length opened ≡ length objects
  -- no journal is shorter than it was at first
  pub longer : (place first : ℕ) (o : ObjectSeen) → slice_get opened place ≡ Some first →
      slice_get objects place ≡ Some o → first ≤ length o.journal
  pub within : All FitsLimit objects
  -- each is found by its number
  pub listed : AreRowsOf (numbers_of (map fixed_of objects)) rows
  pub ascending : AreAscending rows

-- an object stands in for the one that is taken, or is ready to
abbrev pub HasStandIn : List ObjectSeen → Option Taken → Option ObjectSeen → Type 0
HasStandIn objects None stand_in = IsSome stand_in
HasStandIn objects (Some t) stand_in = t.place < length objects
