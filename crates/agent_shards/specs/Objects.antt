-- Objects in cells, and a seat at them.
use Rattle.std.specs.Prelude.{◌≡◌, ℕ, ◌<◌, ◌≤◌, ◌==◌, false, List, [], ◌∷◌, ◌++◌, length, map, Option, None, Some, slice_get, slice_set, vec_capacity, vec_len}
use Rattle.std.specs.declared.alloc.Global.{Global}
use Rattle.std.specs.declared.vec.Vec.{Vec}
use Rattle.std.specs.List.{AllZip, position_or_len, remove}
use Rattle.object_core.specs.Objects.{ObjectEntry, ObjectSeen}
use Rattle.object_core.specs.Shelving.{ObjectFixed, ShelfSeen, fixed_of, numbers_of}
use Rattle.turn_cell.specs.Journal.{Grows}
use Rattle.turn_cell.specs.Known.{Cell, Known, IsHeldOf, IsPassOf}
use Rattle.agent_shards.specs.declared.taking.Out.{Out}
use Rattle.agent_shards.specs.Cells.{IsClosed, IsOpened}
use Rattle.agent_shards.specs.Each.{Each3}
use Rattle.agent_shards.specs.Room.{HasRoom}

-- the cell of an object
abbrev pub ObjectCell : Type 0
ObjectCell = Cell ObjectFixed ObjectEntry

-- a pass of such a cell
abbrev pub KnownObject : Type 0
KnownObject = Known ObjectFixed ObjectEntry

-- what never changes of the objects, in order
abbrev pub fixed_in : List ObjectCell → List ObjectFixed
fixed_in cells = map (λ (c : ObjectCell). c.fixed) cells

-- the pass is of the cell, and what it has seen is within the object's limit
pub record IsObjectPass (cell : ObjectCell) (pass : KnownObject) : Type 0 where
  pub of_cell : IsPassOf cell pass
  pub within : length pass.seen ≤ cell.fixed.limit

-- there is a pass of each object, and no other
abbrev pub AreObjectPasses : List ObjectCell → List KnownObject → Type 0
AreObjectPasses cells passes = AllZip IsObjectPass cells passes

-- ---- the beginning and the end

-- a new cell of the object, and its first pass
pub record IsObjectOpened (object : ObjectSeen) (cell : ObjectCell) (pass : KnownObject) :
    Type 0 where
  pub opened : IsOpened (fixed_of object) object.journal cell pass
  pub within : length object.journal ≤ object.limit

-- new cells of the objects, in order, and their first passes
abbrev pub AreObjectsOpened : List ObjectSeen → List ObjectCell → List KnownObject → Type 0
AreObjectsOpened objects cells passes = Each3 IsObjectOpened objects cells passes

-- the object that the closed cell gives, of its last pass
abbrev pub IsObjectClosed : ObjectCell → KnownObject → ObjectSeen → Type 0
IsObjectClosed cell pass object = IsClosed cell pass (fixed_of object) object.journal

-- the objects that closed cells give, in order, of their last passes
abbrev pub AreObjectsClosed : List ObjectCell → List KnownObject → List ObjectSeen → Type 0
AreObjectsClosed cells passes objects = Each3 IsObjectClosed cells passes objects

-- ---- a seat

-- a seat at objects, as contracts see it
pub record RackSeen : Type 0 where
  pub cells : List ObjectCell
  -- the passes that sit there, in order; that of the object that is taken as it was before
  pub passes : List KnownObject
  -- the object that is taken, as it was then
  pub taken : Option ObjectSeen

-- the place of the first object of the number; where there is none, how many there are
abbrev pub place_among : List ObjectCell → ℕ → ℕ
place_among cells number = position_or_len (λ n. n == number) (numbers_of (fixed_in cells))

-- what a pass has seen, or nothing where there is none
abbrev pub journal_by : Option KnownObject → List ObjectEntry
journal_by None = []
journal_by (Some p) = p.seen

-- the own places of a pass, or none where there is none
abbrev pub places_by : Option KnownObject → List ℕ
places_by None = []
places_by (Some p) = p.own

-- what was seen of the object of this number
abbrev pub seen_on : RackSeen → ℕ → List ObjectEntry
seen_on s number = journal_by (slice_get s.passes (place_among s.cells number))

-- the own places in it
abbrev pub own_on : RackSeen → ℕ → List ℕ
own_on s number = places_by (slice_get s.passes (place_among s.cells number))

-- what is shown at a seat: others may take the objects too
abbrev pub rack_seen : RackSeen → ShelfSeen
rack_seen s = record {
  objects = fixed_in s.cells;
  alone = false;
  seen = λ number. seen_on s number;
  own = λ number. own_on s number;
  taken = s.taken;
}

-- ---- what is kept while an object is taken

-- the passes as contracts see them: while an object is taken, as they were before
abbrev pub passes_told : Option Out → List KnownObject → List KnownObject
passes_told None now = now
passes_told (Some out) now = out.passes.value.items

-- the object that is taken, as it was then
abbrev pub taken_as : Option Out → Option ObjectSeen
taken_as None = None
taken_as (Some out) = Some out.object.value

-- the object is out of the cell, and its pass out of the row `now`
pub record IsOutOf (cell : ObjectCell) (now : Vec KnownObject Global) (out : Out) : Type 0 where
  -- its pass, as it was before
  pub pass : KnownObject
  pub its_pass : slice_get out.passes.value.items out.place ≡ Some pass
  pub removed : now.items ≡ remove out.passes.value.items out.place
  pub room : vec_len now < vec_capacity now
  pub of_cell : IsHeldOf cell out.held
  pub entered : out.held.entered ≡ out.object.value.journal
  pub own : out.held.own ≡ pass.own
  pub shares : out.held.shares ≡ pass.shares
  pub its_fixed : fixed_of out.object.value ≡ cell.fixed
  pub grows : Grows HasRoom cell.fixed pass.seen out.object.value.journal

-- the pass of an object before it was taken, and after it was given back
pub record IsGiven (cell : ObjectCell) (was : ObjectSeen) (p q : KnownObject) (o : ObjectSeen) :
    Type 0 where
  pub pass : IsObjectPass cell q
  pub seen : q.seen ≡ o.journal
  pub kept : o.journal ≡ was.journal → q.own ≡ p.own
  pub added : (e : ObjectEntry) → o.journal ≡ was.journal ++ e ∷ [] →
      q.own ≡ p.own ++ length was.journal ∷ []
  pub shares : q.shares ≡ p.shares

-- the object that was out is put back: its pass stands in its place, and the others as they were
pub record IsPutBack (cell : ObjectCell) (out : Out) (object : ObjectSeen)
    (now : Vec KnownObject Global) : Type 0 where
  -- its pass, as it was before the object was taken
  pub was : KnownObject
  pub its_pass : slice_get out.passes.value.items out.place ≡ Some was
  -- its pass, as it is now
  pub pass : KnownObject
  pub put : now.items ≡ slice_set out.passes.value.items out.place pass
  pub given : IsGiven cell out.object.value was pass object

-- the object at the place of `out` is out of its cell, and is found by its number
pub record IsOutAt (cells : List ObjectCell) (now : Vec KnownObject Global) (out : Out) :
    Type 0 where
  pub cell : ObjectCell
  pub its_cell : slice_get cells out.place ≡ Some cell
  pub found : place_among cells cell.fixed.plan.number ≡ out.place
  pub is : IsOutOf cell now out

-- where an object is out, it is so
abbrev pub MayBeOut : List ObjectCell → Vec KnownObject Global → Option Out → Type 0
MayBeOut cells now None = Unit {0}
MayBeOut cells now (Some out) = IsOutAt cells now out
