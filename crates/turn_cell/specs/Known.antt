-- What contracts see of a cell, a pass and a held value.
use Rattle.std.specs.Prelude.{◌≡◌, ℕ, List, length, Option, Some}
use Rattle.atomic_table.specs.Seated.{TableId}

-- which cell it is, and the fixed data and the journal of the value that it was made with
pub record Cell (F E : Type 0) : Type 0 where
  pub id : TableId
  pub fixed : F
  pub opening : List E

-- a pass: `start` is the length of the opening journal, `own` the places of entries added with it
pub record Known (F E : Type 0) : Type 0 where
  pub cell : TableId
  pub fixed : Option F
  pub start : ℕ
  pub shares : ℕ
  pub seen : List E
  pub own : List ℕ

-- a pass that has entered: in place of what was seen, the journal of the value as it was entered
pub record Entered (F E : Type 0) : Type 0 where
  pub cell : TableId
  pub fixed : Option F
  pub start : ℕ
  pub shares : ℕ
  pub entered : List E
  pub own : List ℕ

module _ {F E : Type 0} where
  -- the pass is of this cell
  abbrev pub IsPassOf : Cell F E → Known F E → Type 0
  IsPassOf cell pass = (pass.cell ≡ cell.id)
      × (pass.fixed ≡ Some cell.fixed)
      × (pass.start ≡ length cell.opening)

  -- the held value is of this cell
  abbrev pub IsHeldOf : Cell F E → Entered F E → Type 0
  IsHeldOf cell held = (held.cell ≡ cell.id)
      × (held.fixed ≡ Some cell.fixed)
      × (held.start ≡ length cell.opening)
