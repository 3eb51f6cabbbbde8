-- What taking a line does, as the program tells it.
use Rattle.std.specs.Prelude.{◌≡◌, ◌⊎◌, ℕ, Bool, false, if◌then◌else◌}
use Rattle.std.specs.Prelude.{Option, None, Some, Result, Ok, Err}
use Rattle.prin_text.specs.declared.fault.NamesFault.{NamesFault}
use Rattle.prin_text.specs.declared.fault.NamesFault.TheVariants as texts
use Rattle.prin_text.specs.declared.lines.fault.FileCause.{FileCause}
use Rattle.prin_text.specs.declared.lines.fault.FileCause.TheVariants.{Text, Twice, Limit}
use Rattle.prin_text.specs.declared.lines.fault.FileFault.{FileFault}
use Rattle.prin_text.specs.declared.lines.fault.FileFault.TheVariants.{Line, NoMemory}
use Rattle.prin_text.specs.declared.lines.line_fault.LineFault.{LineFault}
use Rattle.prin_text.specs.declared.lines.line_fault.LineFault.TheVariants as lines

-- why the line of a text is refused
abbrev pub fault_of : NamesFault → LineFault
fault_of texts.BadText = lines.Refused Text
fault_of texts.Twice = lines.Refused Twice
fault_of (texts.Full held) = lines.Refused Limit
fault_of texts.NoMemory = lines.NoMemory

-- the fault of a line, as a file's
abbrev pub fault_at : ℕ → LineFault → FileFault
fault_at line (lines.Refused cause) = Line line cause
fault_at line lines.NoMemory = NoMemory

-- a line was taken: what stands there after it is what should, or its cause is told, or memory
-- ran out
abbrev pub TakesLine : {X A : Type 0} → (X → A → Type 0) → Result Unit LineFault → X →
    Result A FileCause → Type 0
TakesLine {X} {A} Stands (Ok u) new want = (more : A) × (want ≡ Ok more) × Stands new more
TakesLine Stands (Err lines.NoMemory) new want = Unit {0}
TakesLine Stands (Err (lines.Refused cause)) new want = want ≡ Err cause

-- what was read stands for what the file means, unless memory ran out
abbrev pub IsReadFor : {X A : Type 0} → (X → A → Type 0) → Result X FileFault → Result A FileFault →
    Type 0
IsReadFor {X} {A} Stands (Ok x) want = (a : A) × (want ≡ Ok a) × Stands x a
IsReadFor Stands (Err e) want = (e ≡ NoMemory) ⊎ (want ≡ Err e)

-- what was read of a line is what it says, seen by a view, or its cause is told, or memory ran out
abbrev pub GivesLine : {X A : Type 0} → (X → A) → Result X LineFault → Result A FileCause → Type 0
GivesLine view (Ok x) want = want ≡ Ok (view x)
GivesLine view (Err lines.NoMemory) want = Unit {0}
GivesLine view (Err (lines.Refused cause)) want = want ≡ Err cause

-- the same, where it stands for what it should
abbrev pub IsSaidFor : {X A : Type 0} → (X → A → Type 0) → Result X LineFault
    → Result A FileCause → Type 0
IsSaidFor {X} {A} Stands (Ok x) want = (a : A) × (want ≡ Ok a) × Stands x a
IsSaidFor Stands (Err lines.NoMemory) want = Unit {0}
IsSaidFor Stands (Err (lines.Refused cause)) want = want ≡ Err cause

-- what the program has stands for what the lines make, of which the first is there, or is not: then
-- it has nothing
pub record SoFar {X A : Type 0} (Stands : X → A → Type 0) (nothing : A) (begun : Bool) (x : X)
    (so_far : Option A) : Type 0 where
  pub made : A
  pub stands : Stands x made
  pub is : so_far ≡ (if begun then Some made else None)
  pub empty : begun ≡ false → made ≡ nothing
