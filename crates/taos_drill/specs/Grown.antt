-- A sink that grows as it is written.
use Rattle.std.specs.Prelude.{◌≡◌, ℕ, List, ◌++◌, length, Result, Ok, Err}
use Rattle.frame_link.specs.Plan.{counted}

-- what was written, and how often memory was refused
pub record Grown : Type 0 where
  pub written : List ℕ
  pub faults : ℕ

-- a write appends the whole piece; where memory is refused it appends nothing, and is a fault
abbrev pub Grows : {E : Type 0} → Grown → Grown → List ℕ → Result ℕ E → Type 0
Grows old new piece (Ok n) =
    (n ≡ length piece) × (new ≡ record old { written = old.written ++ piece })
Grows old new piece (Err e) = new ≡ record old { faults = counted old.faults }
