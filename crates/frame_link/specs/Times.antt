-- What a clock in memory is seen as, and what a call of it shows.
use Rattle.std.specs.Prelude.{◌≡◌, ℕ, List, true, false, Result, Ok, Err}
use Rattle.frame_link.specs.Plan.{Plan, fails_now, passed, failed}
use Rattle.frame_link.specs.Readings.{Shows}

-- the readings that are left, of which the last repeats
pub record Times : Type 0 where
  pub readings : List ℕ
  pub plan : Plan

-- what a call answers, and what it leaves
abbrev pub TellsTime : {E : Type 0} → Times → Times → Result ℕ E → Type 0
TellsTime old new (Ok now) =
    (fails_now old.plan ≡ false)
    × Shows old.readings new.readings now
    × (new.plan ≡ passed old.plan)
TellsTime old new (Err e) = (fails_now old.plan ≡ true) × (new ≡ record old { plan = failed old.plan })
