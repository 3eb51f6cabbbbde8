-- What a sink in memory is seen as, and what a write puts into it.
use Rattle.std.specs.Prelude.{◌≡◌, ◌⊎◌, ℕ, ◌-◌, ◌<◌, min, List, ◌++◌, length, take, true, false, Result, Ok, Err}
use Rattle.frame_link.specs.Plan.{Plan, fails_now, passed, failed}

-- what was written, and how much room there is for it
pub record Store : Type 0 where
  pub written : List ℕ
  pub room : ℕ
  pub plan : Plan

-- how many bytes may still be written
abbrev pub room_left : Store → ℕ
room_left store = store.room - length store.written

-- no room is left for bytes that are to be written
abbrev pub IsFullFor : Store → List ℕ → Type 0
IsFullFor store piece = (0 < length piece) × (room_left store ≡ 0)

-- what a write of a piece answers, and what it leaves
abbrev pub Stores : {E : Type 0} → Store → Store → List ℕ → Result ℕ E → Type 0
Stores old new piece (Ok n) =
    (fails_now old.plan ≡ false)
    × (n ≡ min (length piece) (room_left old))
    × (new ≡ record {
      written = old.written ++ take n piece;
      room = old.room;
      plan = passed old.plan;
    })
Stores old new piece (Err e) =
    ((fails_now old.plan ≡ true) ⊎ IsFullFor old piece)
    × (new ≡ record old { plan = failed old.plan })
