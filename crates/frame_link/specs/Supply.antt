-- What a source in memory is seen as, and what a read takes from it.
use Rattle.std.specs.Prelude.{◌≡◌, ℕ, min, List, [], ◌∷◌, length, drop, true, false, Result, Ok, Err}
use Rattle.frame_link.specs.Plan.{Plan, fails_now, passed, failed}

-- the bytes that are left, and how many the next reads take at most, in order
pub record Supply : Type 0 where
  pub left : List ℕ
  pub chunks : List ℕ
  pub plan : Plan

-- at most the next chunk; after the last one only the room bounds
abbrev pub most_of : List ℕ → ℕ → ℕ
most_of [] room = room
most_of (chunk ∷ chunks) room = min room chunk

-- how many bytes a read into this room takes
abbrev pub count_of : Supply → ℕ → ℕ
count_of supply room = min (most_of supply.chunks room) (length supply.left)

-- what a read into this room answers, and what it leaves
abbrev pub Supplies : {E : Type 0} → Supply → Supply → ℕ → Result ℕ E → Type 0
Supplies old new room (Ok n) =
    (fails_now old.plan ≡ false)
    × (n ≡ count_of old room)
    × (new ≡ record { left = drop n old.left; chunks = drop 1 old.chunks; plan = passed old.plan })
Supplies old new room (Err e) =
    (fails_now old.plan ≡ true) × (new ≡ record old { plan = failed old.plan })
