-- When a reading of the clock is believed.
use Rattle.std.specs.Prelude.{ℕ, ◌+◌, ◌-◌, ◌^◌, ◌≡◌, ◌≤◌, ◌⊎◌, min}

-- how far a reading of so many seconds is ahead, when so many have passed by the clock that never
-- goes back: counted from 2 ^ 62, so that one that is behind has a lead too, and 2 ^ 64 - 1 of what is
-- read at most
abbrev pub lead_of : ℕ → ℕ → ℕ
lead_of passed seconds = min (seconds + 2 ^ 62) (2 ^ 64 - 1) - passed

-- such a reading is ahead of a lead by a day at most; the first one, which has none to be held
-- against, is believed
abbrev pub IsBelieved : ℕ → ℕ → ℕ → Type 0
IsBelieved held passed seconds = (held ≡ 0) ⊎ (lead_of passed seconds - held ≤ 86_400)
