-- What a door in memory is seen as, and how connections go through it.
use Rattle.std.specs.Prelude.{◌≡◌, ℕ, ◌+◌, ◌<◌, ◌≤◌, List, [], ◌∷◌, ◌++◌, length, true, false, Option, None, Some, Result, Ok, Err}
use Rattle.frame_link.specs.Doors.{DoorSeen, door_of}
use Rattle.frame_link.specs.Plan.{Plan, fails_now, passed, failed}

-- the connections that are left, how many were given, and those that were given back
pub record Hall (X : Type 0) : Type 0 where
  pub left : List X
  pub given : ℕ
  pub back : List X
  pub plan : Plan

-- what such a door shows
abbrev pub shown_hall : {X : Type 0} → Hall X → DoorSeen X
shown_hall h = door_of (Some h.left) (Some h.back) h.given h.plan.faults

-- what a call for the next connection answers, and what it leaves
abbrev pub Admits : {X E : Type 0} → Hall X → Hall X → Result (Option X) E → Type 0
Admits old new (Ok (Some x)) =
    (fails_now old.plan ≡ false)
    × (old.left ≡ x ∷ new.left)
    × (new ≡ record {
      left = new.left;
      given = old.given + 1;
      back = old.back;
      plan = passed old.plan;
    })
Admits old new (Ok None) =
    (fails_now old.plan ≡ false)
    × (old.left ≡ [])
    × (new ≡ record old { plan = passed old.plan })
Admits old new (Err e) = (fails_now old.plan ≡ true) × (new ≡ record old { plan = failed old.plan })

-- one that is given back is kept after the others, where fewer came back than were given, else it
-- is dropped
pub record KeepsBack {X : Type 0} (old new : Hall X) (x : X) : Type 0 where
  pub kept : length old.back < old.given → new ≡ record old { back = old.back ++ x ∷ [] }
  pub dropped : old.given ≤ length old.back → new ≡ old
