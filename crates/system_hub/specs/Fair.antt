-- A turn is fair: no client comes twice to a lane while another one waits there for its turn.
use Rattle.std.specs.Prelude.{◌≡◌, ℕ, ◌+◌, ◌<◌, ◌≤◌, List, [], ◌∷◌, ◌++◌, length}
use Rattle.frame_link.specs.Frames.{framed}
use Rattle.frame_link.specs.declared.service.TheConstants.{MAX_PAYLOAD}
use Rattle.system_hub.specs.Events.{Event}
use Rattle.system_hub.specs.Accounts.{Account, account_of, IsSound, lane_by}
use Rattle.system_hub.specs.Lanes.{turns_of}
use Rattle.system_hub.specs.declared.machine.limits.TheConstants.{MAX_UNDER_WAY, MAX_READY}

-- The client waits for the lane: its next frame has come whole, and nothing hinders that it is
-- taken. Few of its frames have no reply yet, and few bytes are left to write.
pub record Waits (place lanes lane : ℕ) (a : Account) : Type 0 where
  pub sound : IsSound a
  pub next : List ℕ
  pub rest : List ℕ
  pub whole : a.received ≡ framed (a.taken ++ next ∷ []) ++ rest
  pub short : length next ≤ MAX_PAYLOAD
  pub its_lane : lane_by place lanes (a.taken ++ next ∷ []) ≡ lane
  pub few : length a.taken < length a.replies + MAX_UNDER_WAY
  pub listens : length (framed a.replies) ≤ length a.written + MAX_READY

-- the client waits at each moment of a stretch, and has no turn in it
pub record WaitsThrough (place lanes lane client : ℕ) (before during : List Event) : Type 0 where
  pub each : (first later : List Event) → during ≡ first ++ later →
      Waits place lanes lane (account_of client (before ++ first))
  pub no_turn : turns_of client lane during ≡ 0

-- in a stretch that ends now, and in which a client waits, each other one has one turn at most
abbrev pub IsFairNow : (place lanes : ℕ) → List Event → Type 0
IsFairNow place lanes events = (before during : List Event) (lane client other : ℕ) →
    events ≡ before ++ during →
    WaitsThrough place lanes lane client before during →
    turns_of other lane during ≤ 1
