-- The connections that a lane's door gave and took back, by what the door tells.
use Rattle.std.specs.Prelude.{◌≡◌, ◌⊎◌, ℕ, ◌≤◌, List, [], ◌∷◌, ◌++◌, length, Option, None, Some, ⊤}
use Rattle.frame_link.specs.Doors.{DoorSeen, OpensKnown, Counts, TakesBackKnown}
use Rattle.frame_link.specs.declared.outcome.Outcome.{Outcome}
use Rattle.frame_link.specs.Plan.{HasCounted}
use Rattle.frame_link.specs.Served.{Line}
use Rattle.taos_lanes.specs.Telling.{Telling}
use Rattle.taos_lanes.specs.Visits.{VisitBy}

-- of the connections that were left, where that is told, these were given, in order
abbrev pub GaveKnown : {X : Type 0} → (before after : Option (List X)) → List X → Type 0
GaveKnown None after given = ⊤
GaveKnown (Some xs) None given = ⊥
GaveKnown (Some xs) (Some ys) given = xs ≡ given ++ ys

-- these were put behind those that had been given back, in order
abbrev pub TookKnown : {X : Type 0} → (before after : Option (List X)) → List X → Type 0
TookKnown None after kept = ⊤
TookKnown (Some xs) None kept = ⊥
TookKnown (Some xs) (Some ys) kept = ys ≡ xs ++ kept

-- none is left, where it was told at first what was
abbrev pub IsNoneLeft : {X : Type 0} → (before after : Option (List X)) → Type 0
IsNoneLeft None after = ⊤
IsNoneLeft (Some xs) None = ⊥
IsNoneLeft (Some xs) (Some ys) = ys ≡ []

-- not more are told to have been given back than were given
abbrev pub AreFew : {X : Type 0} → Option (List X) → ℕ → Type 0
AreFew None given = ⊤
AreFew (Some xs) given = length xs ≤ given

-- it is told
abbrev pub IsTold : {X : Type 0} → Option (List X) → Type 0
IsTold None = ⊥
IsTold (Some xs) = ⊤

-- the door tells what it has left and what it was given back, which is not more than it gave
pub record IsOrderly {X : Type 0} (door : DoorSeen X) : Type 0 where
  pub left : IsTold door.left
  pub back : IsTold door.back
  pub few : AreFew door.back door.given

module _ {In Out S : Type 0} (telling : Telling In Out) {Serves : Line S → Line S → Outcome → Type 0}
    {limit : ℕ} where
  -- what the connection came from and came to are the two ends as they were given and given back
  pub record IsVisitOf (given kept : In × Out) (v : VisitBy Serves limit) : Type 0 where
    pub input : v.before.input ≡ telling.input given.0
    pub output : v.before.output ≡ telling.output given.1
    pub input_after : v.after.input ≡ telling.input kept.0
    pub output_after : v.after.output ≡ telling.output kept.1

  -- these are the connections of what was given and given back, in order
  abbrev pub AreVisits : (given kept : List (In × Out)) → List (VisitBy Serves limit) → Type 0
  AreVisits [] [] [] = ⊤
  AreVisits (g ∷ given) (k ∷ kept) (v ∷ visits) = IsVisitOf g k v × AreVisits given kept visits
  AreVisits given kept visits = ⊥

  -- each connection that the door gave was served and given back, in order
  pub record Through (before after : DoorSeen (In × Out)) (visits : List (VisitBy Serves limit)) :
      Type 0 where
    pub given : List (In × Out)
    pub kept : List (In × Out)
    pub gave : GaveKnown before.left after.left given
    -- each was counted, whether or not the door tells what it has left
    pub count : HasCounted (length visits) before.given after.given
    -- where the door is orderly it tells those behind the ones that it had taken back
    pub took : IsOrderly before → TookKnown before.back after.back kept × IsOrderly after
    pub are : AreVisits given kept visits

  -- the lane served so many connections, or all that its door had left where these are fewer, or
  -- the door failed
  pub record GoesThrough (most : ℕ) (before after : DoorSeen (In × Out)) (failed : Type 0)
      (visits : List (VisitBy Serves limit)) : Type 0 where
    pub through : Through before after visits
    pub few : length visits ≤ most
    pub whole : (length visits ≡ most) ⊎ (IsNoneLeft before.left after.left ⊎ failed)

-- one connection more
abbrev pub ThroughGoesOn : {In Out S : Type 0} → Telling In Out →
    (Line S → Line S → Outcome → Type 0) → ℕ → Type 0
ThroughGoesOn {In} {Out} telling Serves limit =
    (before middle after : DoorSeen (In × Out))
    (visits : List (VisitBy Serves limit)) (g k : In × Out) (v : VisitBy Serves limit) →
    Through telling before middle visits →
    OpensKnown middle.left after.left (Some g) →
    Counts middle.left middle.given after.given (Some g) →
    TakesBackKnown middle.back after.back after.given k →
    IsVisitOf telling g k v →
    Through telling before after (visits ++ v ∷ [])
