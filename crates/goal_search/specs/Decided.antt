-- What rows decide, and what stays of them when certificates are added.
use Rattle.std.specs.Prelude.{◌≡◌, ◌↔◌, ◌⊎◌, ℕ, List, Some, slice_get, Contains}
use Rattle.prin_term.specs.declared.term.Anchor.{Anchor}
use Rattle.prin_term.specs.Principal.{Principal}
use Rattle.taos_calculus.specs.Rules.{Claim}
use Rattle.goal_search.specs.Goals.{Goal, IsAnswer, Begins, IsSound}
use Rattle.goal_search.specs.Rows.{Refuses, AreTargets, IsFinished}
use Rattle.goal_search.specs.Demands.{Demands, IsClosed}
use Rattle.goal_search.specs.Adding.{Adds}

-- each of these rows is finished beside the others, as far as the table goes
abbrev pub AreFinished : List Anchor → List Claim → List Principal → List (List Principal) → Type 0
AreFinished anchors claims table rows =
    (row : List Principal) → Contains rows row →
    IsFinished (Contains table) anchors claims (Contains rows) Contains row

-- a row among finished ones that begins with the goal and is sound has exactly the goal's answers,
-- as far as the table goes
abbrev pub RowsDecide : List Anchor → List Claim →
    List Principal → List (List Principal) → Type 0
RowsDecide anchors claims table rows =
    AreTargets (Contains table) claims (Contains rows) Contains →
    AreFinished anchors claims table rows →
    (row : List Principal) (goal : Goal Principal) → Contains rows row →
    Begins Contains claims goal row → IsSound anchors claims goal (Contains row) →
    (p : Principal) → Contains table p → IsAnswer anchors claims goal p ↔ Contains row p

-- what finished rows refuse is no answer; no row need be sound
abbrev pub RowsRefute : List Anchor → List Claim →
    List Principal → List (List Principal) → Type 0
RowsRefute anchors claims table rows =
    AreTargets (Contains table) claims (Contains rows) Contains →
    AreFinished anchors claims table rows →
    (goal : Goal Principal) (p : Principal) → Contains table p →
    Refuses (Contains rows) Contains claims goal p → IsAnswer anchors claims goal p → ⊥

-- p is in the goal's row
abbrev pub IsInRow : (Goal Principal → List Principal) → Goal Principal → Principal → Type 0
IsInRow row goal p = Contains (row goal) p

-- where each asked row is closed and sound, and what it demands is asked, it has exactly the goal's
-- answers, as far as the table goes
abbrev pub AskedDecide : List Anchor → List Claim →
    List Principal → List (Goal Principal) → (Goal Principal → List Principal) → Type 0
AskedDecide anchors claims table asked row =
    AreTargets (Contains table) claims (Contains asked) (IsInRow row) →
    ((goal more : Goal Principal) → Contains asked goal →
    Demands (IsInRow row goal) claims more → Contains asked more) →
    ((goal : Goal Principal) → Contains asked goal →
    IsClosed (Contains table) anchors claims (IsInRow row) goal) →
    ((goal : Goal Principal) → Contains asked goal →
    IsSound anchors claims goal (IsInRow row goal)) →
    (goal : Goal Principal) → Contains asked goal →
    (p : Principal) → Contains table p → IsAnswer anchors claims goal p ↔ IsInRow row goal p

-- what may be added to sound rows is an answer
abbrev pub AddingKeepsSound : List Anchor → List Claim →
    (Goal Principal → List Principal) → Type 0
AddingKeepsSound anchors claims row =
    ((goal : Goal Principal) → IsSound anchors claims goal (IsInRow row goal)) →
    (goal : Goal Principal) (p : Principal) →
    Adds anchors claims (IsInRow row) goal p → IsAnswer anchors claims goal p

-- the rows of all answers are closed, so closed rows can be had
abbrev pub AnswersAreClosed : List Anchor → List Claim → List Principal → Type 0
AnswersAreClosed anchors claims table =
    (goal : Goal Principal) →
    IsClosed (Contains table) anchors claims (IsAnswer anchors claims) goal

-- each certificate is among these
abbrev pub AreAmong : List Claim → List Claim → Type 0
AreAmong claims more =
    (i : ℕ) (c : Claim) → slice_get claims i ≡ Some c → (k : ℕ) × (slice_get more k ≡ Some c)

-- a sound row stays so when certificates are added
abbrev pub RowsStaySound : List Anchor → List Claim → List Claim → Type 0
RowsStaySound anchors claims more =
    AreAmong claims more →
    (row : List Principal) (goal : Goal Principal) →
    IsSound anchors claims goal (Contains row) → IsSound anchors more goal (Contains row)

-- finished rows stay so when certificates are added about principals that none of them has
abbrev pub UnreachedAddsNothing : List Anchor → List Claim → List Claim →
    List Principal → List (List Principal) → Type 0
UnreachedAddsNothing anchors claims more table rows =
    ((i : ℕ) (c : Claim) → slice_get more i ≡ Some c →
    ((k : ℕ) × (slice_get claims k ≡ Some c)) ⊎
    ((row : List Principal) → Contains rows row → Contains row c.left → ⊥)) →
    AreFinished anchors claims table rows → AreFinished anchors more table rows

-- a row that is finished beside some rows is finished beside more
abbrev pub RowsAddUp : List Anchor → List Claim →
    List Principal → List (List Principal) → List (List Principal) → Type 0
RowsAddUp anchors claims table rows more =
    ((row : List Principal) → Contains rows row → Contains more row) →
    (row : List Principal) →
    IsFinished (Contains table) anchors claims (Contains rows) Contains row →
    IsFinished (Contains table) anchors claims (Contains more) Contains row
