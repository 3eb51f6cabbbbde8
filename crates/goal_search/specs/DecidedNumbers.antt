-- What rows of numbers decide, and what stays of them when certificates are added.
use Rattle.std.specs.Prelude.{◌≡◌, ◌↔◌, ◌⊎◌, ℕ, ◌<◌, List, Some, slice_get, length, Contains}
use Rattle.prin_term.specs.declared.term.Anchor.{Anchor}
use Rattle.taos_calculus.specs.declared.line.Node.{Node}
use Rattle.taos_calculus.specs.Rules.{Claim}
use Rattle.taos_calculus.specs.Tables.{IsNodeTable, named}
use Rattle.goal_search.specs.Goals.{Goal}
use Rattle.goal_search.specs.Decided.{AreAmong}
use Rattle.goal_search.specs.NumberedRows.{IsNamed, IsGoalBelow, IsAnswerAt, IsSoundAt}
use Rattle.goal_search.specs.NumberedRows.{BeginsAt, RefusesAt, IsFinishedAt, HaveLeftsNumbers}
use Rattle.goal_search.specs.NumberedAdding.{AddsAt}

-- each of these rows is finished beside the others
abbrev pub AreFinishedAt : List Node → List Anchor → List Claim → List (List ℕ) → Type 0
AreFinishedAt nodes anchors claims rows =
    (row : List ℕ) → Contains rows row →
    IsFinishedAt nodes anchors claims (Contains rows) Contains row

-- a row among finished ones that begins with the goal and is sound has exactly the goal's answers
abbrev pub NumbersDecide : List Node → List Anchor → List Claim → List (List ℕ) → Type 0
NumbersDecide nodes anchors claims rows =
    IsNodeTable nodes → HaveLeftsNumbers nodes claims →
    AreFinishedAt nodes anchors claims rows →
    (row : List ℕ) (goal : Goal ℕ) → Contains rows row → IsGoalBelow (length nodes) goal →
    BeginsAt nodes claims Contains goal row →
    IsSoundAt nodes anchors claims goal (Contains row) →
    (i : ℕ) → i < length nodes → IsAnswerAt nodes anchors claims goal i ↔ Contains row i

-- what finished rows refuse is no answer; no row need be sound
abbrev pub NumbersRefute : List Node → List Anchor → List Claim → List (List ℕ) → Type 0
NumbersRefute nodes anchors claims rows =
    IsNodeTable nodes → HaveLeftsNumbers nodes claims →
    AreFinishedAt nodes anchors claims rows →
    (goal : Goal ℕ) (i : ℕ) → IsGoalBelow (length nodes) goal → i < length nodes →
    RefusesAt nodes claims (Contains rows) Contains goal i →
    IsAnswerAt nodes anchors claims goal i → ⊥

-- what may be added to answers is an answer
abbrev pub AddingGivesAnswers : List Node → List Anchor → List Claim → Type 0
AddingGivesAnswers nodes anchors claims =
    IsNodeTable nodes →
    (goal : Goal ℕ) (i : ℕ) →
    AddsAt nodes anchors claims (IsAnswerAt nodes anchors claims) goal i →
    IsAnswerAt nodes anchors claims goal i

-- a sound row stays so when certificates are added, and nodes behind those that were there
abbrev pub NumbersStaySound : List Node → List Node → List Anchor →
    List Claim → List Claim → Type 0
NumbersStaySound nodes grown anchors claims more =
    AreAmong claims more →
    ((i : ℕ) → i < length nodes → named grown i ≡ named nodes i) →
    (row : List ℕ) (goal : Goal ℕ) → IsGoalBelow (length nodes) goal →
    ((i : ℕ) → Contains row i → i < length nodes) →
    IsSoundAt nodes anchors claims goal (Contains row) →
    IsSoundAt grown anchors more goal (Contains row)

-- finished rows stay so when certificates are added about principals that none of them has
abbrev pub UnreachedNumbersAddNothing : List Node → List Anchor →
    List Claim → List Claim → List (List ℕ) → Type 0
UnreachedNumbersAddNothing nodes anchors claims more rows =
    ((i : ℕ) (c : Claim) → slice_get more i ≡ Some c →
    ((k : ℕ) × (slice_get claims k ≡ Some c)) ⊎
    ((l : ℕ) (row : List ℕ) → IsNamed nodes l c.left → Contains rows row → Contains row l → ⊥)) →
    AreFinishedAt nodes anchors claims rows → AreFinishedAt nodes anchors more rows
