-- What the laws say of lanes.
use Rattle.std.specs.Prelude.{◌≡◌, ℕ, List, [], ◌∷◌, ◌++◌, length, All}
use Rattle.agent_core.specs.Journals.{Begins}
use Rattle.turn_cell.specs.Journal.{HasEach}
use Rattle.request_course.specs.Cells.{Node, Journals, Cell, OfShard, OfObject, AreLegal}
use Rattle.request_course.specs.World.{World}
use Rattle.taos_lanes.specs.Visits.{Visit, Chain, begun, left}
use Rattle.taos_lanes.specs.Lanes.{LaneRun, owned_in, IsFresh, AreClosed, ServesAll}

-- where the seats are joined and the cells closed, the lanes served all that stands in the journals
abbrev pub ClosedServesAll : Node → ℕ → Type 0
ClosedServesAll n limit =
    (J : Journals) (lanes : List (LaneRun n limit)) → AreClosed J lanes → ServesAll J lanes

-- one more connection of a lane
abbrev pub ChainGoesOn : Node → ℕ → Type 0
ChainGoesOn n limit =
    (first last : World) (visits : List (Visit n limit)) (v : Visit n limit) →
    Chain first visits last → begun v ≡ last → Chain first (visits ++ v ∷ []) (left v)

-- what the joined passes of these lanes have seen of a cell, and their own places there: `journal`
-- reads the cell's journal
pub record JoinedAt {E : Type 0} {n : Node} {limit : ℕ} (cell : Cell)
    (journal : Journals → List E) (seen : List E) (own : List ℕ) (lanes : List (LaneRun n limit)) :
    Type 0 where
  pub owned : own ≡ owned_in cell lanes
  pub begin : All (λ (lane : LaneRun n limit). Begins (journal lane.last.seen.journals) seen) lanes

-- one more lane's pass is joined
abbrev pub JoinsOneMore : Type 0 → Node → ℕ → Type 0
JoinsOneMore E n limit =
    (cell : Cell) (journal : Journals → List E) (seen later : List E) (own : List ℕ)
    (lanes : List (LaneRun n limit)) (lane : LaneRun n limit) →
    JoinedAt cell journal seen own lanes → Begins seen later →
    Begins (journal lane.last.seen.journals) later →
    JoinedAt cell journal later (own ++ lane.last.seen.own cell) (lanes ++ lane ∷ [])

-- all are joined, and each cell is closed
abbrev pub JoinedAreClosed : Node → ℕ → Type 0
JoinedAreClosed n limit =
    (J : Journals) (shards_own objects_own : ℕ → List ℕ) (lanes : List (LaneRun n limit)) →
    AreLegal n J → All IsFresh lanes →
    ((s : ℕ) → JoinedAt (OfShard s) (λ (K : Journals). K.shards s) (J.shards s) (shards_own s) lanes) →
    ((o : ℕ) → JoinedAt (OfObject o) (λ (K : Journals). K.objects o) (J.objects o) (objects_own o) lanes) →
    ((s : ℕ) → HasEach 0 (length (J.shards s)) (shards_own s)) →
    ((o : ℕ) → HasEach 0 (length (J.objects o)) (objects_own o)) → AreClosed J lanes
