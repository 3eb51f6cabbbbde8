-- What a lane is seen as.
use Rattle.std.specs.Prelude.{ℕ, nat_lt, if◌then◌else◌, List, [], ◌∷◌, ◌++◌, length}

-- whose frames it has and has not answered, in order; who has a turn, the next one first; and for
-- how many turns there is room
pub record Queues : Type 0 where
  pub waiting : List ℕ
  pub turns : List ℕ
  pub room : ℕ

-- the turns with one more behind them, where there is room
abbrev pub lined_up : Queues → ℕ → List ℕ
lined_up q client =
    if nat_lt (length q.turns) q.room then q.turns ++ client ∷ [] else q.turns
