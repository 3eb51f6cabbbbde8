-- The certificates that lines cite, and steps by the places among these.
use Rattle.std.specs.Prelude.{◌≡◌, ℕ, ◌<◌, ◌≤◌, Bool, List, Some, slice_get, length, Contains}
use Rattle.taos_calculus.specs.declared.line.Line.{Line}
use Rattle.taos_calculus.specs.declared.line.Step.{Step}
use Rattle.taos_calculus.specs.Tidy.{cites_of, moved}
use Rattle.term_pool.specs.Extract.{Marked}

-- some line cites the number
pub record IsCite (lines : List Line) (k : ℕ) : Type 0 where
  pub at : ℕ
  pub line : Line
  pub stands : slice_get lines at ≡ Some line
  pub names : Contains (cites_of line.step) k

-- the numbers below n that the lines cite are marked, and no others
pub record MarksCites (lines : List Line) (n : ℕ) (marks : List Bool) : Type 0 where
  pub long : length marks ≡ n
  pub marked : (k : ℕ) → k < n → IsCite lines k → Marked marks k
  pub only : (k : ℕ) → Marked marks k → IsCite lines k

-- the number has a place in used
abbrev pub HasPlace : List ℕ → ℕ → Type 0
HasPlace used k = (j : ℕ) × (slice_get used j ≡ Some k)

-- used are the numbers below k that the lines cite, each once
pub record UsedBelow (lines : List Line) (k : ℕ) (used : List ℕ) : Type 0 where
  -- each number below k that is cited has its place
  pub all : (m : ℕ) → m < k → IsCite lines m → HasPlace used m
  pub below : (j m : ℕ) → slice_get used j ≡ Some m → m < k
  -- each number there is cited
  pub only : (j m : ℕ) → slice_get used j ≡ Some m → IsCite lines m
  -- no number stands twice
  pub apart : (i j m : ℕ) → slice_get used i ≡ Some m → slice_get used j ≡ Some m → i ≡ j
  pub few : length used ≤ k

-- the step names its certificate by the place of its number in used
pub record IsRecited (used : List ℕ) (step new : Step) : Type 0 where
  -- the place in used of each certificate's number
  pub cite : ℕ → ℕ
  pub is : new ≡ moved (λ i. i) cite step
  pub stands : (k : ℕ) → Contains (cites_of step) k → slice_get used (cite k) ≡ Some k
