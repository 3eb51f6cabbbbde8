-- The lines that a goal needs, in order.
use Rattle.std.specs.Prelude.{◌≡◌, ◌≢◌, ℕ, ◌+◌, ◌-◌, ◌<◌, ◌≤◌, Bool, true, false, List, [], Some}
use Rattle.std.specs.Prelude.{slice_get, slice_index, slice_index_or, length, Contains, AllPairs}
use Rattle.prin_term.specs.declared.term.Anchor.{Anchor}
use Rattle.taos_calculus.specs.declared.line.Node.{Node}
use Rattle.taos_calculus.specs.declared.line.Step.{Step}
use Rattle.taos_calculus.specs.Rules.{Claim}
use Rattle.taos_calculus.specs.declared.line.Fact.{Fact}
use Rattle.taos_calculus.specs.declared.line.Line.{Line}
use Rattle.taos_calculus.specs.Numbered.{EachGives, facts_at}
use Rattle.taos_calculus.specs.Tidy.{premises_of}

-- the line k is marked
abbrev pub Marked : List Bool → ℕ → Type 0
Marked marks k = slice_index_or marks k false ≡ true

-- the premises of the line k are marked
abbrev pub HasPremises : List Line → List Bool → ℕ → Type 0
HasPremises lines marks k =
    (l : Line) (i : ℕ) → slice_get lines k ≡ Some l →
    Contains (premises_of l.step) i → Marked marks i

-- some later line that is marked has the line k as a premise
pub record IsWanted (lines : List Line) (last : ℕ) (marks : List Bool) (k : ℕ) : Type 0 where
  -- the number of the later line
  pub by : ℕ
  pub line : Line
  pub later : k < by
  pub within : by ≤ last
  pub marked : Marked marks by
  pub stands : slice_get lines by ≡ Some line
  pub names : Contains (premises_of line.step) k

-- the last line is marked, and every other marked line is a premise of a later one; from k on the
-- premises of each marked line are marked
pub record IsMarkedFrom (lines : List Line) (last k : ℕ) (marks : List Bool) : Type 0 where
  pub long : length marks ≡ last + 1
  pub goal : Marked marks last
  -- the premises of each marked line from k on are marked
  pub closed : (m : ℕ) → k ≤ m → Marked marks m → HasPremises lines marks m
  -- every other marked line is a premise of a later one
  pub wanted : (m : ℕ) → m < last → Marked marks m → IsWanted lines last marks m

-- the last line is marked, with the premises of each marked line, and every other marked line is a
-- premise of a later one
abbrev pub IsMarked : List Line → ℕ → List Bool → Type 0
IsMarked lines last marks = IsMarkedFrom lines last 0 marks

-- the line m of the new list is the line l of the old one, with its premises renumbered
pub record IsRenumbered (numbers : List ℕ) (l m : Line) : Type 0 where
  pub fact_is : m.fact ≡ l.fact
  pub names : (i : ℕ) → Contains (premises_of l.step) i →
      Contains (premises_of m.step) (slice_index numbers i)

-- out holds the marked lines below k in order, with their premises renumbered, and numbers gives
-- their places
pub record IsKept (lines : List Line) (marks : List Bool) (k : ℕ)
    (numbers : List ℕ) (out : List Line) : Type 0 where
  pub long : length numbers ≡ k
  -- each marked line below k stands in out, at the place that its number gives
  pub kept : (i : ℕ) (l : Line) → i < k → Marked marks i → slice_get lines i ≡ Some l →
      (m : Line) × (slice_get out (slice_index numbers i) ≡ Some m) × IsRenumbered numbers l m
  -- each line of out stands for a marked line below k
  pub from : (j : ℕ) → j < length out →
      (i : ℕ) × (i < k) × Marked marks i × (slice_index numbers i ≡ j)
  -- the order is kept
  pub rising : (i j : ℕ) → i < j → j < k → Marked marks i →
      slice_index numbers i < slice_index numbers j
  -- out is a derivation where lines is one
  pub valid : (nodes : List Node) (anchors : List Anchor) (claims : List Claim) →
      EachGives nodes anchors claims [] lines → EachGives nodes anchors claims [] out

-- out is what the line `last` needs: its fact comes last, and each other line is a premise of a
-- later one
pub record IsExtract (lines : List Line) (last : ℕ) (out : List Line) : Type 0 where
  -- out is a derivation where lines is one
  pub valid : (nodes : List Node) (anchors : List Anchor) (claims : List Claim) →
      EachGives nodes anchors claims [] lines → EachGives nodes anchors claims [] out
  pub short : length out ≤ length lines
  -- each fact of out is one of lines
  pub from_line : (k : ℕ) (m : Line) → slice_get out k ≡ Some m →
      (i : ℕ) × (slice_get (facts_at lines) i ≡ Some m.fact)
  pub ends : (l : Line) → slice_get lines last ≡ Some l →
      (m : Line) × (0 < length out) × (slice_get out (length out - 1) ≡ Some m) × (m.fact ≡ l.fact)
  -- each line but the last is a premise of a later one
  pub used : (j : ℕ) → j + 1 < length out →
      (i : ℕ) × (m : Line) × (j < i) × (slice_get out i ≡ Some m) × Contains (premises_of m.step) j
  -- no fact comes twice, where none does in lines
  pub distinct :
      ((i j : ℕ) (f : Fact) → slice_get (facts_at lines) i ≡ Some f →
      slice_get (facts_at lines) j ≡ Some f → i ≡ j) →
      AllPairs (λ l m. l.fact ≢ m.fact) out

-- the premises of the step are below n
abbrev pub PremisesBelow : ℕ → Step → Type 0
PremisesBelow n (Step.Chain i j) = (i < n) × (j < n)
PremisesBelow n (Step.Both i j) = (i < n) × (j < n)
PremisesBelow n (Step.Quote i j) = (i < n) × (j < n)
PremisesBelow n (Step.For i j) = (i < n) × (j < n)
PremisesBelow n (Step.Join i j) = (i < n) × (j < n)
PremisesBelow n (Step.Lift i j) = (i < n) × (j < n)
PremisesBelow n (Step.RoleUnder i) = i < n
PremisesBelow n (Step.HandOff i) = i < n
PremisesBelow n (Step.Delegate i) = i < n
PremisesBelow n step = Unit {0}
