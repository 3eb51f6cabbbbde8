-- The principals of a table in the order in which lines come to them.
use Rattle.std.specs.Prelude.{◌≡◌, ℕ, ◌<◌, ◌≤◌, List, [], ◌∷◌, length, map, take, All, Contains}
use Rattle.std.specs.List.{flat_map}
use Rattle.prin_term.specs.Principal.{Principal}
use Rattle.stmt_codec.specs.Distinct.{met}
use Rattle.taos_calculus.specs.declared.line.Node.{Node}
use Rattle.taos_calculus.specs.declared.line.Fact.{Fact}
use Rattle.taos_calculus.specs.Tables.{principals_of, named, OperandsBelow}
use Rattle.taos_calculus.specs.Canonical.{post_order}

-- the numbers that a fact names, from left to right
abbrev pub numbers_in : Fact → List ℕ
numbers_in (Fact.Speaks left right) = left ∷ right ∷ []
numbers_in (Fact.Says who left right) = who ∷ left ∷ right ∷ []

-- all that the numbers name, with all that stands under it
abbrev pub parts_under : List Node → List ℕ → List Principal
parts_under nodes ids = flat_map post_order (map (named nodes) ids)

-- from the first `due` principals of the table, these numbers lead to its first k
pub record Reaches (nodes : List Node) (due : ℕ) (ids : List ℕ) (k : ℕ) : Type 0 where
  pub within : k ≤ length nodes
  pub below : All (λ i. i < length nodes) ids
  -- what the numbers name, added to those first, is the beginning of the table that ends at k
  pub front :
      met (take due (principals_of nodes)) (parts_under nodes ids) ≡ take k (principals_of nodes)

-- these numbers lead to no beginning of the table
abbrev pub Strays : List Node → ℕ → List ℕ → Type 0
Strays nodes due ids = (k : ℕ) → Reaches nodes due ids k → ⊥

-- the node i has its operands before it, and its like nowhere before it
pub record IsPlaced (nodes : List Node) (i : ℕ) (node : Node) : Type 0 where
  pub ordered : OperandsBelow i node
  pub first : ¬ Contains (take i nodes) node
