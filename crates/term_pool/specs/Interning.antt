-- Taking principals into a table of nodes.
use Rattle.std.specs.Prelude.{◌≡◌, ◌≢◌, ℕ, ◌<◌, ◌≤◌, List, length, Option, MatchOption}
use Rattle.prin_term.specs.Kind.{Kind, And, Quoting, For}
use Rattle.prin_term.specs.Principal.{Principal}
use Rattle.taos_calculus.specs.declared.line.Node.{Node}
use Rattle.taos_calculus.specs.declared.proof.TheConstants.{MAX_NODES}
use Rattle.stmt_codec.specs.Distinct.{met}
use Rattle.taos_calculus.specs.Tables.{IsNodeTable, named, principals_of}

-- operands come first, no node comes twice, and there is room for the largest table
pub record IsRoomy (nodes : List Node) (capacity : ℕ) : Type 0 where
  pub table : IsNodeTable nodes
  -- the memory is enough for the largest table
  pub room : MAX_NODES ≤ capacity

-- the table has at most so many nodes with all of these principals in it
abbrev pub FitsIn : ℕ → List Node → List Principal → Type 0
FitsIn room nodes ps = length (met (principals_of nodes) ps) ≤ room

-- the table is not too large with all of these principals in it
abbrev pub Fits : List Node → List Principal → Type 0
Fits nodes ps = FitsIn MAX_NODES nodes ps

-- the table has grown by what was not there of ps, and p has the number id
pub record TakesIn (old new : List Node) (ps : List Principal)
    (p : Principal) (id : ℕ) : Type 0 where
  pub table : IsNodeTable new
  pub grown : principals_of new ≡ met (principals_of old) ps
  pub within : id < length new
  pub named_is : named new id ≡ p

-- the number of a principal in the table, or none where no node is it
abbrev pub FindsNumber : List Node → Principal → Option ℕ → Type 0
FindsNumber nodes p number =
    MatchOption number ((i : ℕ) → i < length nodes → named nodes i ≢ p)
    (λ i. (i < length nodes) × (named nodes i ≡ p))

-- a node of two operands
abbrev pub node_pair : Kind → ℕ → ℕ → Node
node_pair And a b = Node.And a b
node_pair Quoting a b = Node.Quote a b
node_pair For a b = Node.For a b
