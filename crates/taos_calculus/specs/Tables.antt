-- Tables of principals by their nodes, and what lines over their numbers mean.
use Rattle.std.specs.Prelude.{◌≡◌, ℕ, ◌<◌, List, [], ◌∷◌, ◌++◌}
use Rattle.std.specs.Prelude.{Some, slice_get, slice_index_or, map}
use Rattle.prin_term.specs.Principal.{Principal, Key, Name, And, Quoting, InRole, For}
use Rattle.taos_calculus.specs.declared.line.Node.{Node}
use Rattle.taos_calculus.specs.declared.line.Fact.{Fact}
use Rattle.taos_calculus.specs.declared.line.Line.{Line}
use Rattle.taos_calculus.specs.Rules.{Judgement, SpeaksFor, Says, line, Line as Meaning}

-- the principal of a node, where p gives those of its operands
abbrev pub shape : (ℕ → Principal) → Node → Principal
shape p (Node.Key k) = Key k
shape p (Node.Name n) = Name n
shape p (Node.And a b) = And (p a) (p b)
shape p (Node.Quote a b) = Quoting (p a) (p b)
shape p (Node.AsRole a r) = InRole (p a) r
shape p (Node.For a b) = For (p a) (p b)

-- its operands are numbers below n
abbrev pub OperandsBelow : ℕ → Node → Type 0
OperandsBelow n (Node.Key k) = Unit {0}
OperandsBelow n (Node.Name k) = Unit {0}
OperandsBelow n (Node.And a b) = (a < n) × (b < n)
OperandsBelow n (Node.Quote a b) = (a < n) × (b < n)
OperandsBelow n (Node.AsRole a r) = a < n
OperandsBelow n (Node.For a b) = (a < n) × (b < n)

-- the principals so far, and those of the nodes that follow
abbrev pub grown : List Principal → List Node → List Principal
grown earlier [] = earlier
grown earlier (node ∷ rest) =
    grown (earlier ++ shape (λ i. slice_index_or earlier i (Key 0)) node ∷ []) rest

-- the principal of each node, in order
abbrev pub principals_of : List Node → List Principal
principals_of nodes = grown [] nodes

-- the principal of the number i
abbrev pub named : List Node → ℕ → Principal
named nodes i = slice_index_or (principals_of nodes) i (Key 0)

-- a table of nodes, and lines over its numbers
pub record Parts : Type 0 where
  pub nodes : List Node
  pub lines : List Line

-- the parts of this table and these lines
abbrev pub parts_of : List Node → List Line → Parts
parts_of nodes lines = record { nodes = nodes; lines = lines }

-- what a fact over numbers says, where p gives the principal of each
abbrev pub judgement : (ℕ → Principal) → Fact → Judgement
judgement p (Fact.Speaks left right) = SpeaksFor (p left) (p right)
judgement p (Fact.Says who left right) = Says (p who) (p left) (p right)

-- a line over numbers, as a line over principals
abbrev pub meaning : (ℕ → Principal) → Line → Meaning
meaning p l = line (judgement p l.fact) l.step

-- the lines over principals that the parts mean
abbrev pub lines_of : Parts → List Meaning
lines_of parts = map (meaning (named parts.nodes)) parts.lines

-- the fact's numbers are below n
abbrev pub IsBelow : ℕ → Fact → Type 0
IsBelow n (Fact.Speaks left right) = (left < n) × (right < n)
IsBelow n (Fact.Says who left right) = (who < n) × (left < n) × (right < n)

-- each node's operands stand before it, and no node stands twice
pub record IsNodeTable (nodes : List Node) : Type 0 where
  -- each node's operands stand before it
  pub ordered : (i : ℕ) (node : Node) → slice_get nodes i ≡ Some node → OperandsBelow i node
  -- no node stands twice
  pub distinct : (i j : ℕ) (node : Node) → slice_get nodes i ≡ Some node →
      slice_get nodes j ≡ Some node → i ≡ j
