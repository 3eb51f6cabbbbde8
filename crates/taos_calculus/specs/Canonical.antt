-- The canonical table of a list of lines.
use Rattle.std.specs.Prelude.{◌≡◌, ℕ, List, [], ◌∷◌, ◌++◌, Some, slice_get, length, All}
use Rattle.std.specs.List.{flat_map}
use Rattle.prin_term.specs.Principal.{Principal, Key, Name, And, Quoting, InRole, For}
use Rattle.stmt_codec.specs.Distinct.{first_of_each}
use Rattle.taos_calculus.specs.declared.line.Node.{Node}
use Rattle.taos_calculus.specs.Rules.{Judgement, SpeaksFor, Says, Line}
use Rattle.taos_calculus.specs.Tables.{Parts, OperandsBelow, IsBelow, principals_of, lines_of}

-- p and all that stands under it, operands first, the left one before the right
abbrev pub post_order : Principal → List Principal
post_order (Key k) = Key k ∷ []
post_order (Name n) = Name n ∷ []
post_order (And a b) = post_order a ++ post_order b ++ And a b ∷ []
post_order (Quoting a b) = post_order a ++ post_order b ++ Quoting a b ∷ []
post_order (InRole a r) = post_order a ++ InRole a r ∷ []
post_order (For a b) = post_order a ++ post_order b ++ For a b ∷ []

-- the principals that a fact names, from left to right
abbrev pub terms_of : Judgement → List Principal
terms_of (SpeaksFor left right) = left ∷ right ∷ []
terms_of (Says who left right) = who ∷ left ∷ right ∷ []

-- every part of every principal that the lines name, each where it comes first
abbrev pub canonical_table : List Line → List Principal
canonical_table lines = first_of_each (flat_map post_order (flat_map (λ l. terms_of l.fact) lines))

-- the table is the canonical one of the lines that the parts mean
pub record IsCanonical (parts : Parts) : Type 0 where
  -- operands come before what they are operands of
  pub ordered : (i : ℕ) (node : Node) → slice_get parts.nodes i ≡ Some node → OperandsBelow i node
  -- the facts are over numbers of the table
  pub within : All (λ l. IsBelow (length parts.nodes) l.fact) parts.lines
  pub table : principals_of parts.nodes ≡ canonical_table (lines_of parts)
