-- A proof that is taken out of the lines that a decider found.
use Rattle.std.specs.Prelude.{◌≡◌, ℕ, List, [], Some, slice_get, length, map}
use Rattle.taos_calculus.specs.declared.line.Fact.{Fact}
use Rattle.taos_calculus.specs.declared.line.Line.{Line}
use Rattle.taos_calculus.specs.declared.line.Node.{Node}
use Rattle.taos_calculus.specs.Numbered.{EachGives, facts_at}
use Rattle.taos_calculus.specs.Question.{Question, IsProofOf}
use Rattle.taos_calculus.specs.Rules.{Line as Meaning}
use Rattle.taos_calculus.specs.Tables.{IsNodeTable, IsBelow, named}
use Rattle.term_pool.specs.Claims.{ArePlacesApart, chosen_by, claim_by}
use Rattle.term_pool.specs.declared.cited.Cited.{Cited}

-- a table of nodes, and the chosen certificates and the lines by its numbers
pub record Findings : Type 0 where
  pub nodes : List Node
  pub cited : List Cited
  pub lines : List Line

-- the lines are a derivation for the question, over the table, and no fact comes twice
pub record AreFoundFor (q : Question) (f : Findings) : Type 0 where
  pub table : IsNodeTable f.nodes
  pub chosen_is : q.chosen ≡ map (chosen_by (named f.nodes)) f.cited
  pub places_apart : ArePlacesApart q.chosen
  -- each line follows from those before it
  pub follow : EachGives f.nodes q.anchors (map (claim_by (named f.nodes)) f.cited) [] f.lines
  -- the facts are over numbers of the table
  pub below : (k : ℕ) (fact : Fact) → slice_get (facts_at f.lines) k ≡ Some fact →
      IsBelow (length f.nodes) fact
  -- no fact comes twice
  pub distinct : (i j : ℕ) (fact : Fact) → slice_get (facts_at f.lines) i ≡ Some fact →
      slice_get (facts_at f.lines) j ≡ Some fact → i ≡ j

-- there is a question that the lines are found for
abbrev pub AreFound : Findings → Type 0
AreFound f = (q : Question) × AreFoundFor q f

-- for whatever question the lines are found, and whatever `left => right` the line of number goal
-- says, these lines and cites prove it without waste
abbrev pub ProvesGoal : Findings → ℕ → List Meaning → List ℕ → Type 0
ProvesGoal f goal lines cites =
    (q : Question) (left right : ℕ) → AreFoundFor q f →
    slice_get (facts_at f.lines) goal ≡ Some (Fact.Speaks left right) →
    IsProofOf q (named f.nodes left) (named f.nodes right) lines cites
