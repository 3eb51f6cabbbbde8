-- Taking a question into a table of nodes.
use Rattle.std.specs.Prelude.{◌≡◌, ℕ, ◌+◌, ◌≤◌, List, ◌++◌, length, map, All}
use Rattle.prin_term.specs.Principal.{Principal}
use Rattle.taos_calculus.specs.declared.line.Node.{Node}
use Rattle.taos_calculus.specs.Rules.{Claim}
use Rattle.taos_calculus.specs.Tables.{IsNodeTable, named, principals_of}
use Rattle.term_pool.specs.declared.cited.Cited.{Cited}
use Rattle.term_pool.specs.Claims.{CitedIn, chosen_by}

-- the new table has the old one's principals in front, and at most n nodes more
pub record Widens (old new : List Node) (n : ℕ) : Type 0 where
  pub table : IsNodeTable new
  pub more : List Principal
  pub longer : principals_of new ≡ principals_of old ++ more
  pub few : length new ≤ length old + n

-- the certificates by their numbers are these
pub record Gathers (nodes : List Node) (cited : List Cited)
    (chosen : List (ℕ × Claim)) : Type 0 where
  pub cited_in : All (CitedIn (length nodes)) cited
  pub chosen_is : map (chosen_by (named nodes)) cited ≡ chosen
