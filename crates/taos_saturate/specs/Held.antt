-- A decider with what it was asked.
use Rattle.std.specs.Prelude.{◌≡◌, ◌<◌, ◌≤◌}
use Rattle.std.specs.Prelude.{length, map, All, vec_capacity}
use Rattle.taos_calculus.specs.declared.decide.TheConstants.{MAX_ANCHORS, MAX_CERTS, MAX_ENTRIES}
use Rattle.taos_calculus.specs.declared.proof.TheConstants.{MAX_LINES, MAX_NODES}
use Rattle.taos_calculus.specs.Question.{Question}
use Rattle.taos_calculus.specs.Tables.{IsNodeTable, named}
use Rattle.taos_saturate.specs.declared.held.Held.{Held}
use Rattle.term_pool.specs.Claims.{ArePlacesApart, CitedIn, chosen_by}
use Rattle.term_pool.specs.Finding.{statement_of}
use Rattle.taos_saturate.specs.Saturating.{IsGood}

-- there is room for the largest question
pub record IsReserved (h : Held) : Type 0 where
  pub nodes : MAX_NODES ≤ vec_capacity h.table.nodes
  pub anchors : MAX_ANCHORS ≤ vec_capacity h.table.anchors
  pub cited : MAX_CERTS ≤ vec_capacity h.table.cited
  pub statements : MAX_CERTS ≤ vec_capacity h.table.found.statements
  pub numbers : MAX_LINES ≤ vec_capacity h.table.found.numbers
  pub lines : MAX_LINES ≤ vec_capacity h.table.found.lines
  pub list : MAX_ENTRIES ≤ vec_capacity h.list

-- what the decider was asked
abbrev pub seen : Held → Question
seen h = record {
  anchors = h.table.anchors.items;
  chosen = map (chosen_by (named h.table.nodes.items)) h.table.cited.items;
  subject = named h.table.nodes.items h.subject;
  list = map (named h.table.nodes.items) h.list.items;
}

-- the question is taken in; nothing need be decided yet
pub record IsGathered (h : Held) : Type 0 where
  pub table : IsNodeTable h.table.nodes.items
  pub few : length h.table.nodes.items ≤ MAX_NODES
  pub few_anchors : length h.table.anchors.items ≤ MAX_ANCHORS
  pub cited_in : All (CitedIn (length h.table.nodes.items)) h.table.cited.items
  pub few_cited : length h.table.cited.items ≤ MAX_CERTS
  pub stated : h.table.found.statements.items ≡ map statement_of h.table.cited.items
  pub subject_in : h.subject < length h.table.nodes.items
  pub list_in : All (λ i. i < length h.table.nodes.items) h.list.items

-- all that is derivable about the question is known
pub record IsHeld (h : Held) : Type 0 where
  pub reserved : IsReserved h
  pub good : IsGood h.table
  pub few_nodes : length h.table.nodes.items ≤ MAX_NODES
  -- the table has no more cells than there may be lines
  pub few_cells : length h.table.found.numbers.items ≤ MAX_LINES
  pub few_cited : length h.table.cited.items ≤ MAX_CERTS
  pub subject_in : h.subject < length h.table.nodes.items
  pub list_in : All (λ i. i < length h.table.nodes.items) h.list.items
  -- no place comes twice among the chosen
  pub apart : ArePlacesApart (seen h).chosen
