-- The limits of a proof.
use Rattle.std.specs.Prelude.{◌≤◌, length}
use Rattle.taos_calculus.specs.declared.proof.TheConstants.{MAX_NODES, MAX_LINES}
use Rattle.taos_calculus.specs.Tables.{Parts}
use Rattle.taos_calculus.specs.Canonical.{IsCanonical}

-- the parts of a proof: within the limits, and their table is the canonical one of their lines
pub record IsProofParts (parts : Parts) : Type 0 where
  pub canonical : IsCanonical parts
  pub nodes_fit : length parts.nodes ≤ MAX_NODES
  pub lines_fit : length parts.lines ≤ MAX_LINES
