-- Lines over principals and their parts.
use Rattle.std.specs.Prelude.{◌≡◌, List}
use Rattle.taos_calculus.specs.Rules.{Line}
use Rattle.taos_calculus.specs.Tables.{Parts, lines_of}
use Rattle.taos_calculus.specs.Canonical.{IsCanonical}
use Rattle.taos_calculus.specs.Spelling.{numbered}

-- the parts of the lines have a canonical table, and mean these lines
pub record HaveParts (lines : List Line) : Type 0 where
  pub canonical : IsCanonical (numbered lines)
  pub mean : lines_of (numbered lines) ≡ lines

-- parts with a canonical table are those of the lines that they mean
abbrev pub AreAlone : Parts → Type 0
AreAlone parts = IsCanonical parts → numbered (lines_of parts) ≡ parts
