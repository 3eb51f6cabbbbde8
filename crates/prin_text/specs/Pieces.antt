-- Principals that were read, up to the depth that a term may have.
use Rattle.std.specs.Prelude.{ℕ, ◌+◌, max, nat_lt, if◌then◌else◌}
use Rattle.prin_term.specs.declared.limits.TheConstants.{MAX_DEPTH}
use Rattle.prin_term.specs.Principal.{Principal, InRole}
use Rattle.prin_term.specs.Kind.{Kind, pair}

-- a principal with its depth, or one that is deeper than a term may be
pub data Piece : Type 0 where
  -- a principal, and its depth
  Built : Principal → ℕ → Piece
  -- one that is too deep
  Deep : Piece

-- the compound, where it is not too deep
abbrev pub built : Principal → ℕ → Piece
built p below = if nat_lt below MAX_DEPTH then Built p (below + 1) else Deep

-- the compound of two pieces
abbrev pub joined : Kind → Piece → Piece → Piece
joined kind Deep right = Deep
joined kind (Built a m) Deep = Deep
joined kind (Built a m) (Built b n) = built (pair kind a b) (max m n)

-- the piece in a role
abbrev pub in_role : Piece → ℕ → Piece
in_role Deep role = Deep
in_role (Built a m) role = built (InRole a role) m
