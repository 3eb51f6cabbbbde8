-- The borrows that a value holds, by their ghost names.
use Rattle.std.specs.Prelude.{ℕ}

-- none that its owner is to know of; one, with those of what it borrows; or those of two values
pub data Lent : Type 0 where
  Nothing : Lent
  To : ℕ → Lent → Lent
  Both : Lent → Lent → Lent
