-- What is told of a source, a sink or a clock, and how often it failed.
use Rattle.std.specs.Prelude.{ℕ, List, Option}

-- what a source has left, what a sink holds, or the readings that a clock has left, where that is
-- told; and how often a call of it has failed
pub record Stream : Type 0 where
  pub told : Option (List ℕ)
  pub faults : ℕ

-- a stream of these
abbrev pub stream : Option (List ℕ) → ℕ → Stream
stream told faults = record { told = told; faults = faults }
