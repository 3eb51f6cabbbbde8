-- What a search knows of certificates.
use Rattle.std.specs.Prelude.{◌≡◌, ℕ, Some, slice_get}
use Rattle.taos_calculus.specs.declared.line.Node.{Node}
use Rattle.term_pool.specs.declared.cited.Cited.{Cited}
use Rattle.goal_search.specs.Reasons.{IsEdge}
use Rattle.goal_search.specs.Searching.{Core, Has, about}

-- by the certificate a delegates to b: b quoting a is to speak for b on behalf of a
pub record IsDelegation (s : Core) (number a b : ℕ) : Type 0 where
  pub cited : Cited
  pub stands : slice_get s.cited number ≡ Some cited
  pub left_is : slice_get s.nodes cited.left ≡ Some (Node.Quote b a)
  pub right_is : slice_get s.nodes cited.right ≡ Some (Node.For b a)

-- what the certificate states is believed
abbrev pub IsHeard : Core → ℕ → Type 0
IsHeard s number =
    (c : Cited) → slice_get s.cited number ≡ Some c →
    IsEdge (about s) (Has s) c.left c.right
