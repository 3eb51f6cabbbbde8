use Rattle.std.proofs.Common.{◌≡◌, false, take}
use Rattle.std.specs.List.{All}
use Rattle.proof_cache.specs.Cache.{has_lapsed, kept}
use Rattle.proof_cache.proofs.kept.are_unended.Given as goal

-- none of those that were looked at has ended
abbrev pub invariant-loop-place : goal.invariant-loop-place
invariant-loop-place l = All (λ r. has_lapsed l.clock (kept r) ≡ false) (take l.place l.rows)
