use Rattle.std.proofs.Common.{◌≡◌, false, take}
use Rattle.std.specs.List.{All}
use Rattle.prin_term.specs.View.{principal}
use Rattle.proof_cache.specs.Cache.{is_for, kept}
use Rattle.proof_cache.proofs.kept.place_of.Given as goal

-- none of those that were looked at is kept for these
abbrev pub invariant-loop-place : goal.invariant-loop-place
invariant-loop-place l =
    All (λ r. is_for (principal l.subject) (principal l.who) (kept r) ≡ false) (take l.place l.rows)
