use Rattle.std.proofs.Common.{◌<◌, ℕ, All}
use Rattle.case_play.proofs.objects.pieces_of.Given as goal

-- the pieces so far are some bytes each
abbrev pub invariant-loop-piece : goal.invariant-loop-piece
invariant-loop-piece l = All (λ (n : ℕ). 0 < n) l.most.items
