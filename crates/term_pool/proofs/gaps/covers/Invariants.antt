use Rattle.std.proofs.Common.{◌≡◌, ◌≢◌, ℕ, ◌<◌, false, slice_index}
use Rattle.term_pool.proofs.gaps.covers.Given as goal

abbrev pub invariant-loop-c : goal.invariant-loop-c
invariant-loop-c l = l.missing ≡ false → (m : ℕ) → m < l.c → slice_index l.under m ≢ 0 → slice_index l.over m ≢ 0
