use Rattle.std.proofs.Common.{◌≢◌, ℕ, ◌<◌, slice_get, Some}
use Rattle.lemma_memo.proofs.here.place_of.Given as goal

abbrev pub invariant-loop-place : goal.invariant-loop-place
invariant-loop-place l = (k : ℕ) → k < l.place → slice_get l.marks k ≢ Some (Some l.number)
