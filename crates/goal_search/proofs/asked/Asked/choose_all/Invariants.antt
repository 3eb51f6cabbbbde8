use Rattle.std.proofs.Common.{◌≡◌, ◌<◌, ℕ, true, Some, slice_get}
use Rattle.goal_search.specs.Asked.{AreAmong, AsksAsBefore, IsAsked}
use Rattle.goal_search.proofs.asked.Asked.choose_all.Given as goal

abbrev pub invariant-loop-place : goal.invariant-loop-place
invariant-loop-place l = record {
  asked : IsAsked l.self;
  same : AsksAsBefore l.fn.self l.self;
  still : AreAmong l.self.marks.items l.chosen;
  now : (k : ℕ) → k < l.place → slice_get l.chosen k ≡ Some true → slice_get l.self.marks.items k ≡ Some true;
}
