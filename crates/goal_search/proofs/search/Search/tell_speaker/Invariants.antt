use Rattle.std.proofs.Common.{◌≡◌, ℕ, ◌<◌, Some, slice_get}
use Rattle.taos_calculus.specs.declared.line.Fact.{Fact}
use Rattle.term_pool.specs.declared.cited.Cited.{Cited}
use Rattle.goal_search.specs.Reasons.{IsAlike}
use Rattle.goal_search.specs.Searching.{core}
use Rattle.goal_search.specs.Telling.{IsTold, TellsMore}
use Rattle.goal_search.proofs.search.Search.tell_speaker.Given as goal

-- where a certificate so far makes the statement by this speaker, it is told
abbrev pub invariant-loop-other : goal.invariant-loop-other
invariant-loop-other l = record {
  more : TellsMore (core l.self) l.fn.found l.found;
  told : (i : ℕ) → i < l.other → (c d : Cited) → slice_get l.self.cited.items i ≡ Some c →
      slice_get l.self.cited.items l.number ≡ Some d → IsAlike c d → l.who ≡ c.speaker → IsTold l.found (Fact.Says l.who d.left d.right);
}
