use Rattle.std.proofs.Common.{◌≡◌, ◌<◌, ℕ, true, Some, map, slice_get}
use Rattle.stmt_codec.specs.View.{certificates}
use Rattle.taos_calculus.specs.Question.{claim_of}
use Rattle.taos_calculus.specs.Tables.{named}
use Rattle.term_pool.specs.Claims.{claim_by}
use Rattle.term_pool.specs.declared.cited.Cited.{Cited}
use Rattle.goal_search.proofs.asked.Asked.are_held.Given as goal

abbrev pub invariant-loop-i : goal.invariant-loop-i
invariant-loop-i l =
    (k : ℕ) (c : Cited) → k < l.i → slice_get l.self.held.items k ≡ Some c → slice_get l.self.taken.items k ≡ Some true →
    slice_get (map claim_of (certificates l.certs)) k ≡ Some (claim_by (named l.self.search.nodes.items) c)
