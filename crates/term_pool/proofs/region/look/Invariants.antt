use Rattle.term_pool.proofs.Filed.{IsOn}
use Rattle.std.proofs.Common.{length}
use Rattle.term_pool.proofs.region.look.Given as goal

abbrev pub invariant-loop-link : goal.invariant-loop-link
invariant-loop-link l = IsOn l.nodes (length l.heads) l.node l.link

abbrev pub decreases-loop-link : goal.decreases-loop-link
decreases-loop-link l = l.link
