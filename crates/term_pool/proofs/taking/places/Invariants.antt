use Rattle.std.proofs.Common.{◌≡◌, take, map}
use Rattle.term_pool.specs.Claims.{place_at}
use Rattle.term_pool.proofs.taking.places.Given as goal

abbrev pub invariant-loop-i : goal.invariant-loop-i
invariant-loop-i l = l.out.items ≡ map (place_at l.cited) (take l.i l.used)
