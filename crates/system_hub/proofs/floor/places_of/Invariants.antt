-- The places so far, each of nobody.
use Rattle.std.proofs.Common.{◌≡◌, None, replicate}
use Rattle.system_hub.proofs.floor.places_of.Given as goal

abbrev pub invariant-loop-place : goal.invariant-loop-place
invariant-loop-place l = l.places.items ≡ replicate l._place None
