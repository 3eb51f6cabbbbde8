use Rattle.std.proofs.Common.{◌≡◌, take}
use Rattle.denial_link.proofs.Sorting.{places_of}
use Rattle.denial_link.proofs.order.out_in_order.Given as goal

abbrev pub invariant-loop-place : goal.invariant-loop-place
invariant-loop-place l = l.places.items ≡ take l.place (places_of l.keys.items)
