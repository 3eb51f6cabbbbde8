-- The places so far.
use Rattle.std.proofs.Common.{◌≡◌, ◌≤◌, vec_capacity}
use Rattle.std.specs.List.{range_with_len}
use Rattle.system_hub.proofs.machine.hub.places_of.Given as goal

abbrev pub invariant-loop-place : goal.invariant-loop-place
invariant-loop-place l = (l.free.items ≡ range_with_len 0 l.place) × (l.fn.clients ≤ vec_capacity l.free)
