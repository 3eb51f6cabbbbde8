-- There is room for the longest payload.
use Rattle.std.proofs.Common.{◌≤◌, vec_capacity}
use Rattle.frame_link.specs.declared.service.TheConstants.{MAX_PAYLOAD}
use Rattle.system_tests.proofs.hub_play.bytes_in_pieces_of_every_size_are_served.Given as goal

abbrev pub invariant-loop-number : goal.invariant-loop-number
invariant-loop-number g l = MAX_PAYLOAD ≤ vec_capacity l.out
