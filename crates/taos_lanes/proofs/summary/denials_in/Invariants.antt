use Rattle.std.proofs.Common.{◌≡◌, ◌*◌, ◌^◌, ◌≤◌, take}
use Rattle.taos_lanes.specs.Summary.{denials_of}
use Rattle.taos_lanes.proofs.summary.denials_in.Given as goal

abbrev pub invariant-loop-object : goal.invariant-loop-object
invariant-loop-object l = (l.count ≡ denials_of (take l.object-index l.fn.objects)) × (l.count ≤ l.object-index * 2 ^ 64)
