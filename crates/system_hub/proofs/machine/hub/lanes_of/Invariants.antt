-- The lanes so far, each empty.
use Rattle.std.proofs.Common.{◌≡◌, [], replicate}
use Rattle.system_hub.proofs.machine.hub.lanes_of.Given as goal

abbrev pub invariant-loop-lane : goal.invariant-loop-lane
invariant-loop-lane l =
    l.all.items ≡ replicate l._lane (record { waiting = []; turns = []; room = l.fn.clients })
