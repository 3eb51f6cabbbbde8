-- It said its last, and is idle.
use Rattle.std.proofs.Common.{sym, subst}
use Rattle.system_hub.specs.Calls.{LeavesAs}
use Rattle.system_hub.specs.declared.machine.seat.Standing.{Standing}
use Rattle.system_hub.proofs.machine.seat.Seat.leaves.Goals as goal

pub returns-then-is_idle-2 : goal.returns-then-is_idle-2
returns-then-is_idle-2 c = (
  λ t. subst (λ (s : Standing). LeavesAs s c.args.self.now) (sym c.in-Ended.is) (c.is_idle-in-Ended.ensures.0 c.if-is_idle-2.true, c.lacks_frame.ensures.0 t),
  λ l. let leaves = subst (λ (s : Standing). LeavesAs s c.args.self.now) c.in-Ended.is l in c.lacks_frame.ensures.1 leaves.1,
)
