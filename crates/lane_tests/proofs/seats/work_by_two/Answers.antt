use mir.Syntax.{named}
use denote.Param.{param}
use denote.Param.Send.{IsSend, IsSync, param_send, sendable}
use denote.Param.SendFields.{declared_send, declared_sync}
use denote.Ref.{ShrRef}
use Rattle.std.proofs.Common.{[], ◌∷◌}
use Rattle.std.proofs.Crossing.{crosses}
use Rattle.std.specs.contracts.alloc.Global as alloc
use Rattle.std.proofs.alloc.Global.TheSendSync as alloc_cross
use Rattle.std.proofs.option.Option.TheSendSync as option
use Rattle.agent_shards.proofs.Crossing.{agent_sync, passes_send, rack_passes_send, rack_sync}
use Rattle.lane_tests.specs.contracts.meeting.Flags as flags
use Rattle.lane_tests.specs.contracts.meeting.When as when
use Rattle.lane_tests.specs.contracts.seats.Node as node
use Rattle.lane_tests.specs.contracts.seats.Seat as seat
use Rattle.lane_tests.specs.contracts.tasks.Task as task
use Rattle.lane_tests.proofs.Crossing.{captures_send}
use Rattle.lane_tests.proofs.meeting.Flags.TheSendSync as flags_cross
use Rattle.lane_tests.proofs.meeting.When.TheSendSync as when_cross
use Rattle.lane_tests.proofs.tasks.Report.TheSendSync as report
use Rattle.lane_tests.proofs.tasks.Task.TheSendSync as task_cross
use Rattle.lane_tests.proofs.seats.work_by_two.Goals as goal

-- a seat may go to another thread
seat_send : IsSend seat.the_row
seat_send = declared_send seat.the_type (passes_send, (rack_passes_send, tt))

-- both threads may share the cells
node_sync : IsSync node.the_row
node_sync = declared_sync node.the_type (agent_sync, (rack_sync, tt))

-- what the first closure captures, in its order; what it owns and leaves does not depend on its name
pub join-requires-send-F : goal.join-requires-send-F
join-requires-send-F g c κs within =
    let all = param_send 1 _ (captures_send []
    (ShrRef (named 6) κs.1.1.1.1.1.1.0 (param 0 g.row.R) ∷ alloc.the_row ∷ ShrRef (named 7) κs.1.1.1.1.1.1.1.0 node.the_row ∷ seat.the_row ∷ when.the_row ∷ task.the_row ∷ ShrRef (named 8) κs.1.1.1.1.1.1.1.1.0 flags.the_row ∷ [])
    (search (sendable, c.type_bounds.sync-R), (alloc_cross.the_send, (search (sendable, node_sync), (seat_send, (when_cross.the_send, (task_cross.the_send, (search (sendable, flags_cross.the_sync), tt)))))))) in
    record { owned = all.owned; leaving = all.leaving }

pub join-requires-send-A : goal.join-requires-send-A
join-requires-send-A g c κs within = search (sendable, crosses, option.the_send, seat_send, report.the_send) depth 12
