use Rattle.frame_link.specs.Served.{counts_of}
use Rattle.relay_core.specs.declared.resealing.RelayTable.{RelayTable}
use Rattle.request_course.specs.World.{clock_faults}
use Rattle.taos_lanes.proofs.laws.steady_visits_have_no_fault.Goals as goal

pub returns-clause-node : goal.returns-clause-node
returns-clause-node c = λ n limit v still fault.
    c.steady_counts_cause_no_fault.ensures.none (counts_of clock_faults v.before) (counts_of clock_faults v.after) v.outcome v.connects.causes still fault

pub returns-clause-relay : goal.returns-clause-relay
returns-clause-relay c = λ limit v still fault.
    c.steady_counts_cause_no_fault.ensures.none (counts_of (λ (t : RelayTable). 0) v.before) (counts_of (λ (t : RelayTable). 0) v.after) v.outcome v.connects.causes still fault
