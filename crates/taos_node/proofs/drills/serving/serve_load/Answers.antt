-- the node is that of the load's opening, and its lanes have the load's streams
use denote.Param.Send.{sendable}
use Rattle.std.proofs.Crossing.{crosses}
use Rattle.std.proofs.Common.{ℕ, List, map, length, ap, sym, subst, arith}
use Rattle.taos_drill.specs.Opened.{drill_opening}
use Rattle.taos_drill.specs.Sent.{drill_streams}
use Rattle.frame_link.proofs.mem_clock.MemClock.TheSendSync as clock
use Rattle.frame_link.proofs.mem_door.MemDoor.TheSendSync as door
use Rattle.frame_link.proofs.mem_source.MemSource.TheSendSync as source
use Rattle.frame_link.proofs.closed.NoRelay.TheSendSync as relay
use Rattle.cred_pull.proofs.no_fetch.NoFetch.TheSendSync as fetch
use Rattle.taos_drill.proofs.sink.GrowingSink.TheSendSync as sink
use Rattle.taos_lanes.proofs.Crossing.{lane_send}
use Rattle.taos_lanes.specs.Parts.{node_in}
use Rattle.taos_monitor.specs.Changing.{change}
use Rattle.taos_node.specs.Drills.{AreDrillLanes, drill_shown}
use Rattle.taos_node.proofs.DrillRuns.{DrillLane, many_streams}
use Rattle.taos_node.proofs.drills.serving.serve_load.Goals as goal

pub serve-requires-clause-few : goal.serve-requires-clause-few
serve-requires-clause-few g c κs within =
    omega (arith, ap (λ (l : List DrillLane). length l) c.deref_mut.ensures.value, c.in_ok-lanes.ensures.count, many_streams c.args.asked.seed c.args.asked.requests c.args.asked.lanes c.in_ok-plan.plan.streams.items c.in_ok-plan.ensures.sent, c.requires.few_lanes)

pub serve-requires-clause-some : goal.serve-requires-clause-some
serve-requires-clause-some g c κs within =
    omega (arith, ap (λ (l : List DrillLane). length l) c.deref_mut.ensures.value, c.in_ok-lanes.ensures.count, many_streams c.args.asked.seed c.args.asked.requests c.args.asked.lanes c.in_ok-plan.plan.streams.items c.in_ok-plan.ensures.sent, c.requires.some_lanes)

pub serve-requires-clause-new : goal.serve-requires-clause-new
serve-requires-clause-new g c κs within = c.in_ok-parts.ensures.new

pub returns : goal.returns
returns g c =
    let asked = c.args.asked in
    let lanes = c.deref_mut.result.now in
    record {
      lanes = change (map drill_shown lanes) (map drill_shown c.serve.new.lanes);
      are = subst (λ (l : List DrillLane). AreDrillLanes (drill_streams asked.seed asked.requests asked.lanes) (map drill_shown l)) (sym c.deref_mut.ensures.value)
          (subst (λ (l : List (List ℕ)). AreDrillLanes l (map drill_shown c.in_ok-lanes.lanes.items)) c.in_ok-plan.ensures.sent c.in_ok-lanes.ensures.are);
      serves = record {
        node = node_in c.in_ok-parts.parts;
        is_node = c.in_ok-parts.ensures.is_node (drill_opening asked.seed asked.requests asked.lanes) c.in_ok-plan.ensures.opened;
        serves = c.in_ok-served.ensures.served;
      };
    }

pub serve-requires-send-L : goal.serve-requires-send-L
serve-requires-send-L g c κs within = search (sendable, crosses, lane_send, clock.the_send, door.the_send, source.the_send, relay.the_send, fetch.the_send, sink.the_send) depth 10
