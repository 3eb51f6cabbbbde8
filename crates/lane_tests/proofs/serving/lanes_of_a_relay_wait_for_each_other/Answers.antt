-- The same of a relay's lanes.
use denote.Param.Send.{sendable}
use Rattle.std.proofs.Crossing.{crosses}
use Rattle.frame_link.proofs.closed.NoRelay.TheSendSync as relay
use Rattle.frame_link.proofs.mem_clock.MemClock.TheSendSync as clock
use Rattle.frame_link.proofs.mem_door.MemDoor.TheSendSync as door
use Rattle.frame_link.proofs.mem_sink.MemSink.TheSendSync as sink
use Rattle.cred_pull.proofs.mem_fetch.MemFetch.TheSendSync as fetch
use Rattle.taos_lanes.proofs.Crossing.{lane_send}
use Rattle.lane_tests.proofs.pacing.Paced.TheSendSync as paced
use Rattle.lane_tests.proofs.serving.lanes_of_a_relay_wait_for_each_other.Goals as goal

pub serve_relays-total-requires-send-L : goal.serve_relays-total-requires-send-L
serve_relays-total-requires-send-L c κs within = search (sendable, crosses, lane_send, clock.the_send, relay.the_send, door.the_send, paced.the_send, sink.the_send, fetch.the_send) depth 10
