-- What goes to workers: a lane with its stock, and the node's keys and cells that they share.
use denote.Param.Send.{IsSend, IsSync, sendable}
use denote.Param.SendFields.{declared_send, declared_sync, as_row_send, as_row_sync}
use Rattle.std.proofs.Crossing.{crosses}
use Rattle.agent_shards.proofs.Crossing.{agent_sync, cert_send, cert_sync, passes_send, rack_passes_send, rack_sync, term_send}
use Rattle.std.proofs.alloc.Global.TheSendSync as global
use Rattle.std.proofs.option.Option.TheSendSync as option
use Rattle.arrayvec.proofs.array_vec.ArrayVec.TheSendSync as array_vec
use Rattle.lru.proofs.cache.LruCache.TheSendSync as lru_cache
use Rattle.taos_lanes.specs.contracts.lane.Lane as lane
use Rattle.taos_lanes.specs.contracts.lane.Stock as stock
use Rattle.taos_lanes.specs.contracts.sitting.Shared as shared
use Rattle.taos_lanes.specs.contracts.relaying.Relay as relay
use Rattle.relay_core.specs.contracts.resealing.RelayTable as table
use Rattle.relay_core.proofs.resealing.RelayTable.TheSendSync as table_cross
use Rattle.taos_lanes.proofs.tally.Tally.TheSendSync as tally
use Rattle.goal_search.specs.contracts.workbench.Workbench as workbench
use Rattle.goal_search.specs.contracts.workbench.WorkbenchDecide.TheImpl.{ghosts}
use Rattle.goal_search.proofs.asked.Asked.TheSendSync as asked
use Rattle.lemma_memo.specs.contracts.kept.Kept as kept
use Rattle.lemma_memo.specs.contracts.lemmas.Lemmas as lemmas
use Rattle.lemma_memo.specs.contracts.memory.Memory as memory
use Rattle.prin_term.proofs.term.Anchor.TheSendSync as anchor
use Rattle.taos_calculus.proofs.proof.Proof.TheSendSync as proof
use Rattle.taos_monitor.specs.contracts.node_keys.NodeKeys as keys
use Rattle.taos_monitor.proofs.node_keys.NodeKeys.TheSendSync as keys_cross

workbench_inside : IsSend workbench.TheInside.the_row
workbench_inside = declared_send workbench.TheInside.the_type (asked.the_send, tt)

workbench_send : IsSend workbench.the_row
workbench_send = search (sendable, workbench_inside)

kept_send : IsSend kept.the_row
kept_send = declared_send kept.the_type (term_send, (term_send, (search (sendable, proof.the_send), (search (sendable, as_row_send, array_vec.the_send), tt))))

memory_inside : IsSend memory.TheInside.the_row
memory_inside = declared_send memory.TheInside.the_type (
  search (sendable, crosses, as_row_send, anchor.the_send, anchor.the_sync),
  (
    search (sendable, crosses, as_row_send, cert_send, cert_sync),
    (
      search (sendable, as_row_send),
      (search (sendable, as_row_send, option.the_send, array_vec.the_send), (search (sendable, crosses, as_row_send, option.the_send, lru_cache.the_send, global.the_send, kept_send) depth 10, (search (sendable, as_row_send), tt))),
    ),
  ),
)

memory_send : IsSend memory.the_row
memory_send = search (sendable, memory_inside)

lemmas_inside : IsSend (lemmas.TheInside.the_row workbench.the_row ghosts)
lemmas_inside = declared_send (lemmas.TheInside.the_type workbench.the_row ghosts) (search (sendable, workbench_send), (memory_send, tt))

lemmas_send : IsSend (lemmas.the_row workbench.the_row ghosts)
lemmas_send = search (sendable, lemmas_inside)

pub stock_send : IsSend stock.the_row
stock_send = declared_send stock.the_type (passes_send, (rack_passes_send, (lemmas_send, (tally.the_send, tt))))

pub keys_sync : IsSync keys.the_row
keys_sync = keys_cross.the_sync

pub lane_send : (C R D P I O : _) → IsSend C → IsSend R → IsSend D → IsSend P → IsSend (lane.the_row C R D P I O)
lane_send C R D P I O c r d p = declared_send (lane.the_type C R D P I O) (search (sendable, c), (search (sendable, r), (search (sendable, d), (search (sendable, p), (search (sendable, as_row_send, option.the_send, stock_send), (search (sendable, as_row_send, tally.the_send), tt))))))

pub shared_sync : (κ W K L : _) → IsSync W → IsSync K → IsSync L → IsSync (shared.the_row κ W K L)
shared_sync κ W K L w k l = declared_sync (shared.the_type κ W K L)
    (search (sendable, w), (search (sendable, as_row_sync, global.the_sync), (search (sendable, keys_sync), (search (sendable, agent_sync), (search (sendable, rack_sync), (search (sendable, as_row_sync), (search (sendable, as_row_sync), (search (sendable, as_row_sync, crosses), tt))))))))

table_sync : IsSync table.the_row
table_sync = table_cross.the_sync

pub relay_sync : (κ : _) → IsSync (relay.the_row κ)
relay_sync κ = declared_sync (relay.the_type κ) (search (sendable, as_row_sync, global.the_sync), (search (sendable, table_sync), (search (sendable, as_row_sync), tt)))
