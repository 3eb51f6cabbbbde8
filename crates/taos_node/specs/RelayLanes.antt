-- What the lanes of a relay do, and what is printed of it.
use Rattle.std.specs.Prelude.{ℕ, List, Option}
use Rattle.prin_text.specs.Held.{HoldsKeys}
use Rattle.frame_link.specs.Streams.{Stream}
use Rattle.node_file.specs.RelayFile.{RelayFile}
use Rattle.node_file.specs.RelayView.{StandsFor}
use Rattle.node_file.specs.declared.relay_file.RelayFile.{RelayFile as RelayValue}
use Rattle.relay_core.specs.declared.resealing.RelayTable.{RelayTable}
use Rattle.frame_link.specs.declared.limits.Limits.{Limits}
use Rattle.taos_lanes.specs.declared.total.Total.{Total}
use Rattle.taos_lanes.specs.Relaying.{RelaysLanes}
use Rattle.taos_lanes.specs.Workers.{LaneShown}
use Rattle.taos_monitor.specs.Changing.{Change}
use Rattle.taos_lanes.specs.Telling.{Telling}
use Rattle.taos_node.specs.declared.ending.LanesEnd.{LanesEnd}
use Rattle.taos_node.specs.Lanes.{PrintsLine, told_in}
use Rattle.taos_lanes.specs.Summary.{relays_line}

-- the relay has the keys of the file
pub record IsRelayOf (r : RelayFile) (table : RelayTable) : Type 0 where
  pub issuers : HoldsKeys table.issuers r.issuers
  pub nodes : HoldsKeys table.nodes r.nodes

-- a relay of the file served the doors of its lanes, with what is printed
pub record RelaysDoors {In Out : Type 0} (telling : Telling In Out) (r : RelayFile)
    (limits : Limits) (lanes : Change (List (LaneShown (In × Out))))
    (out : Change (Option (List ℕ))) (end : LanesEnd) : Type 0 where
  pub table : RelayTable
  pub is_relay : IsRelayOf r table
  pub total : Total
  pub serves : RelaysLanes telling table limits lanes total
  pub prints : PrintsLine total (relays_line total) out.before out.after end

-- So the lanes of a relay that stands for a file serve, with what is printed.
abbrev pub RelaysFile : {In Out : Type 0} → Telling In Out → RelayValue → Limits →
    Change (List (LaneShown (In × Out))) → Change Stream → LanesEnd → Type 0
RelaysFile telling relay limits lanes output end =
    (r : RelayFile) → StandsFor relay r → RelaysDoors telling r limits lanes (told_in output) end
