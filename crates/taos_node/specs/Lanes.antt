-- What the lanes of a node do, and what is printed of it.
use Rattle.std.specs.Prelude.{◌≡◌, ℕ, Bool, ◌<◌, ◌≤◌, List, ◌++◌, length, Option}
use Rattle.std.specs.Io.KnownBytes.{Appends, Keeps}
use Rattle.std.specs.List.{AllZip}
use Rattle.frame_link.specs.Faults.{Rose}
use Rattle.frame_link.specs.Streams.{Stream}
use Rattle.node_file.specs.Opening.{Opening}
use Rattle.node_commands.specs.Words.{ServeWords, serve_words}
use Rattle.frame_link.specs.declared.limits.Limits.{Limits}
use Rattle.taos_lanes.specs.declared.parts.NodeParts.{NodeParts}
use Rattle.taos_lanes.specs.declared.total.Total.{Total}
use Rattle.taos_lanes.specs.Parts.{node_in}
use Rattle.taos_lanes.specs.Serving.{Left}
use Rattle.taos_lanes.specs.Workers.{HasOtherWork, LaneShown}
use Rattle.taos_monitor.specs.Changing.{Change, change}
use Rattle.taos_lanes.specs.Telling.{Telling}
use Rattle.taos_node.specs.declared.ending.LanesEnd.{LanesEnd}
use Rattle.taos_node.specs.declared.ending.LanesEnd.TheVariants as lanes
use Rattle.taos_node.specs.declared.lanes.LanesAsked.{LanesAsked}
use Rattle.taos_lanes.specs.Opened.{IsNodeOf, ServesOpening}
use Rattle.taos_lanes.specs.Summary.{lanes_line}

-- no door failed: the first lane whose door did is none of the lanes
abbrev pub HasNoneFailed : Total → Type 0
HasNoneFailed total = total.lanes ≤ total.first_failed

-- no door failed, and no connection ended for want of memory
pub record IsWhole (total : Total) : Type 0 where
  pub doors : HasNoneFailed total
  pub memory : total.lacked ≡ 0

-- What is printed of what lanes counted, by how it ends: this line, or a proper front of it; nothing
-- where a door failed, or a connection ended for want of memory.
abbrev pub PrintsLine : Total → List ℕ → Option (List ℕ) → Option (List ℕ) → LanesEnd → Type 0
PrintsLine total text out0 out1 lanes.Done = IsWhole total × Appends out0 out1 text
PrintsLine total text out0 out1 (lanes.DoorFault lane) =
    (lane ≡ total.first_failed) × (lane < total.lanes) × Keeps out0 out1
PrintsLine total text out0 out1 lanes.WriteFault =
    IsWhole total
    × ((part more : List ℕ) × (text ≡ part ++ more) × (0 < length more)
    × Appends out0 out1 part)
PrintsLine total text out0 out1 lanes.NoMemory =
    HasNoneFailed total × (0 < total.lacked) × Keeps out0 out1

-- what is printed of what the lanes of a node left
abbrev pub Prints : Left → Option (List ℕ) → Option (List ℕ) → LanesEnd → Type 0
Prints l = PrintsLine l.total (lanes_line l)

-- the output's count rose where a fault of writing is answered, and else stayed
abbrev pub LanesCauses : ℕ → ℕ → LanesEnd → Type 0
LanesCauses out0 out1 lanes.Done = out1 ≡ out0
LanesCauses out0 out1 (lanes.DoorFault lane) = out1 ≡ out0
LanesCauses out0 out1 lanes.WriteFault = (out0 ≤ out1) × Rose out0 out1
LanesCauses out0 out1 lanes.NoMemory = out1 ≡ out0

module _ {In Out : Type 0} (telling : Telling In Out) (o : Opening) (pulls : Bool)
    (limits : Limits) where
  -- what lanes did, with what is printed
  pub data ServesLanes (doors : Change (List (LaneShown (In × Out))))
      (out : Change (Option (List ℕ))) (end : LanesEnd) : Type 0 where
    -- memory was refused before the first connection, and no door was asked
    unserved : end ≡ lanes.NoMemory → AllZip HasOtherWork doors.before doors.after →
        Keeps out.before out.after → ServesLanes doors out end
    served : (l : Left) → ServesOpening telling o pulls limits doors l →
        Prints l out.before out.after end → ServesLanes doors out end

-- what the lanes of a node are asked for
abbrev pub lanes_words : LanesAsked → ServeWords
lanes_words asked = serve_words asked.limits asked.lemmas asked.pulls

-- what was told of a stream
abbrev pub told_in : Change Stream → Change (Option (List ℕ))
told_in stream = change stream.before.told stream.after.told

-- So the lanes of a node of these parts serve, of whatever opening it is, with what is printed.
abbrev pub ServesParts : {In Out : Type 0} → Telling In Out → NodeParts → LanesAsked →
    Change (List (LaneShown (In × Out))) → Change Stream → LanesEnd → Type 0
ServesParts telling parts asked lanes output end =
    (o : Opening) → IsNodeOf o (node_in parts) →
    ServesLanes telling o asked.pulls asked.limits lanes (told_in output) end
