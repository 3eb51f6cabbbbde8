-- What keeps a command from its good end, and the exit status that tells it.
use Rattle.std.specs.Prelude.{ℕ, Option, Some, None, true, false}
use Rattle.frame_link.specs.declared.outcome.Outcome.{Outcome}
use Rattle.frame_link.specs.declared.outcome.Outcome.TheVariants as outcome
use Rattle.node_commands.specs.declared.check.CheckEnd.{CheckEnd}
use Rattle.node_commands.specs.declared.check.CheckEnd.TheVariants as check
use Rattle.node_commands.specs.declared.finding.Finding.TheVariants as finding
use Rattle.node_journals.specs.declared.audit.AuditEnd.{AuditEnd}
use Rattle.node_journals.specs.declared.audit.AuditEnd.TheVariants as audit
use Rattle.taos_node.specs.declared.drills.serving.DrillEnd.{DrillEnd}
use Rattle.taos_node.specs.declared.drills.serving.DrillEnd.TheVariants as drill
use Rattle.taos_node.specs.declared.ending.Ending.{Ending}
use Rattle.taos_node.specs.declared.ending.Ending.TheVariants as ending
use Rattle.node_commands.specs.declared.fault.FileFault.{FileFault}
use Rattle.node_commands.specs.declared.fault.FileFault.TheVariants as fault
use Rattle.taos_node.specs.declared.ending.LanesEnd.{LanesEnd}
use Rattle.taos_node.specs.declared.ending.LanesEnd.TheVariants as lanes
use Rattle.node_commands.specs.declared.minting.MintEnd.{MintEnd}
use Rattle.node_commands.specs.declared.minting.MintEnd.TheVariants as mint
use Rattle.node_commands.specs.declared.path.PathEnd.{PathEnd}
use Rattle.node_commands.specs.declared.path.PathEnd.TheVariants as path
use Rattle.node_journals.specs.declared.replay.ReplayEnd.{ReplayEnd}
use Rattle.node_journals.specs.declared.replay.ReplayEnd.TheVariants as replay
use Rattle.taos_node.specs.declared.stop.Stop.{Stop}
use Rattle.taos_node.specs.declared.stop.Stop.TheVariants.{Usage, Line, Malformed, ReadFault, WriteFault, ClockFault, NoMemory, Truncated, TooLong, DoorFault, Spent, NotGranted, Word, Hop, Illegal}

-- ---- what stopped each command

abbrev pub file_stop : FileFault → Stop
file_stop (fault.Refused line cause) = Line line cause
file_stop (fault.Malformed offset) = Malformed offset
file_stop fault.ReadFault = ReadFault
file_stop fault.NoMemory = NoMemory

abbrev pub served_stop : Outcome → Option Stop
served_stop (outcome.End frames) = None
served_stop outcome.ReadFault = Some ReadFault
served_stop outcome.WriteFault = Some WriteFault
served_stop outcome.ClockFault = Some ClockFault
served_stop outcome.NoMemory = Some NoMemory
served_stop (outcome.Truncated have) = Some (Truncated have)
served_stop (outcome.TooLong n) = Some (TooLong n)
served_stop (outcome.Spent frames) = Some (Spent frames)

abbrev pub checked_stop : CheckEnd → Option Stop
checked_stop (check.Done (finding.Granted entry lines certs)) = None
checked_stop (check.Done (finding.Refused word)) = Some NotGranted
checked_stop check.ReadFault = Some ReadFault
checked_stop check.WriteFault = Some WriteFault
checked_stop check.NoMemory = Some NoMemory

abbrev pub minted_stop : MintEnd → Option Stop
minted_stop mint.Done = None
minted_stop (mint.Refused word) = Some (Word word)
minted_stop mint.WriteFault = Some WriteFault
minted_stop mint.NoMemory = Some NoMemory

abbrev pub lanes_stop : LanesEnd → Option Stop
lanes_stop lanes.Done = None
lanes_stop (lanes.DoorFault lane) = Some (DoorFault lane)
lanes_stop lanes.WriteFault = Some WriteFault
lanes_stop lanes.NoMemory = Some NoMemory

abbrev pub audited_stop : AuditEnd → Option Stop
audited_stop audit.Done = None
audited_stop (audit.Stopped outcome) = served_stop outcome
audited_stop audit.WriteFault = Some WriteFault
audited_stop audit.NoMemory = Some NoMemory

abbrev pub drilled_stop : DrillEnd → Option Stop
drilled_stop drill.Done = None
drilled_stop drill.WriteFault = Some WriteFault
drilled_stop drill.NoMemory = Some NoMemory

abbrev pub path_stop : PathEnd → Option Stop
path_stop path.Done = None
path_stop (path.Refused hop code) = Some (Hop hop code)
path_stop path.ReadFault = Some ReadFault
path_stop path.WriteFault = Some WriteFault
path_stop path.NoMemory = Some NoMemory

abbrev pub replay_stop : ReplayEnd → Option Stop
replay_stop (replay.Done true) = None
replay_stop (replay.Done false) = Some Illegal
replay_stop replay.ReadFault = Some ReadFault
replay_stop replay.WriteFault = Some WriteFault
replay_stop replay.NoMemory = Some NoMemory

abbrev pub stop_of : Ending → Option Stop
stop_of ending.Usage = Some Usage
stop_of ending.NoMemory = Some NoMemory
stop_of (ending.File fault) = Some (file_stop fault)
stop_of (ending.Served outcome) = served_stop outcome
stop_of (ending.Checked end) = checked_stop end
stop_of (ending.Relayed outcome) = served_stop outcome
stop_of (ending.Minted end) = minted_stop end
stop_of (ending.Lanes end) = lanes_stop end
stop_of (ending.RelayLanes end) = lanes_stop end
stop_of (ending.Audited end) = audited_stop end
stop_of (ending.Drilled end) = drilled_stop end
stop_of (ending.Passed end) = path_stop end
stop_of (ending.Walleted outcome) = served_stop outcome
stop_of (ending.Replayed end) = replay_stop end

-- ---- the exit status

abbrev pub stop_status : Stop → ℕ
stop_status Usage = 1
stop_status (Line line cause) = 2
stop_status (Malformed offset) = 2
stop_status ReadFault = 3
stop_status WriteFault = 4
stop_status ClockFault = 5
stop_status NoMemory = 6
stop_status (Truncated have) = 7
stop_status (TooLong n) = 8
stop_status (DoorFault lane) = 9
stop_status (Spent frames) = 10
stop_status NotGranted = 11
stop_status (Word word) = 12
stop_status (Hop hop code) = 13
stop_status Illegal = 14

-- 0 where nothing stopped it
abbrev pub status_by : Option Stop → ℕ
status_by None = 0
status_by (Some stop) = stop_status stop

-- the exit status of an ending
abbrev pub status_of : Ending → ℕ
status_of ending = status_by (stop_of ending)
