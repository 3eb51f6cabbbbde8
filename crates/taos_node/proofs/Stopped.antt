-- The exit status of each kind of end.
use Rattle.std.proofs.Common.{ℕ}
use Rattle.frame_link.specs.declared.outcome.Outcome.{Outcome}
use Rattle.node_commands.specs.declared.check.CheckEnd.{CheckEnd}
use Rattle.node_journals.specs.declared.audit.AuditEnd.{AuditEnd}
use Rattle.taos_node.specs.declared.drills.serving.DrillEnd.{DrillEnd}
use Rattle.node_commands.specs.declared.fault.FileFault.{FileFault}
use Rattle.taos_node.specs.declared.ending.LanesEnd.{LanesEnd}
use Rattle.node_commands.specs.declared.minting.MintEnd.{MintEnd}
use Rattle.node_commands.specs.declared.path.PathEnd.{PathEnd}
use Rattle.node_journals.specs.declared.replay.ReplayEnd.{ReplayEnd}
use Rattle.taos_node.specs.Stops.{audited_stop, checked_stop, drilled_stop, file_stop, lanes_stop, minted_stop, path_stop, replay_stop, served_stop, status_by, stop_status}

abbrev pub file_status : FileFault → ℕ
file_status fault = stop_status (file_stop fault)

abbrev pub served_status : Outcome → ℕ
served_status outcome = status_by (served_stop outcome)

abbrev pub checked_status : CheckEnd → ℕ
checked_status end = status_by (checked_stop end)

abbrev pub minted_status : MintEnd → ℕ
minted_status end = status_by (minted_stop end)

abbrev pub lanes_status : LanesEnd → ℕ
lanes_status end = status_by (lanes_stop end)

abbrev pub audited_status : AuditEnd → ℕ
audited_status end = status_by (audited_stop end)

abbrev pub drilled_status : DrillEnd → ℕ
drilled_status end = status_by (drilled_stop end)

abbrev pub path_status : PathEnd → ℕ
path_status end = status_by (path_stop end)

abbrev pub replay_status : ReplayEnd → ℕ
replay_status end = status_by (replay_stop end)
