-- What the status tells of a replay.
use Rattle.std.proofs.Common.{◌≡◌, List, true, false, refl, inl, inr}
use Rattle.std.specs.Prelude.{String}
use Rattle.std.specs.declared.alloc.Global.{Global}
use Rattle.node_file.specs.Opening.{Opening}
use Rattle.node_commands.specs.Words.{Mean, Replay}
use Rattle.taos_node.specs.Calls.{Touched}
use Rattle.taos_node.specs.Status.{IsStatus, ReplaysWell}
use Rattle.node_commands.specs.Files.{IsNodeFile, OpensNode, node_means}
use Rattle.node_journals.specs.Replaying.{ReplayCauses}
use Rattle.node_journals.specs.declared.replay.ReplayEnd.{ReplayEnd}
use Rattle.node_journals.specs.declared.replay.ReplayEnd.TheVariants as replay_ends
use Rattle.taos_node.proofs.Commands.{decided_opened, still}
use Rattle.node_commands.proofs.Meant.{node_files}
use Rattle.taos_node.proofs.Statuses.{Rises, all_same, by_read, by_write, ended, stays}
use Rattle.taos_node.proofs.Stopped.{replay_status}

module _ (before after : Touched) where
  -- what failed rose, and nothing else
  abbrev ReplayCaused : ReplayEnd → Type 0
  ReplayCaused end = ReplayCauses before.input.faults after.input.faults before.output.faults after.output.faults end

  replay_rises : (words : List (String Global)) (end : ReplayEnd) → after.clock.faults ≡ before.clock.faults → ReplayCaused end → Rises words before after (replay_status end)
  replay_rises words (replay_ends.Done true) clock h = stays refl (all_same before after h.0 h.1 clock)
  replay_rises words (replay_ends.Done false) clock h = stays refl (all_same before after h.0 h.1 clock)
  replay_rises words replay_ends.ReadFault clock h = by_read refl h.1 h.2 clock
  replay_rises words replay_ends.WriteFault clock h = by_write refl h.2 h.0 clock
  replay_rises words replay_ends.NoMemory clock h = stays refl (all_same before after h.0 h.1 clock)

  replay_well : (end : ReplayEnd) → ReplayCaused end → ReplaysWell before after (replay_status end)
  replay_well (replay_ends.Done true) h bytes o told is sf si so = inl refl
  replay_well (replay_ends.Done false) h bytes o told is sf si so = inr (inl refl)
  replay_well replay_ends.ReadFault h bytes o told is sf si so = absurd (still before.input.faults after.input.faults si h.1)
  replay_well replay_ends.WriteFault h bytes o told is sf si so = absurd (still before.output.faults after.output.faults so h.2)
  replay_well replay_ends.NoMemory h bytes o told is sf si so = inr (inr refl)

pub replayed : (words : List (String Global)) (before after : Touched) (o : Opening) (end : ReplayEnd) → Mean words Replay → OpensNode before.file after.file o →
    after.file.faults ≡ before.file.faults → after.clock.faults ≡ before.clock.faults → ReplayCauses before.input.faults after.input.faults before.output.faults after.output.faults end →
    IsStatus words before after (replay_status end)
replayed words before after o end replay opens same clock h =
    ended Replay replay (decided_opened IsNodeFile node_means node_files before.file after.file o (replay_status end) opens) (replay_well before after end h) same (replay_rises before after words end clock h)
