-- What the status tells of an audit, of a drill and of a path.
use Rattle.std.proofs.Common.{◌≡◌, ◌⊎◌, ℕ, List, refl, sym, ap, subst, inl, inr}
use Rattle.std.specs.Prelude.{String}
use Rattle.relay_path.specs.Domains.{DomainKnows}
use Rattle.std.specs.declared.alloc.Global.{Global}
use Rattle.frame_link.specs.declared.outcome.Outcome.{Outcome}
use Rattle.frame_link.specs.declared.outcome.Outcome.TheVariants.{End, WriteFault, NoMemory}
use Rattle.frame_link.specs.Served.{CountsCause}
use Rattle.node_file.specs.Opening.{Opening}
use Rattle.node_journals.specs.declared.audit.AuditEnd.{AuditEnd}
use Rattle.node_journals.specs.declared.audit.AuditEnd.TheVariants as audits
use Rattle.taos_node.specs.declared.drills.serving.DrillEnd.{DrillEnd}
use Rattle.taos_node.specs.declared.drills.serving.DrillEnd.TheVariants as drills
use Rattle.taos_node.specs.Audit.{AuditCauses, AuditIsComplete}
use Rattle.node_journals.specs.declared.audit.Form.{Form}
use Rattle.node_journals.specs.declared.audit.Form.TheVariants as form
use Rattle.taos_node.specs.Calls.{Touched}
use Rattle.taos_node.specs.Command.{AsksAudit, ReadsClock, audit_task, counts_of}
use Rattle.taos_node.specs.Status.{EndsWell, EndsWellFor, FileDecidesFor, IsStatus, PassesWell}
use Rattle.taos_node.specs.Drills.{DrillCauses}
use Rattle.node_commands.specs.Files.{IsNodeFile, IsPathFile, IsSteady, OpensNode, OpensPath, node_means, path_means}
use Rattle.taos_node.specs.Deciding.{FileDecides}
use Rattle.node_commands.specs.Paths.{PathCauses}
use Rattle.node_commands.specs.declared.path.PathEnd.{PathEnd}
use Rattle.node_commands.specs.declared.path.PathEnd.TheVariants as passed_ends
use Rattle.node_commands.specs.Words.{Drill, DrillWords, Mean, Path, PathWords}
use Rattle.taos_node.proofs.Commands.{decided_opened, still}
use Rattle.node_commands.proofs.Meant.{node_files, path_files}
use Rattle.taos_node.proofs.Statuses.{Rises, all_same, by_read, by_write, ended, same_counts, serving_rises, stays}
use Rattle.taos_node.proofs.Stopped.{audited_status, drilled_status, path_status, served_status}

-- ---- an audit

-- an outcome that has the same status and the same causes
abbrev outcome_of : AuditEnd → Outcome
outcome_of audits.Done = End 0
outcome_of (audits.Stopped outcome) = outcome
outcome_of audits.WriteFault = WriteFault
outcome_of audits.NoMemory = NoMemory

same_status : (end : AuditEnd) → audited_status end ≡ served_status (outcome_of end)
same_status audits.Done = refl
same_status (audits.Stopped outcome) = refl
same_status audits.WriteFault = refl
same_status audits.NoMemory = refl

module _ (before after : Touched) where
  same_causes : (end : AuditEnd) → AuditCauses (counts_of before) (counts_of after) end → CountsCause (counts_of before) (counts_of after) (outcome_of end)
  same_causes audits.Done h = h
  same_causes (audits.Stopped outcome) h = h
  same_causes audits.WriteFault h = h
  same_causes audits.NoMemory h = h

  audit_rises : (words : List (String Global)) (end : AuditEnd) → ReadsClock words → AuditCauses (counts_of before) (counts_of after) end → Rises words before after (audited_status end)
  audit_rises words end reads h = subst (Rises words before after) (sym (same_status end)) (serving_rises before after words (outcome_of end) (λ _. reads) (same_causes end h))

  audit_well : (most : ℕ) (end : AuditEnd) → AuditIsComplete most before.input.told (counts_of before) (counts_of after) end → IsSteady before.clock after.clock → EndsWell IsNodeFile most before after (audited_status end)
  audit_well most end complete sc bytes o told is frames whole within few sf si so =
      let same = same_counts before.input.faults before.output.faults before.clock.faults after.input.faults after.output.faults after.clock.faults si.0 so.0 sc.0 in
      elim (complete frames whole within few (record { same = same; input = si.1; output = so.1; clock = sc.1 })) [
        | inl done ↦ inl (ap audited_status done)
        | inr want ↦ inr (lacked want)
      ]
    where
      lacked : (end ≡ audits.NoMemory) ⊎ (end ≡ audits.Stopped NoMemory) → audited_status end ≡ 6
      lacked (inl e) = ap audited_status e
      lacked (inr e) = ap audited_status e

pub audited : (words : List (String Global)) (kind : Form) (frames : ℕ) (before after : Touched) (end : AuditEnd) (o : Opening) → AsksAudit words kind frames → OpensNode before.file after.file o →
    after.file.faults ≡ before.file.faults → AuditIsComplete frames before.input.told (counts_of before) (counts_of after) end → AuditCauses (counts_of before) (counts_of after) end →
    IsStatus words before after (audited_status end)
audited words kind frames before after end o audit opens same complete h =
    ended (audit_task kind frames) audit (λ two. decides_audit kind (decided_opened IsNodeFile node_means node_files before.file after.file o (audited_status end) opens two))
    (ends_audit kind (audit_well before after frames end complete)) same (audit_rises before after words end (inr (kind, frames, audit)) h)
  where
    decides_audit : (form : Form) → FileDecides IsNodeFile before.file after.file (audited_status end) → FileDecidesFor (audit_task form frames) before.file after.file (audited_status end)
    decides_audit form.Text is = is
    decides_audit form.Bytes is = is

    ends_audit : (form : Form) → (IsSteady before.clock after.clock → EndsWell IsNodeFile frames before after (audited_status end)) → EndsWellFor (audit_task form frames) before after (audited_status end)
    ends_audit form.Text well = well
    ends_audit form.Bytes well = well

-- ---- a drill

module _ (before after : Touched) where
  drill_rises : (words : List (String Global)) (end : DrillEnd) → after.input.faults ≡ before.input.faults → after.clock.faults ≡ before.clock.faults → DrillCauses before.output.faults after.output.faults end → Rises words before after (drilled_status end)
  drill_rises words drills.Done input clock h = stays refl (all_same before after input h clock)
  drill_rises words drills.WriteFault input clock h = by_write refl h input clock
  drill_rises words drills.NoMemory input clock h = stays refl (all_same before after input h clock)

  drill_well : (end : DrillEnd) → DrillCauses before.output.faults after.output.faults end → IsSteady before.output after.output → (drilled_status end ≡ 0) ⊎ (drilled_status end ≡ 6)
  drill_well drills.Done h so = inl refl
  drill_well drills.WriteFault h so = absurd (still before.output.faults after.output.faults so h)
  drill_well drills.NoMemory h so = inr refl

pub drilled : (words : List (String Global)) (d : DrillWords) (before after : Touched) (end : DrillEnd) → Mean words (Drill d) → after.file.faults ≡ before.file.faults → after.input.faults ≡ before.input.faults →
    after.clock.faults ≡ before.clock.faults → DrillCauses before.output.faults after.output.faults end → IsStatus words before after (drilled_status end)
drilled words d before after end drill same input clock h = ended (Drill d) drill (λ two. two) (drill_well before after end h) same (drill_rises before after words end input clock h)

-- ---- a certificate that was passed along a route, or stopped

module _ (before after : Touched) where
  -- what failed rose, and nothing else
  abbrev PathCaused : PathEnd → Type 0
  PathCaused end = PathCauses before.input.faults after.input.faults before.output.faults after.output.faults end

  path_rises : (words : List (String Global)) (end : PathEnd) → after.clock.faults ≡ before.clock.faults → PathCaused end → Rises words before after (path_status end)
  path_rises words passed_ends.Done clock h = stays refl (all_same before after h.0 h.1 clock)
  path_rises words (passed_ends.Refused hop code) clock h = stays refl (all_same before after h.0 h.1 clock)
  path_rises words passed_ends.ReadFault clock h = by_read refl h.1 h.2 clock
  path_rises words passed_ends.WriteFault clock h = by_write refl h.2 h.0 clock
  path_rises words passed_ends.NoMemory clock h = stays refl (all_same before after h.0 h.1 clock)

  path_well : (end : PathEnd) → PathCaused end → PassesWell before after (path_status end)
  path_well passed_ends.Done h bytes ds told is sf si so = inl refl
  path_well (passed_ends.Refused hop code) h bytes ds told is sf si so = inr (inl refl)
  path_well passed_ends.ReadFault h bytes ds told is sf si so = absurd (still before.input.faults after.input.faults si h.1)
  path_well passed_ends.WriteFault h bytes ds told is sf si so = absurd (still before.output.faults after.output.faults so h.2)
  path_well passed_ends.NoMemory h bytes ds told is sf si so = inr (inr refl)

pub passed : (words : List (String Global)) (p : PathWords) (before after : Touched) (ds : List DomainKnows) (end : PathEnd) → Mean words (Path p) → OpensPath before.file after.file ds →
    after.file.faults ≡ before.file.faults → after.clock.faults ≡ before.clock.faults → PathCauses before.input.faults after.input.faults before.output.faults after.output.faults end →
    IsStatus words before after (path_status end)
passed words p before after ds end path opens same clock h =
    ended (Path p) path (decided_opened IsPathFile path_means path_files before.file after.file ds (path_status end) opens) (path_well before after end h) same (path_rises before after words end clock h)
