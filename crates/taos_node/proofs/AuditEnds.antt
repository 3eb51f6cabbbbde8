-- How an audit ends, by how its connection did.
use Rattle.std.proofs.Common.{◌≡◌, ℕ, List, length, Option, refl, ap, subst, arith, inl, inr}
use Rattle.frame_link.specs.declared.outcome.Outcome.{Outcome}
use Rattle.frame_link.specs.declared.outcome.Outcome.TheVariants.{End, Truncated, TooLong, ReadFault, WriteFault, ClockFault, Spent, NoMemory}
use Rattle.frame_link.specs.Served.{FaultCounts, CountsCause}
use Rattle.node_journals.specs.declared.audit.AuditEnd.{AuditEnd}
use Rattle.node_journals.specs.declared.audit.AuditEnd.TheVariants as audits
use Rattle.taos_node.specs.Audit.{counts, AuditCauses, AuditIsComplete, IsEnd, WritesAudit}
use Rattle.node_journals.specs.Audit.{TextHasCause, WritesText}
use Rattle.taos_node.proofs.Commands.{still}
use Rattle.taos_node.proofs.Statuses.{IsCompleteBy, same_counts}

-- the causes of a connection whose replies nobody has are those where the output stood still
pub stopped_causes : (i c i1 c1 o : ℕ) (outcome : Outcome) → CountsCause (counts i 0 c) (counts i1 0 c1) outcome → CountsCause (counts i o c) (counts i1 o c1) outcome
stopped_causes i c i1 c1 o ReadFault h = (h.0, h.1, refl, h.3)
stopped_causes i c i1 c1 o WriteFault h = absurd (omega (arith, h.1))
stopped_causes i c i1 c1 o ClockFault h = (h.0, h.1, h.2, refl)
stopped_causes i c i1 c1 o (End n) h = same_counts i o c i1 o c1 (ap (λ (f : FaultCounts). f.input) h) refl (ap (λ (f : FaultCounts). f.clock) h)
stopped_causes i c i1 c1 o (Truncated n) h = same_counts i o c i1 o c1 (ap (λ (f : FaultCounts). f.input) h) refl (ap (λ (f : FaultCounts). f.clock) h)
stopped_causes i c i1 c1 o (TooLong n) h = same_counts i o c i1 o c1 (ap (λ (f : FaultCounts). f.input) h) refl (ap (λ (f : FaultCounts). f.clock) h)
stopped_causes i c i1 c1 o (Spent n) h = same_counts i o c i1 o c1 (ap (λ (f : FaultCounts). f.input) h) refl (ap (λ (f : FaultCounts). f.clock) h)
stopped_causes i c i1 c1 o NoMemory h = same_counts i o c i1 o c1 (ap (λ (f : FaultCounts). f.input) h) refl (ap (λ (f : FaultCounts). f.clock) h)

-- where nothing rose it stopped for want of memory alone
pub stopped_complete : (limit i c i1 c1 o : ℕ) (input : Option (List ℕ)) (outcome : Outcome) → (IsEnd outcome → ⊥) → IsCompleteBy limit input (counts i 0 c) (counts i1 0 c1) outcome →
    AuditIsComplete limit input (counts i o c) (counts i1 o c1) (audits.Stopped outcome)
stopped_complete limit i c i1 c1 o input outcome not complete payloads whole within few steady =
    let same = same_counts i 0 c i1 0 c1 (ap (λ (f : FaultCounts). f.input) steady.same) refl (ap (λ (f : FaultCounts). f.clock) steady.same) in
    elim (complete payloads whole within few (record { same = same; input = steady.input; output = omega arith; clock = steady.clock })) [
      | inl ended ↦ absurd (not (length payloads, ended))
      | inr want ↦ inr (inr (ap audits.Stopped want))
    ]

-- where it ended with whole frames no count rose
pub ended_same : (i c i1 c1 n : ℕ) (outcome : Outcome) → outcome ≡ End n → CountsCause (counts i 0 c) (counts i1 0 c1) outcome → counts i1 0 c1 ≡ counts i 0 c
ended_same i c i1 c1 n outcome is h = subst (CountsCause (counts i 0 c) (counts i1 0 c1)) is h

-- the same where the text was to be written
module _ (i c i1 c1 o o1 : ℕ) (same : counts i1 0 c1 ≡ counts i 0 c) (text : List ℕ) (out0 out1 : Option (List ℕ)) where
  pub ended_causes : (end : AuditEnd) → WritesText text out0 out1 end → TextHasCause o o1 end → AuditCauses (counts i o c) (counts i1 o1 c1) end
  ended_causes audits.Done w cause = same_counts i o c i1 o1 c1 (ap (λ (f : FaultCounts). f.input) same) cause (ap (λ (f : FaultCounts). f.clock) same)
  ended_causes (audits.Stopped other) w cause = absurd w
  ended_causes audits.WriteFault w cause = (cause.0, cause.1, ap (λ (f : FaultCounts). f.input) same, ap (λ (f : FaultCounts). f.clock) same)
  ended_causes audits.NoMemory w cause = same_counts i o c i1 o1 c1 (ap (λ (f : FaultCounts). f.input) same) cause (ap (λ (f : FaultCounts). f.clock) same)

  pub ended_complete : (limit : ℕ) (input : Option (List ℕ)) (end : AuditEnd) → WritesText text out0 out1 end → TextHasCause o o1 end → AuditIsComplete limit input (counts i o c) (counts i1 o1 c1) end
  ended_complete limit input audits.Done w cause payloads whole within few steady = inl refl
  ended_complete limit input (audits.Stopped other) w cause payloads whole within few steady = absurd w
  ended_complete limit input audits.WriteFault w cause payloads whole within few steady = absurd (still o o1 (ap (λ (f : FaultCounts). f.output) steady.same, steady.output) cause.1)
  ended_complete limit input audits.NoMemory w cause payloads whole within few steady = inr (inl refl)

pub ended_writes : (text : List ℕ) (out0 out1 : Option (List ℕ)) (outcome : Outcome) → IsEnd outcome → (end : AuditEnd) → WritesText text out0 out1 end → WritesAudit text outcome out0 out1 end
ended_writes text out0 out1 outcome is audits.Done w = (is, w)
ended_writes text out0 out1 outcome is (audits.Stopped other) w = absurd w
ended_writes text out0 out1 outcome is audits.WriteFault w = (is, w)
ended_writes text out0 out1 outcome is audits.NoMemory w = (is, w)
