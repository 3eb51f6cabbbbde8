use Rattle.std.proofs.Common.{◌++◌, ◌∷◌, [], Err, subst, sym}
use Rattle.prin_text.specs.declared.limits.TheConstants.{MAX_ROLES}
use Rattle.prin_text.proofs.Rows.{no_label, text_refused, text_taken}
use Rattle.prin_text.specs.FileLines.{text_cause, unless}
use Rattle.prin_text.specs.Held.{HoldsRows}
use Rattle.prin_text.specs.LineView.{TakesLine}
use Rattle.prin_text.specs.declared.lines.line_fault.LineFault.{LineFault}
use Rattle.prin_text.proofs.lines.adding.add_role.Goals as goal

pub returns-in_default-clause-takes : goal.returns-in_default-clause-takes
returns-in_default-clause-takes c = λ rows held. no_label MAX_ROLES rows c.args.number c.args.text.now c.in_default.ensures.cases.0

-- the text that was read is the bytes
pub returns-in-Ok-add_role-clause-takes : goal.returns-in-Ok-add_role-clause-takes
returns-in-Ok-add_role-clause-takes c = λ rows held.
    let same = c.in-Ok.ensures.cases.0 in
    text_taken MAX_ROLES c.args.names.now.roles rows c.args.number c.args.text.now held c.add_role.new.self.roles
    (rw same at c.in-Ok-add_role.ensures.accepted) (rw same at c.in-Ok-add_role.ensures.added)

pub returns-in-Err-clause-takes : goal.returns-in-Err-clause-takes
returns-in-Err-clause-takes c = λ rows held.
    let same = c.in-Ok.ensures.cases.0 in
    subst (λ (f : LineFault). TakesLine HoldsRows (Err f) c.add_role.new.self.roles (unless (text_cause MAX_ROLES rows c.args.number c.args.text.now) (rows ++ (c.args.number, c.args.text.now) ∷ []))) (sym c.fault_of.ensures)
    (text_refused MAX_ROLES c.args.names.now.roles rows c.args.number c.args.text.now held c.in-Err.fault c.add_role.new.self.roles (rw same at c.in-Err.ensures.refused))
