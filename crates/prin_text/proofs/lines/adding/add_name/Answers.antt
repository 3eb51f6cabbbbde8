use Rattle.std.proofs.Common.{◌++◌, ◌∷◌, [], Err, subst, sym}
use Rattle.prin_text.specs.declared.limits.TheConstants.{MAX_NAMES}
use Rattle.prin_text.proofs.Rows.{no_label, text_refused, text_taken}
use Rattle.prin_text.specs.FileLines.{text_cause, unless}
use Rattle.prin_text.specs.Held.{HoldsRows}
use Rattle.prin_text.specs.LineView.{TakesLine}
use Rattle.prin_text.specs.declared.lines.line_fault.LineFault.{LineFault}
use Rattle.prin_text.proofs.lines.adding.add_name.Goals as goal

pub returns-in_default-clause-takes : goal.returns-in_default-clause-takes
returns-in_default-clause-takes c = λ rows held. no_label MAX_NAMES rows c.args.number c.args.text.now c.in_default.ensures.cases.0

-- the text that was read is the bytes
pub returns-in-Ok-add_name-clause-takes : goal.returns-in-Ok-add_name-clause-takes
returns-in-Ok-add_name-clause-takes c = λ rows held.
    let same = c.in-Ok.ensures.cases.0 in
    text_taken MAX_NAMES c.args.names.now.names rows c.args.number c.args.text.now held c.add_name.new.self.names
    (rw same at c.in-Ok-add_name.ensures.accepted) (rw same at c.in-Ok-add_name.ensures.added)

pub returns-in-Err-clause-takes : goal.returns-in-Err-clause-takes
returns-in-Err-clause-takes c = λ rows held.
    let same = c.in-Ok.ensures.cases.0 in
    subst (λ (f : LineFault). TakesLine HoldsRows (Err f) c.add_name.new.self.names (unless (text_cause MAX_NAMES rows c.args.number c.args.text.now) (rows ++ (c.args.number, c.args.text.now) ∷ []))) (sym c.fault_of.ensures)
    (text_refused MAX_NAMES c.args.names.now.names rows c.args.number c.args.text.now held c.in-Err.fault c.add_name.new.self.names (rw same at c.in-Err.ensures.refused))
