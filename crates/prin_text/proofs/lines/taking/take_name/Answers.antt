use Rattle.std.proofs.Common.{◌++◌, ◌∷◌, [], ℕ, List, Result, sym, ap, subst}
use Rattle.byte_fields.specs.Steps.{◌>>=◌}
use Rattle.prin_text.specs.declared.limits.TheConstants.{MAX_NAMES}
use Rattle.prin_text.specs.declared.lines.fault.FileCause.{FileCause}
use Rattle.prin_text.specs.FileLines.{text_cause, unless}
use Rattle.prin_text.specs.Held.{HoldsRows}
use Rattle.prin_text.specs.LineView.{TakesLine}
use Rattle.prin_text.proofs.lines.taking.take_name.Goals as goal

pub returns-in-Ok-clause-takes : goal.returns-in-Ok-clause-takes
returns-in-Ok-clause-takes c = λ rows held.
    subst (λ (r : Result (ℕ × List ℕ) FileCause). TakesLine HoldsRows c.add_name.result c.add_name.new.names.names (r >>= λ x. unless (text_cause MAX_NAMES rows x.0 x.1) (rows ++ (x.0, x.1) ∷ [])))
    c.in-Ok.ensures (c.add_name.ensures.takes rows held)

pub returns-in-Err-clause-takes : goal.returns-in-Err-clause-takes
returns-in-Err-clause-takes c = λ rows held.
    ap (λ (r : Result (ℕ × List ℕ) FileCause). r >>= λ x. unless (text_cause MAX_NAMES rows x.0 x.1) (rows ++ (x.0, x.1) ∷ [])) (sym c.in-Err.ensures)
