use Rattle.std.proofs.Common.{◌++◌, ◌∷◌, [], ℕ, List, Result, sym, ap, subst}
use Rattle.byte_fields.specs.Steps.{◌>>=◌}
use Rattle.prin_text.specs.declared.lines.fault.FileCause.{FileCause}
use Rattle.prin_text.specs.FileLines.{key_cause, unless}
use Rattle.prin_text.specs.Held.{HoldsKeys}
use Rattle.prin_text.specs.LineView.{TakesLine}
use Rattle.prin_text.proofs.lines.taking.take_key.Goals as goal

pub returns-in-Ok-clause-takes : goal.returns-in-Ok-clause-takes
returns-in-Ok-clause-takes c = λ keys held.
    subst (λ (r : Result (ℕ × List ℕ) FileCause). TakesLine HoldsKeys c.add_key.result c.add_key.new.table (r >>= λ x. unless (key_cause c.args.table.now.room keys x.0) (keys ++ (x.0, x.1) ∷ [])))
    c.in-Ok.ensures (c.add_key.ensures.takes keys held)

pub returns-in-Err-clause-takes : goal.returns-in-Err-clause-takes
returns-in-Err-clause-takes c = λ keys held.
    ap (λ (r : Result (ℕ × List ℕ) FileCause). r >>= λ x. unless (key_cause c.args.table.now.room keys x.0) (keys ++ (x.0, x.1) ∷ [])) (sym c.in-Err.ensures)
