-- each code is that of its place
use Rattle.std.proofs.Common.{ap, ◌∙◌, sym, arith, ℕ}
use Rattle.std.specs.Prelude.{decimal}
use Rattle.node_telling.proofs.Places.{code_at, eleven}
use Rattle.node_telling.proofs.texts.status.answer_place.Goals as goal

pub returns-in-11-clause-named : goal.returns-in-11-clause-named
returns-in-11-clause-named c = eleven ∙ sym (ap (λ (n : ℕ). decimal n) c.in-11.is)

pub returns-in-0-to-5-clause-named : goal.returns-in-0-to-5-clause-named
returns-in-0-to-5-clause-named c = code_at c.args.code (omega arith)
