use Rattle.std.proofs.Common.{sym}
use Rattle.prin_term.specs.View.{principal}
use Rattle.prin_term.proofs.Parts.{no_part}
use Rattle.prin_term.proofs.term.Term.part.Goals as goal

pub returns-in-Err : goal.returns-in-Err
returns-in-Err c = sym (no_part (principal c.args.self.now) c.args.place c.in-Err.field-0 c.in-Err.ensures.behind)
