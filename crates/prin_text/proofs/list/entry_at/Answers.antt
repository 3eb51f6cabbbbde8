use Rattle.std.proofs.Common.{Err, sym, ap, ◌∙◌, inr}
use Rattle.prin_text.proofs.Entries.{no_entry}
use Rattle.prin_text.proofs.list.entry_at.Goals as goal

pub returns-then-start-bytes-clause-value : goal.returns-then-start-bytes-clause-value
returns-then-start-bytes-clause-value c =
    inr (no_entry c.args.names.now c.args.bytes.now c.skip_blanks-start.result c.args.at c.skip_blanks-start.ensures.tokens c.if-start-bytes.true ∙ ap (λ f. Err f) (sym c.bad.ensures))
