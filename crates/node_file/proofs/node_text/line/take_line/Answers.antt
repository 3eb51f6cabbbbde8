use Rattle.std.proofs.Common.{List, ℕ, ap, sym, ◌∙◌}
use Rattle.prin_text.specs.Lines.{is_plain}
use Rattle.prin_text.proofs.Plain.{plain_rest}
use Rattle.node_file.proofs.node_text.line.take_line.Goals as goal

-- what stands behind the first word of a plain line is plain
pub take_kind-requires : goal.take_kind-requires
take_kind-requires c = ap (λ (w : List ℕ × List ℕ). is_plain w.1) c.word_off.ensures ∙ plain_rest c.args.line.now (sym c.is_plain.ensures ∙ c.if-is_plain.true)
