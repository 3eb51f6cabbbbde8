use Rattle.std.proofs.Common.{sym, ◌∙◌}
use Rattle.node_file.proofs.Whole.{read_binary, read_text}
use Rattle.node_file.proofs.opening.reading.opening_in.Goals as goal

pub returns-then-is_binary : goal.returns-then-is_binary
returns-then-is_binary c = read_binary c.args.bytes.now c.binary_of.result c.requires (sym c.is_binary.ensures ∙ c.if-is_binary.true) c.binary_of.ensures

pub returns-else-is_binary : goal.returns-else-is_binary
returns-else-is_binary c = read_text c.args.bytes.now c.text_of.result c.requires (sym c.is_binary.ensures ∙ c.if-is_binary.false) c.text_of.ensures
