-- a number that is written so is read
use Rattle.std.proofs.Common.{ap, ◌∙◌, decimal, sym}
use Rattle.std.proofs.lemmas.Bool.{false≢true}
use Rattle.node_commands.proofs.Found.{is_read, not_read}
use Rattle.node_commands.proofs.words.meaning.number_of.Goals as goal

pub returns-in_default : goal.returns-in_default
returns-in_default c = λ n is. not_read c.args.text.now c.parse.result c.in_default.field-0 n c.parse.ensures.value.0 c.in_default.is is

pub returns-then-not-is_written : goal.returns-then-not-is_written
returns-then-not-is_written c = λ n is.
    let same = is_read c.args.text.now c.parse.result c.in-Ok.number n c.parse.ensures.value.0 c.in-Ok.is is in
    false≢true (c.if-not-is_written.ensures.1 (is.0 ∙ ap decimal (sym same)))
