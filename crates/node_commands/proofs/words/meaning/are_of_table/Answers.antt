-- the words so far are of the table, and so is this one
use Rattle.std.proofs.Common.{refl, sym, ◌∙◌, arith}
use Rattle.std.proofs.lemmas.Bool.{false≢true}
use Rattle.node_commands.proofs.Found.{more_known, one_known}
use Rattle.node_commands.proofs.words.meaning.are_of_table.Goals as goal

pub returns-then-not-is_of_table : goal.returns-then-not-is_of_table
returns-then-not-is_of_table c = (
  λ no. absurd (false≢true no),
  λ all. sym c.if-not-is_of_table.true ∙ c.is_of_table.ensures.1 (one_known c.args.words.now c.loop-word.word-index c.word-item.result c.as_bytes.result.now c.loop-word-test.true c.as_bytes.ensures.value c.word-item.is all),
)

pub loop-word-preserved : goal.loop-word-preserved
loop-word-preserved c =
    more_known c.args.words.now c.loop-word.word-index c.word-item.result c.as_bytes.result.now c.loop-word-test.true c.loop-word.invariant c.as_bytes.ensures.value c.word-item.is (c.is_of_table.ensures.0 c.if-not-is_of_table.false)

pub returns : goal.returns
returns c = (λ _ k d within. c.loop-word.invariant k d (omega (arith, within, c.loop-word-test.false)), λ _. refl)
