use Rattle.std.proofs.Common.{sym, ◌∙◌, arith}
use Rattle.prin_text.proofs.Scans.{mark_token_range, more_in_word, word_token}
use Rattle.prin_text.proofs.tokens.token_end.Goals as goal

pub returns-then-is_mark-clause-token : goal.returns-then-is_mark-clause-token
returns-then-is_mark-clause-token c = mark_token_range c.args.bytes.now c.args.start c.requires.inside (sym c.is_mark.ensures ∙ c.if-is_mark.true)

pub loop-end-preserved : goal.loop-end-preserved
loop-end-preserved c = more_in_word c.args.bytes.now c.args.start c.loop-end.end c.loop-end.invariant c.loop-end-test.true (sym c.is_word_byte.ensures ∙ c.if-is_word_byte.true)

pub returns-else-is_word_byte-clause-token : goal.returns-else-is_word_byte-clause-token
returns-else-is_word_byte-clause-token c = word_token c.args.bytes.now c.args.start c.loop-end.end c.loop-end.invariant (λ _. sym c.is_word_byte.ensures ∙ c.if-is_word_byte.false)

pub returns-after-loop-end-clause-token : goal.returns-after-loop-end-clause-token
returns-after-loop-end-clause-token c = word_token c.args.bytes.now c.args.start c.loop-end.end c.loop-end.invariant (λ lt. absurd (omega arith))
