use Rattle.std.proofs.Common.{arith}
use Rattle.prin_text.proofs.WordLaws.{over}
use Rattle.prin_text.proofs.lines.number.value_up_to.Goals as goal

-- more digits only add to it
pub returns-then-next-most-clause-value : goal.returns-then-next-most-clause-value
returns-then-next-most-clause-value c = over c.args.digits.now c.loop-digit.number c.loop-digit.digit-index c.args.most c.loop-digit-test.true (omega (arith, c.saturating_sub.ensures)) c.loop-digit.invariant.value
