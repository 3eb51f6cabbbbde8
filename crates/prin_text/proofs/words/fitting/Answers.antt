use Rattle.std.proofs.Common.{arith}
use Rattle.prin_text.proofs.Decimals.{over}
use Rattle.prin_text.proofs.words.fitting.Goals as goal

-- more digits only add to it
pub returns-then-next : goal.returns-then-next
returns-then-next c = over c.args.digits.now c.loop-digit.number c.loop-digit.digit-index c.loop-digit-test.true (omega (arith, c.saturating_sub.ensures)) c.loop-digit.invariant
