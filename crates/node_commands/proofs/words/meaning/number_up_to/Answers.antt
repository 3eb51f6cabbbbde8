-- what is no number of 32 bits, or a larger one, is none up to the largest
use Rattle.std.proofs.Common.{◌+◌, ◌^◌, arith, option_map, subst, sym}
use Rattle.node_commands.specs.Table.{IsReadOf}
use Rattle.node_commands.specs.Words.{HasNumber}
use Rattle.node_commands.proofs.Found.{below_more, not_below}
use Rattle.node_commands.proofs.words.meaning.number_up_to.Goals as goal

pub returns-in_err-number : goal.returns-in_err-number
returns-in_err-number c =
    let text = option_map (λ s. s.now) c.args.text in
    subst (λ r. IsReadOf (HasNumber (c.args.most + 1) text) r) (sym c.from_residual.ensures) (λ n is. c.in_err-number.ensures n (below_more (c.args.most + 1) (2 ^ 32) (omega (arith, c.ranges.most.fits)) text n is))

pub returns-then-most-number : goal.returns-then-most-number
returns-then-most-number c = λ n is.
    not_below (option_map (λ s. s.now) c.args.text) (c.args.most + 1) c.in_ok-number.number n c.in_ok-number.ensures (omega (arith, c.if-most-number.true)) is
