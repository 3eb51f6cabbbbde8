-- a number that is not 0
use Rattle.std.proofs.Common.{◌∙◌, arith, sym}
use Rattle.std.proofs.lemmas.Fmt.{decimal_injective}
use Rattle.node_commands.proofs.words.meaning.count_of.Goals as goal

pub returns-in_default : goal.returns-in_default
returns-in_default c = λ n is. c.in_default.ensures n (is.0, is.2)

pub returns-then-number-eq0 : goal.returns-then-number-eq0
returns-then-number-eq0 c = λ n is.
    let same = decimal_injective c.in-Some.number n c.in-Some.ensures.1 is.2 (sym c.in-Some.ensures.0 ∙ is.0) in
    omega (arith, same, is.1, c.if-number-eq0.true)
