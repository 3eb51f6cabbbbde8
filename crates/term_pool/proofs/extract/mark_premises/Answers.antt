use Rattle.std.proofs.Common.{arith}
use Rattle.term_pool.proofs.Premises.{first_in, second_in}
use Rattle.term_pool.proofs.extract.mark_premises.Goals as goal

pub mark-requires : goal.mark-requires
mark-requires c = λ i e.
    c.requires i (rw c.premises-first.ensures (first_in c.premises-first.result.0 c.premises-first.result.1 i e))

pub mark-requires-2 : goal.mark-requires-2
mark-requires-2 c = λ i e.
    omega (arith, c.mark.ensures.same_length, c.requires i (rw c.premises-first.ensures (second_in c.premises-first.result.0 c.premises-first.result.1 i e)))
