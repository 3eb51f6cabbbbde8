use Rattle.term_pool.specs.Finding.{of_speaks, of_says}
use Rattle.term_pool.proofs.found.Found.cell.Goals as goal

pub returns-in-Speaks : goal.returns-in-Speaks
returns-in-Speaks c =
    let h = rw c.in-Speaks.is at c.requires.below in
    rw c.in-Speaks.is (of_speaks h.0 h.1 c.place.ensures)

pub returns-in-Some : goal.returns-in-Some
returns-in-Some c =
    let h = rw c.in-Says.is at c.requires.below in
    rw c.in-Says.is (of_says c.in-Some.k h.0 c.in-Some.ensures c.place-in-Some.ensures)
