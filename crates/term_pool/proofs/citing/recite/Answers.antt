use Rattle.std.proofs.Common.{lit<, refl}
use Rattle.term_pool.proofs.Recited.{recited_said, recited_same, moved-same, cites_nothing}
use Rattle.term_pool.proofs.citing.recite.Goals as goal

pub returns-in-Some : goal.returns-in-Some
returns-in-Some c = rw c.in-Said.is (recited_said c.args.used.now c.in-Said.cite c.in-Some.place c.in-Some.ensures)

pub returns-in-None : goal.returns-in-None
returns-in-None c =
    let has = rw c.in-Said.is at c.requires.has in
    let p = has c.in-Said.cite (0, lit< tt, refl) in
    absurd (c.in-None.ensures p.0 p.1)

pub returns-in_default : goal.returns-in_default
returns-in_default c = recited_same c.args.used.now c.args.step (cites_nothing c.args.step c.in_default.not-Said) (moved-same c.args.step)
