use Rattle.std.proofs.Common.{arith}
use Rattle.std.proofs.lemmas.Option.{slice_get_within}
use Rattle.goal_search.proofs.Choosing.{same_marks}
use Rattle.goal_search.proofs.asked.Asked.choose_all.Goals as goal

pub returns-clause-marks : goal.returns-clause-marks
returns-clause-marks c =
    let inv = c.loop-place.invariant in
    same_marks c.loop-place.self.marks.items c.args.chosen.now inv.still.0 inv.still.1 (λ i e. inv.now i (omega (arith, slice_get_within c.args.chosen.now i _ e)) e)
