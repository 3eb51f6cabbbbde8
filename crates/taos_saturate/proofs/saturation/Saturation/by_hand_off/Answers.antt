use Rattle.taos_calculus.specs.Numbered.{hand_off}
use Rattle.taos_saturate.proofs.saturation.Saturation.by_hand_off.Goals as goal

pub returns-in-Some : goal.returns-in-Some
returns-in-Some c = hand_off c.in-Some.ensures
