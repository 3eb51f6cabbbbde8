use Rattle.std.proofs.Common.{rules}
use Rattle.turn_cell.proofs.Keeps.{splits}
use Rattle.turn_cell.proofs.steps.split.Goals as goal

pub split_seat-requires : goal.split_seat-requires
split_seat-requires g c = (search rules, search rules, splits _ _ _ _ _ _ _ c.requires.shares.0.0 c.requires.shares.1 c.requires.shares.2)
