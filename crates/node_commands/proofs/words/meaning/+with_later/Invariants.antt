use Rattle.std.proofs.Common.{length}
use Rattle.std.specs.Option.{option_map}
use Rattle.node_commands.specs.Routes.{pieces_behind}
use Rattle.node_commands.proofs.words.meaning.+with_later.Given as goal

-- fewer pieces are left
abbrev pub decreases-with_later : goal.decreases-with_later
decreases-with_later l = length (pieces_behind (option_map (λ s. s.now) l.later))
