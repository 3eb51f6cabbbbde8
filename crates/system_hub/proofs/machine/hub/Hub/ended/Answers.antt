-- It said its last, and is let go where it is through.
use Rattle.std.proofs.Common.{[], ◌∷◌}
use Rattle.system_hub.specs.Events.{Ended}
use Rattle.system_hub.proofs.Seating.{let_keeps, let_others}
use Rattle.system_hub.proofs.machine.hub.Hub.ended.Goals as goal

pub returns-clause-keeps : goal.returns-clause-keeps
returns-clause-keeps c =
    let_keeps c.args.client (Ended c.args.client ∷ []) c.args.self.now c.hear_last.new.self c.let_go.new.self c.let_go.result
    c.hear_last.ensures.last c.hear_last.ensures.here c.let_go.ensures

pub returns-clause-others : goal.returns-clause-others
returns-clause-others c =
    let_others c.args.client c.args.self.now c.hear_last.new.self c.let_go.new.self c.let_go.result c.hear_last.ensures.about c.let_go.ensures
