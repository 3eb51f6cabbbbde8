-- The bytes are off, and who is through is let go.
use Rattle.std.proofs.Common.{[], ◌∷◌, take}
use Rattle.system_hub.specs.Events.{Wrote}
use Rattle.system_hub.specs.Calls.{left_of}
use Rattle.system_hub.proofs.Seating.{let_keeps, let_others}
use Rattle.system_hub.proofs.machine.hub.Hub.wrote.Goals as goal

pub returns-clause-keeps : goal.returns-clause-keeps
returns-clause-keeps c =
    let_keeps c.args.client (Wrote c.args.client (take c.args.count (left_of c.args.self.now c.args.client)) ∷ []) c.args.self.now c.cut_left.new.self c.let_go.new.self c.let_go.result
    c.cut_left.ensures.wrote c.cut_left.ensures.here c.let_go.ensures

pub returns-clause-others : goal.returns-clause-others
returns-clause-others c =
    let_others c.args.client c.args.self.now c.cut_left.new.self c.let_go.new.self c.let_go.result c.cut_left.ensures.about c.let_go.ensures
