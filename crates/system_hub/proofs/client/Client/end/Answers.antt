-- It keeps its seat where something is left.
use Rattle.std.proofs.Common.{[], ◌∷◌}
use Rattle.system_hub.specs.Events.{Ended}
use Rattle.system_hub.proofs.Staying.{kept_done}
use Rattle.system_hub.proofs.client.Client.end.Goals as goal

pub returns-clause-stays : goal.returns-clause-stays
returns-clause-stays c =
    let n = c.args.self.now.number in
    kept_done n (Ended n ∷ []) c.args.hub.now c.ended.new.self c.ended.result c.ended.ensures.keeps c.ended.ensures.others
