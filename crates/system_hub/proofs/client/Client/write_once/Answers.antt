-- It keeps its seat where something is left.
use Rattle.std.proofs.Common.{[], ◌∷◌, take}
use Rattle.system_hub.specs.Events.{Wrote}
use Rattle.system_hub.specs.Calls.{left_of}
use Rattle.system_hub.proofs.Staying.{kept_done, moved_some}
use Rattle.system_hub.proofs.client.Client.write_once.Goals as goal

pub returns-in-Ok-clause-moved : goal.returns-in-Ok-clause-moved
returns-in-Ok-clause-moved c =
    let n = c.args.self.now.number in
    moved_some n c.args.hub.now c.wrote.new.self c.wrote.result c.some.result c.some.ensures
    (kept_done n (Wrote n (take c.in-Ok.count (left_of c.args.hub.now n)) ∷ []) c.args.hub.now c.wrote.new.self c.wrote.result c.wrote.ensures.keeps c.wrote.ensures.others)
