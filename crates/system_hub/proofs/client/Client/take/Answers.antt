-- It keeps its seat, or was through, or failed.
use Rattle.std.proofs.Common.{[], ◌∷◌}
use Rattle.system_hub.specs.Events.{Received, Failed, Closed}
use Rattle.system_hub.proofs.Staying.{kept_done, left_done}
use Rattle.system_hub.proofs.client.Client.take.Goals as goal

pub returns-in-Ok-clause-stays : goal.returns-in-Ok-clause-stays
returns-in-Ok-clause-stays c =
    let n = c.args.self.now.number in
    kept_done n (Received n c.args.bytes.now ∷ []) c.args.hub.now c.received.new.self c.in-Ok.stays c.in-Ok.ensures.came c.received.ensures.others

pub returns-in-Err-clause-stays : goal.returns-in-Err-clause-stays
returns-in-Err-clause-stays c =
    let n = c.args.self.now.number in
    left_done n (Failed n ∷ Closed n ∷ []) c.args.hub.now c.received.new.self c.in-Err.ensures.no_memory c.in-Err.ensures.left c.received.ensures.others
