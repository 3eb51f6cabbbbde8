-- It is let go where it had its seat.
use Rattle.std.proofs.Common.{[], ◌∷◌}
use Rattle.system_hub.specs.Events.{Failed, Closed}
use Rattle.system_hub.proofs.Staying.{left_done}
use Rattle.system_hub.proofs.client.Client.fail.Goals as goal

pub returns-then-is_here-clause-left : goal.returns-then-is_here-clause-left
returns-then-is_here-clause-left c =
    let n = c.args.self.now.number in
    left_done n (Failed n ∷ Closed n ∷ []) c.args.hub.now c.failed.new.self c.failed.ensures.gone c.failed.ensures.left c.failed.ensures.others
