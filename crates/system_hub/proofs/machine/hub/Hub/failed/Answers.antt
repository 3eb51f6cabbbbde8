-- Who failed is let go at once.
use Rattle.std.proofs.Common.{[], ◌∷◌}
use Rattle.system_hub.specs.Events.{Failed, Closed}
use Rattle.system_hub.proofs.Seating.{follows_on, about_then, gone_others}
use Rattle.system_hub.proofs.machine.hub.Hub.failed.Goals as goal

pub returns-clause-gone : goal.returns-clause-gone
returns-clause-gone c =
    follows_on c.args.self.now c.lose.new.self c.close.new.self (Failed c.args.client ∷ []) (Closed c.args.client ∷ []) c.lose.ensures.failed c.close.ensures.closed

pub returns-clause-others : goal.returns-clause-others
returns-clause-others c =
    gone_others c.args.client c.args.self.now c.close.new.self
    (about_then c.args.client c.args.self.now c.lose.new.self c.close.new.self c.lose.ensures.about c.close.ensures.about) c.close.ensures.left
