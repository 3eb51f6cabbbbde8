-- The bytes came, and who is through is let go.
use Rattle.std.proofs.Common.{[], ◌∷◌, rules}
use Rattle.system_hub.specs.Events.{Received, Failed, Closed}
use Rattle.system_hub.specs.Kept.{IsHere}
use Rattle.system_hub.specs.Calls.{Follows}
use Rattle.system_hub.proofs.Seating.{follows_on, about_then, gone_others, let_keeps, let_others}
use Rattle.system_hub.proofs.machine.hub.Hub.received.Goals as goal

pub returns-then-is_err-clause-no_memory : goal.returns-then-is_err-clause-no_memory
returns-then-is_err-clause-no_memory c =
    let failed : Follows c.args.self.now c.hear_bytes.new.self (Failed c.args.client ∷ []) = search rules in
    follows_on c.args.self.now c.hear_bytes.new.self c.close.new.self (Failed c.args.client ∷ []) (Closed c.args.client ∷ []) failed c.close.ensures.closed

pub returns-then-is_err-clause-others : goal.returns-then-is_err-clause-others
returns-then-is_err-clause-others c =
    gone_others c.args.client c.args.self.now c.close.new.self
    (about_then c.args.client c.args.self.now c.hear_bytes.new.self c.close.new.self c.hear_bytes.ensures.about c.close.ensures.about) c.close.ensures.left

pub returns-clause-came : goal.returns-clause-came
returns-clause-came c =
    let came : Follows c.args.self.now c.hear_bytes.new.self (Received c.args.client c.args.bytes.now ∷ []) = search rules in
    let here : IsHere c.hear_bytes.new.self c.args.client = search rules in
    let_keeps c.args.client (Received c.args.client c.args.bytes.now ∷ []) c.args.self.now c.hear_bytes.new.self c.let_go.new.self c.let_go.result came here c.let_go.ensures

pub returns-clause-others : goal.returns-clause-others
returns-clause-others c =
    let_others c.args.client c.args.self.now c.hear_bytes.new.self c.let_go.new.self c.let_go.result c.hear_bytes.ensures.about c.let_go.ensures
