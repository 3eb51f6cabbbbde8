-- Who keeps its seat keeps its socket, and who left it has none.
use Rattle.std.proofs.Common.{◌≡◌, ◌∙◌, rules, true, false}
use Rattle.system_hub.proofs.Flooring.{done_leaves, done_sits}
use Rattle.system_hub.proofs.floor.Floor.hear.Goals as goal

pub invariant_of-self-then-not-hear : goal.invariant_of-self-then-not-hear
invariant_of-self-then-not-hear c =
    let left : c.hear.result ≡ false = search rules in
    record {
      law = done_leaves c.args.self.now.hub c.hear.new.hub c.args.self.now.clients.items c.args.seat c.in_ok-place.place.now c.take.new.self c.in_ok-client.client c.hear.result
          c.args.self.now.law c.in_ok-place.ensures.item.3.0 c.in_ok-place.ensures.value c.in_ok-client.ensures.value c.in_ok-client.ensures.after left c.hear.ensures.stays;
    }

pub invariant_of-self-2 : goal.invariant_of-self-2
invariant_of-self-2 c =
    let stays : c.hear.result ≡ true = search rules in
    record {
      law = done_sits c.args.self.now.hub c.hear.new.hub c.args.self.now.clients.items c.args.seat c.in_ok-place.place.now c.in_ok-client.client c.wait.new.self c.hear.result
          c.args.self.now.law c.in_ok-place.ensures.item.3.0 c.in_ok-place.ensures.value c.in_ok-client.ensures.value (c.wait.ensures ∙ c.hear.ensures.number) stays c.hear.ensures.stays;
    }
