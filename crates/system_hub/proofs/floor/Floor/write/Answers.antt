-- Who keeps its seat keeps its socket, and who left it has none.
use Rattle.std.proofs.Common.{◌≡◌, ◌∙◌, rules, true, false}
use Rattle.system_hub.proofs.Flooring.{done_leaves, done_sits}
use Rattle.system_hub.proofs.floor.Floor.write.Goals as goal

pub invariant_of-self-then-not-write : goal.invariant_of-self-then-not-write
invariant_of-self-then-not-write c =
    let left : c.write.result ≡ false = search rules in
    record {
      law = done_leaves c.args.self.now.hub c.write.new.hub c.args.self.now.clients.items c.args.seat c.in_ok-place.place.now c.take.new.self c.in_ok-client.client c.write.result
          c.args.self.now.law c.in_ok-place.ensures.item.3.0 c.in_ok-place.ensures.value c.in_ok-client.ensures.value c.in_ok-client.ensures.after left c.write.ensures.stays;
    }

pub invariant_of-self-2 : goal.invariant_of-self-2
invariant_of-self-2 c =
    let stays : c.write.result ≡ true = search rules in
    record {
      law = done_sits c.args.self.now.hub c.write.new.hub c.args.self.now.clients.items c.args.seat c.in_ok-place.place.now c.in_ok-client.client c.write.new.self c.write.result
          c.args.self.now.law c.in_ok-place.ensures.item.3.0 c.in_ok-place.ensures.value c.in_ok-client.ensures.value (c.write.ensures.number) stays c.write.ensures.stays;
    }
