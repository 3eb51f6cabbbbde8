use Rattle.std.proofs.Common.{ap, length, ◌+◌, ◌∙◌, length-append, arith}
use Rattle.taos_drill.proofs.Drawing.{drew_key, key_more}
use Rattle.taos_drill.proofs.words.keys_of.Goals as goal

pub loop-preserved : goal.loop-preserved
loop-preserved c =
    let d = drew_key c.args.seed c.loop.counter c.next_key.result c.loop.rng c.next_key.new.rng c.loop.invariant.generator (omega arith) c.next_key.ensures in
    record {
      generator = d.1;
      count = ap length c.in_ok-push.ensures.items ∙ length-append c.loop.keys.items _ ∙ ap (λ n. n + 1) c.loop.invariant.count;
      so_far = key_more c.args.seed c.loop.counter c.next_key.result c.loop.keys.items c.push.new.self.items c.loop.invariant.so_far c.in_ok-push.ensures.items d.0;
    }
