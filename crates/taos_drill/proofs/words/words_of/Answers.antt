use Rattle.std.proofs.Common.{ap, length, ◌+◌, ◌∙◌, length-append, arith}
use Rattle.taos_drill.proofs.Drawing.{drew, word_more}
use Rattle.taos_drill.proofs.words.words_of.Goals as goal

pub loop-preserved : goal.loop-preserved
loop-preserved c =
    let d = drew c.args.seed 0 c.loop.counter c.next_word.result c.loop.rng c.next_word.new.self c.loop.invariant.generator (omega arith) c.next_word.ensures in
    record {
      generator = d.1;
      count = ap length c.in_ok-push.ensures.items ∙ length-append c.loop.words.items _ ∙ ap (λ n. n + 1) c.loop.invariant.count;
      so_far = word_more c.args.seed c.loop.counter c.next_word.result c.loop.words.items c.push.new.self.items c.loop.invariant.so_far c.in_ok-push.ensures.items d.0;
    }
