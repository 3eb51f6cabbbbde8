use Rattle.std.proofs.Common.{◌≡◌, ℕ, Vec, get_or, ap, ◌∙◌, arith}
use Rattle.taos_drill.specs.Sent.{drill_stream}
use Rattle.taos_drill.proofs.Streams.{count_of, sends, waits, word_is}
use Rattle.taos_drill.proofs.stream.stream_of.Goals.{then-i-lanes+in_ok-ask, else-i-lanes}
use Rattle.taos_drill.proofs.stream.stream_of.Goals as goal

pub loop-i-preserved : goal.loop-i-preserved
loop-i-preserved c = λ seed requests words key cert.
    let me = c.args.caller.now in
    let i = c.loop-i.i in
    let so_far = c.loop-i.invariant seed requests words key cert in
    elim c.if-i-lanes.branch [
      | then-i-lanes+in_ok-ask w ↦
          sends seed c.args.lanes i c.args.lane me.channel (get_or c.args.words.now i 0) me.key me.cert.items c.loop-i.stream.items c.if-i-lanes.stream.items c.requires.channel w.if-i-lanes.true
          (word_is seed requests i c.args.words.now words c.loop-i-test.true) key cert so_far (ap (λ (v : Vec ℕ _). v.items) w.stream-is ∙ w.in_ok-ask.ensures)
      | else-i-lanes w ↦ waits seed c.args.lanes i c.args.lane c.loop-i.stream.items c.if-i-lanes.stream.items w.if-i-lanes.false so_far (ap (λ (v : Vec ℕ _). v.items) w.stream-is)
    ]

pub returns : goal.returns
returns c = λ seed requests words key cert.
    let same : c.loop-i.i ≡ requests = omega (arith, count_of seed requests c.args.words.now words) in
    c.loop-i.invariant seed requests words key cert ∙ ap (λ n. drill_stream seed n c.args.lanes c.args.lane) same
