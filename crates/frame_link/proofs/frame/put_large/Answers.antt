use Rattle.frame_link.proofs.Parts.{puts_word, puts_part}
use Rattle.frame_link.proofs.frame.put_large.Goals as goal

pub returns-in-Err-clause-bytes : goal.returns-in-Err-clause-bytes
returns-in-Err-clause-bytes g c =
    let p = c.in-Err.ensures.part in
    puts_word (g.K.Sink.shown c.args.sink.now) (g.K.Sink.shown c.pour.new.sink) c.to_be_bytes-word.result c.args.payload.now p.0 p.1 c.to_be_bytes-word.ensures p.2 p.3 p.4

pub returns-in-Err-pour-clause-bytes : goal.returns-in-Err-pour-clause-bytes
returns-in-Err-pour-clause-bytes g c =
    let p = c.in-Err-pour.ensures.part in
    puts_part (g.K.Sink.shown c.args.sink.now) (g.K.Sink.shown c.pour.new.sink) (g.K.Sink.shown c.pour-in-Ok.new.sink) c.to_be_bytes-word.result c.args.payload.now p.0 p.1 c.to_be_bytes-word.ensures c.in-Ok.ensures.all p.2 p.3 p.4
