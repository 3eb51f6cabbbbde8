use Rattle.taos_wire.specs.View.{reply}
use Rattle.taos_wire.proofs.ReplyPieces.{text_pushes}
use Rattle.taos_wire.proofs.reply_writing.push_text.Goals as goal

pub returns-clause-pushes : goal.returns-clause-pushes
returns-clause-pushes c =
    text_pushes c.args.channel c.args.seq (reply c.args.answer.now) c.status_of.result c.args.out.now c.push_head.new.out c.push_fields.new.out _ c.push_fields.result c.status_of.ensures c.in_ok-push_head.ensures c.push_fields.ensures.pushes
