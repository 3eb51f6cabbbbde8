use Rattle.std.proofs.Common.{refl}
use Rattle.taos_wire.specs.View.{lent_part}
use Rattle.taos_wire.proofs.ReplyPieces.{text_pushes}
use Rattle.taos_wire.proofs.reply_lent.push_part_text.Goals as goal

pub returns : goal.returns
returns c =
    text_pushes c.args.channel c.args.seq (lent_part c.args.denial.now) 1 c.args.out.now c.push_head.new.out c.push_missing.new.out _ c.push_missing.result refl c.in_ok-push_head.ensures c.push_missing.ensures
