use Rattle.std.proofs.Common.{refl}
use Rattle.taos_wire.specs.View.{lent_grant}
use Rattle.taos_wire.proofs.ReplyPieces.{text_pushes}
use Rattle.taos_wire.proofs.reply_lent.push_grant_text.Goals as goal

pub returns-clause-pushes : goal.returns-clause-pushes
returns-clause-pushes c =
    text_pushes c.args.channel c.args.seq (lent_grant c.args.grant.now) 0 c.args.out.now c.push_head.new.out c.push_granted.new.out _ c.push_granted.result refl c.in_ok-push_head.ensures c.push_granted.ensures.pushes
