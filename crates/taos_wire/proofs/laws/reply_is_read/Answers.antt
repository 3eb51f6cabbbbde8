use Rattle.taos_wire.specs.Reply.{sent, spelling}
use Rattle.taos_wire.proofs.ReplyLaws.{reply_again, sent_spells}
use Rattle.taos_wire.proofs.laws.reply_is_read.Goals as goal

pub returns : goal.returns
returns c = record {
  spelled = λ key channel seq r few low fits. sent_spells key channel seq r few low fits;
  read = λ key channel seq r few low fits. reply_again channel seq r (spelling (sent key channel seq r)) (sent_spells key channel seq r few low fits);
}
