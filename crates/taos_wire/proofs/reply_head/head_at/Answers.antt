use Rattle.std.proofs.Common.{◌∙◌}
use Rattle.taos_wire.proofs.Heads.{reply_said}
use Rattle.taos_wire.proofs.reply_head.head_at.Goals as goal

pub returns-clause-said : goal.returns-clause-said
returns-clause-said c = λ channel seq r more is enough. c.front_of.ensures.exact ∙ reply_said channel seq r c.args.front.now more is enough
