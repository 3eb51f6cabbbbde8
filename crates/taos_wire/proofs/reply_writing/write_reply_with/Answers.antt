use Rattle.std.specs.Option.{option_copied}
use Rattle.taos_wire.specs.View.{reply}
use Rattle.taos_wire.proofs.ShortReplies.{small_reply}
use Rattle.taos_wire.proofs.reply_writing.write_reply_with.Goals as goal

pub returns-then-is_err-clause-small : goal.returns-then-is_err-clause-small
returns-then-is_err-clause-small c = λ other. small_reply (option_copied c.args.sealer) c.args.channel c.args.seq (reply c.args.answer.now) c.requires.limits other

pub returns-else-is_err-clause-small : goal.returns-else-is_err-clause-small
returns-else-is_err-clause-small c = λ other. small_reply (option_copied c.args.sealer) c.args.channel c.args.seq (reply c.args.answer.now) c.requires.limits other
