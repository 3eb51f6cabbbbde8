use Rattle.std.specs.Option.{option_copied}
use Rattle.taos_wire.proofs.ShortReplies.{missing_short}
use Rattle.taos_wire.proofs.reply_lent.append_part.Goals as goal

pub returns-then-is_err-clause-short : goal.returns-then-is_err-clause-short
returns-then-is_err-clause-short c = missing_short (option_copied c.args.sealer) c.args.channel c.args.seq c.args.denial.now c.requires.limits.nodes_fit

pub returns-else-is_err-clause-short : goal.returns-else-is_err-clause-short
returns-else-is_err-clause-short c = missing_short (option_copied c.args.sealer) c.args.channel c.args.seq c.args.denial.now c.requires.limits.nodes_fit
