use Rattle.std.specs.Prelude.{option_copied}
use Rattle.node_file.specs.Meaning.{opening}
use Rattle.node_commands.proofs.checking.check_frames.Goals as goal

pub returns-in-Err : goal.returns-in-Err
returns-in-Err c = c.told.ensures (opening c.args.node.now) (option_copied c.args.request) (option_copied c.args.reply) (c.in-Err.ensures.stops (option_copied c.args.reply))
