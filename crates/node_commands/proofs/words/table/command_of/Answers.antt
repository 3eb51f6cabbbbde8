-- one option more
use Rattle.node_commands.proofs.Made.{one_option_more}
use Rattle.node_commands.proofs.words.table.command_of.Goals as goal

pub loop-argument-preserved : goal.loop-argument-preserved
loop-argument-preserved c =
    one_option_more _ _ _ c.args.name.now c.args.options.now c.loop-argument.argument-index _ c.loop-argument-test.true c.loop-argument.invariant c.option.ensures.rule c.option.ensures.local c.in_ok-command.ensures
