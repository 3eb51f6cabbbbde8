-- one command more
use Rattle.node_commands.proofs.Made.{one_entry_more}
use Rattle.node_commands.proofs.words.table.table_of.Goals as goal

pub loop-entry-preserved : goal.loop-entry-preserved
loop-entry-preserved c =
    one_entry_more _ _ _ c.args.entries.now c.loop-entry.entry-index _ c.loop-entry-test.true c.loop-entry.invariant c.in_ok-command_of.ensures c.in_ok-table.ensures
