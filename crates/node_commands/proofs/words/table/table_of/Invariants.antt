use Rattle.std.proofs.Common.{map, take}
use Rattle.node_commands.specs.Table.{IsMade, entry_of, table_of}
use Rattle.node_commands.proofs.words.table.table_of.Given as goal

-- the table has the commands so far
abbrev pub invariant-loop-entry : goal.invariant-loop-entry
invariant-loop-entry l = IsMade (table_of (map entry_of (take l.entry-index l.fn.entries))) l.table
