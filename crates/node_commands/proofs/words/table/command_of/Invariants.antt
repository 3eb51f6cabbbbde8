use Rattle.std.proofs.Common.{map, take}
use Rattle.node_commands.specs.Table.{IsMade, argument_of, command_app}
use Rattle.node_commands.proofs.words.table.command_of.Given as goal

-- the command has the options so far
abbrev pub invariant-loop-argument : goal.invariant-loop-argument
invariant-loop-argument l = IsMade (command_app l.name (map argument_of (take l.argument-index l.fn.options))) l.command
