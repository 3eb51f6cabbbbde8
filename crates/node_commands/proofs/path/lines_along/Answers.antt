-- what stands behind no bytes is the lines, or nothing
use Rattle.std.proofs.Common.{map}
use Rattle.relay_path.specs.Domains.{knows}
use Rattle.relay_path.specs.declared.answer.Along.TheVariants.{Done, Refused}
use Rattle.node_commands.specs.Words.{path_words}
use Rattle.node_commands.proofs.Paths.{from_nothing}
use Rattle.node_commands.proofs.path.lines_along.Goals as goal

pub returns-in-Done-clause-lines : goal.returns-in-Done-clause-lines
returns-in-Done-clause-lines c =
    from_nothing (map knows c.args.domains.now) (path_words c.args.asked.now) c.numbers.result.now c.args.bytes.now c.new-lines.result.items c.along.new.out.items Done c.numbers.ensures.are c.new-lines.ensures.items c.in-Done.ensures

pub returns-in-Refused-clause-stops : goal.returns-in-Refused-clause-stops
returns-in-Refused-clause-stops c =
    (from_nothing (map knows c.args.domains.now) (path_words c.args.asked.now) c.numbers.result.now c.args.bytes.now c.new-lines.result.items c.along.new.out.items (Refused c.in-Refused.hop c.in-Refused.code) c.numbers.ensures.are c.new-lines.ensures.items c.in-Refused.ensures).0
