-- the table is simple and free, so what is refused is known
use Rattle.std.proofs.Common.{ap, map, string_bytes, subst, ◌∙◌}
use Rattle.clap.specs.Words.{App, FailsBy, fault_of, is_simple_and_free}
use Rattle.node_commands.proofs.Made.{taos_is_free}
use Rattle.node_commands.proofs.words.table.matches_of.Goals as goal

pub returns-clause-faults : goal.returns-clause-faults
returns-clause-faults c =
    let made = c.in_ok-command.ensures.0 in
    subst (λ (a : App). FailsBy (fault_of a (map string_bytes c.args.words.now)) c.try_get_matches_from.result) made (c.try_get_matches_from.ensures.kinds (ap is_simple_and_free made ∙ taos_is_free))
