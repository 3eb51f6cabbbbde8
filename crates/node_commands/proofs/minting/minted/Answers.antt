-- what the sealing refuses is the last that is looked at
use Rattle.std.proofs.Common.{sym}
use Rattle.stmt_codec.specs.Certificates.{certificate}
use Rattle.node_commands.specs.Words.{mint_words}
use Rattle.node_commands.proofs.Minted.{sealed_stops}
use Rattle.node_commands.proofs.minting.minted.Goals as goal

pub returns-clause-stops : goal.returns-clause-stops
returns-clause-stops c =
    sealed_stops c.args.relay.now.table.issuers.entries c.args.relay.now.names (mint_words c.args.mint.now) c.in-Some.key.now (sym c.in-Some.ensures) (certificate c.in_ok-body.body) c.in_ok-body.ensures.asked c.sealed.result c.sealed.ensures.large
