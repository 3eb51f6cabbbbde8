-- what is read of each text
use Rattle.std.proofs.Common.{subst}
use Rattle.node_commands.specs.Words.{AreConnections}
use Rattle.node_commands.proofs.words.meaning.limits_of.Goals as goal

pub returns : goal.returns
returns c = record {
  connections = subst (λ o. AreConnections o c.in_ok-connections.connections) c.text_of.ensures c.in_ok-connections.ensures;
  frames = c.in_ok-frames.ensures;
}
