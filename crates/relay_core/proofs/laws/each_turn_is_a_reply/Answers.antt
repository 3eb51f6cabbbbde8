use Rattle.relay_core.proofs.ByTable.{each_replies, each_has_turn}
use Rattle.relay_core.proofs.laws.each_turn_is_a_reply.Goals as goal

pub returns-clause-replies : goal.returns-clause-replies
returns-clause-replies c = each_replies

pub returns-clause-all : goal.returns-clause-all
returns-clause-all c = each_has_turn
