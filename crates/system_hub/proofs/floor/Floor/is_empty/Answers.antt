-- Who has a socket sits.
use Rattle.system_hub.proofs.Flooring.{nothing_open}
use Rattle.system_hub.proofs.floor.Floor.is_empty.Goals as goal

pub returns-clause-sockets : goal.returns-clause-sockets
returns-clause-sockets c = λ t. nothing_open c.args.self.now.hub c.args.self.now.clients.items c.args.self.now.law (c.is_empty.ensures.0 t)
