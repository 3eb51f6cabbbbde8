-- It keeps its seat where nothing came of it.
use Rattle.system_hub.proofs.Staying.{none_so_far}
use Rattle.system_hub.proofs.client.Client.hear_once.Goals as goal

pub returns-then-room-eq0-clause-moved : goal.returns-then-room-eq0-clause-moved
returns-then-room-eq0-clause-moved c = record { done = none_so_far c.args.self.now.number c.args.hub.now; seat = c.in-Some.ensures.here }

pub returns-in-WouldBlock-clause-moved : goal.returns-in-WouldBlock-clause-moved
returns-in-WouldBlock-clause-moved c = record { done = none_so_far c.args.self.now.number c.args.hub.now; seat = c.in-Some.ensures.here }

pub returns-in-Interrupted-clause-moved : goal.returns-in-Interrupted-clause-moved
returns-in-Interrupted-clause-moved c = record { done = none_so_far c.args.self.now.number c.args.hub.now; seat = c.in-Some.ensures.here }
