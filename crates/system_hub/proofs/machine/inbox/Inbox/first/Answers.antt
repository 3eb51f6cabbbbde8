-- The first four bytes spell the length, and the test says whether as many bytes follow.
use Rattle.std.proofs.Common.{arith, rules}
use Rattle.system_hub.proofs.Firsts.{begins_part, begins_whole}
use Rattle.system_hub.proofs.machine.inbox.Inbox.first.Goals as goal

pub returns-then-bytes-length : goal.returns-then-bytes-length
returns-then-bytes-length c =
    begins_part c.number_of-length.result c.args.self.now (omega arith) (omega arith)
    (search rules) (search rules)

pub returns : goal.returns
returns c =
    begins_whole c.number_of-length.result c.args.self.now (omega arith) (search rules)
    (search rules) (search rules)
