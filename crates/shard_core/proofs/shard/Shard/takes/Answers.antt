-- the shard's plan and entries are those that were looked at
use Rattle.std.proofs.Common.{◌↔◌, IsTrue, subst}
use Rattle.agent_core.specs.Answers.{FitsEvent}
use Rattle.agent_core.specs.Journals.{ShardSeen, IsMeant}
use Rattle.agent_core.specs.Views.{event_of}
use Rattle.shard_core.proofs.shard.Shard.takes.Goals as goal

pub returns : goal.returns
returns c =
    subst (λ (v : ShardSeen). IsTrue c.is_taken.result ↔ (IsMeant v.plan v.journal (event_of c.args.event.now) × FitsEvent (event_of c.args.event.now))) c.self.view_is
    (rw c.deref.ensures.value at c.is_taken.ensures)
