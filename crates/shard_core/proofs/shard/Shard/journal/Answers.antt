-- the invariant has it
use Rattle.std.proofs.Common.{All, subst}
use Rattle.agent_core.specs.Answers.{FitsEvent}
use Rattle.agent_core.specs.Journals.{Entry, ShardSeen, IsLegalJournal}
use Rattle.shard_core.proofs.shard.Shard.journal.Goals as goal

pub returns-clause-legal : goal.returns-clause-legal
returns-clause-legal c = subst (λ (v : ShardSeen). IsLegalJournal v.plan v.journal) c.self.view_is c.self.invariant.kept.legal

pub returns-clause-fits : goal.returns-clause-fits
returns-clause-fits c = subst (λ (v : ShardSeen). All (λ (e : Entry). FitsEvent e.event) v.journal) c.self.view_is c.self.invariant.fits
