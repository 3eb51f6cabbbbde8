-- one more journal was looked at, which is legal
use Rattle.std.proofs.Common.{length, ap, sym, subst, ◌∙◌, List, arith}
use Rattle.std.specs.Prelude.{All}
use Rattle.std.proofs.lemmas.List.{length-map, take_all}
use Rattle.shard_core.specs.Alone.{HasLegalJournal}
use Rattle.agent_core.specs.Journals.{Entry}
use Rattle.agent_core.specs.Views.{entry_of}
use Rattle.shard_core.proofs.OneOwner.{lengths_more}
use Rattle.shard_core.proofs.lone.lengths_of.Goals as goal

pub loop-number-preserved : goal.loop-number-preserved
loop-number-preserved c =
    lengths_more c.args.shards.now c.loop-number.number c.index-shards-number.result (omega arith) c.index-shards-number.is c.loop-number.lengths.items c.push.new.self.items (length c.journal.result.now)
    c.loop-number.invariant c.push.ensures.items (sym (length-map c.journal.result.now entry_of) ∙ ap (λ (j : List Entry). length j) c.journal.ensures.value) c.journal.ensures.legal

pub returns-clause-legal : goal.returns-clause-legal
returns-clause-legal c = subst (All HasLegalJournal) (take_all c.loop-number.number c.args.shards.now (omega arith)) c.loop-number.invariant.1
