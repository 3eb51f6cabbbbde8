-- no journal is longer than it was just now
use Rattle.std.proofs.Common.{List, map, length, ap, ◌∙◌, subst}
use Rattle.std.specs.Prelude.{All}
use Rattle.shard_core.specs.Alone.{HasLegalJournal}
use Rattle.agent_core.specs.Journals.{ShardSeen}
use Rattle.shard_core.proofs.OneOwner.{lone_new, own_new}
use Rattle.shard_core.proofs.lone.Lone.new.Goals as goal

pub invariant_of-result : goal.invariant_of-result
invariant_of-result c =
    lone_new c.args.shards.items c.lengths_of-opened.result.items
    (c.lengths_of-opened.ensures.lengths ∙ ap (λ (l : List ShardSeen). map (λ (s : ShardSeen). length s.journal) l) c.deref.ensures.value) c.args.anchors.value.items c.requires
    (subst (All HasLegalJournal) c.deref.ensures.value c.lengths_of-opened.ensures.legal)

pub returns-clause-own : goal.returns-clause-own
returns-clause-own c =
    own_new c.args.shards.items c.lengths_of-opened.result.items
    (c.lengths_of-opened.ensures.lengths ∙ ap (λ (l : List ShardSeen). map (λ (s : ShardSeen). length s.journal) l) c.deref.ensures.value)
