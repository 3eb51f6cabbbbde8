-- one journal more was counted
use Rattle.std.proofs.Common.{length, List, ap, sym, ◌∙◌, arith}
use Rattle.std.proofs.lemmas.List.{length-map, take_all}
use Rattle.agent_core.specs.Journals.{Entry, ShardSeen}
use Rattle.agent_core.specs.Views.{entry_of}
use Rattle.taos_lanes.specs.Summary.{entries_of}
use Rattle.taos_lanes.proofs.Counts.{sum_more}
use Rattle.taos_lanes.proofs.summary.entries_in.Goals as goal

pub loop-shard-preserved : goal.loop-shard-preserved
loop-shard-preserved c =
    sum_more (λ (s : ShardSeen). length s.journal) c.args.shards.now c.loop-shard.shard-index c.shard-item.result c.loop-shard.count (length c.journal.result.now) c.loop-shard-test.true c.shard-item.is
    (sym (length-map c.journal.result.now entry_of) ∙ ap (λ (j : List Entry). length j) c.journal.ensures.value) (omega arith) c.loop-shard.invariant

pub returns : goal.returns
returns c = c.loop-shard.invariant.0 ∙ ap entries_of (take_all c.loop-shard.shard-index c.args.shards.now (omega (arith, c.loop-shard-test.false)))
