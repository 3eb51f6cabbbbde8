use Rattle.std.proofs.Common.{arith, subst, sym}
use Rattle.std.specs.Prelude.{All}
use Rattle.std.proofs.lemmas.List.{take_all}
use Rattle.std.proofs.lemmas.List.Elements.{All-more}
use Rattle.agent_core.specs.Journals.{ShardSeen}
use Rattle.journal_bytes.specs.Limits.{AsksWithin, CitesFew, FitsShard}
use Rattle.journal_bytes.specs.Spelled.{shard_spelled}
use Rattle.journal_bytes.proofs.numbers.shards_fit.Goals as goal

pub shard_fits-requires : goal.shard_fits-requires
shard_fits-requires c = record {
  few = subst CitesFew (sym c.shard-item.is) (c.requires.few c.loop-shard.shard-index c.shard-item.result c.loop-shard-test.true);
}

pub loop-shard-preserved : goal.loop-shard-preserved
loop-shard-preserved c =
    All-more (λ (s : ShardSeen). AsksWithin s → FitsShard (shard_spelled s)) c.args.shards.now c.loop-shard.shard-index c.shard-item.result c.loop-shard-test.true c.loop-shard.invariant (subst (λ (s : ShardSeen). AsksWithin s → FitsShard (shard_spelled s)) c.shard-item.is c.shard_fits.ensures)

pub returns : goal.returns
returns c = subst (All (λ (s : ShardSeen). AsksWithin s → FitsShard (shard_spelled s))) (take_all c.loop-shard.shard-index c.args.shards.now (omega (arith, c.loop-shard-test.false))) c.loop-shard.invariant
