use Rattle.std.proofs.Common.{arith}
use Rattle.std.proofs.lemmas.Result.{err_from_is_err_and}
use Rattle.byte_fields.proofs.Pieces.{one_more, not_all}
use Rattle.std.proofs.Common.{subst, sym}
use Rattle.journal_bytes.specs.Limits.{CitesFew}
use Rattle.journal_bytes.specs.Spelling.{shard_bytes}
use Rattle.journal_bytes.specs.Spelled.{shard_spelled}
use Rattle.journal_bytes.proofs.journals_writing.push_shards.Goals as goal

pub push_shard-requires : goal.push_shard-requires
push_shard-requires c = record {
  few = subst CitesFew (sym c.shard-item.is) (c.requires.few c.loop-shard.shard-index c.shard-item.result c.loop-shard-test.true);
}

pub returns-in_err-push_shard : goal.returns-in_err-push_shard
returns-in_err-push_shard c =
    let p = err_from_is_err_and c.from_residual.result c.from_residual.ensures.1 in
    rw p.1 (not_all shard_bytes shard_spelled c.args.shards.now c.loop-shard.shard-index c.shard-item.result c.args.out.now c.loop-shard.out c.push_shard.new.out _ _
    c.loop-shard-test.true c.shard-item.is c.loop-shard.invariant.written c.loop-shard.invariant.capacity c.in_err-push_shard.ensures)

pub loop-shard-preserved : goal.loop-shard-preserved
loop-shard-preserved c = record {
  written = one_more shard_bytes shard_spelled c.args.shards.now c.loop-shard.shard-index c.args.out.now.items c.loop-shard.out.items c.shard-item.result c.loop-shard-test.true c.shard-item.is c.loop-shard.invariant.written c.push_shard.new.out.items c.in_ok-push_shard.ensures.ok;
  capacity = omega (arith, c.loop-shard.invariant.capacity, c.in_ok-push_shard.ensures.capacity);
}
