-- what stays in common is what the state has at the moment
use Rattle.std.proofs.Common.{refl, arith}
use Rattle.shard_core.specs.Kept.{state_of}
use Rattle.shard_core.proofs.Changing.{store_swept}
use Rattle.shard_core.proofs.shard.asking.move_on.Goals as goal

pub returns-clause-store : goal.returns-clause-store
returns-clause-store c =
    let left = rw c.gone_by.ensures at c.sweep.ensures in
    store_swept c.args.book.now.plan c.args.book.now.journal (state_of c.args.book.now) c.args.store.now
    (record { clock = c.args.moment; swept = c.stamp-store.result; commons = c.sweep.new.names; withdrawn = c.args.store.now.withdrawn; rows = c.args.store.now.rows })
    c.requires.store c.args.moment c.stamp-store.result c.requires.later (omega (arith, c.requires.swept, c.stamp-store.ensures)) left refl refl refl refl
