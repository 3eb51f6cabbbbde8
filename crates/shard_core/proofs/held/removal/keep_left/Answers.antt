-- where as many stay as there are, all do
use Rattle.std.proofs.Common.{List, length, sym, ap, arith}
use Rattle.shard_core.specs.declared.held.name.Name.{Name}
use Rattle.shard_core.specs.Kept.{name_stays}
use Rattle.shard_core.proofs.Rows.{all_stay}
use Rattle.shard_core.proofs.held.removal.keep_left.Goals as goal

pub returns-else-count-len : goal.returns-else-count-len
returns-else-count-len c =
    let all = all_stay (name_stays c.args.book.now c.args.removal.now) c.args.names.now.items
    (omega (arith, c.requires.count, c.len.ensures.value, c.if-count-len.false)) in
    record {
      names = sym all;
      count = omega (arith, c.requires.count, ap (λ (ns : List Name). length ns) all);
    }
