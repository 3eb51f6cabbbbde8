-- the row is settled first, and then has the names of those that stay
use Rattle.std.proofs.Common.{◌≡◌, ap, length, ◌∙◌, refl, arith, filter}
use Rattle.shard_core.specs.Kept.{stays, name_stays}
use Rattle.shard_core.specs.Names.{named}
use Rattle.shard_core.proofs.Rows.{left_named, left_names, left_short, left_count}
use Rattle.shard_core.proofs.shard.row.let_go_of.Goals as goal

kept : (c : goal.After-len) → c.sweep.new.names.items ≡ filter (name_stays c.args.book.now c.args.removal.now) c.settle.new.row.own.items
kept c = c.sweep.ensures

pub overflow_sub-result : goal.overflow_sub-result
overflow_sub-result c =
    omega (arith, c.len.ensures.value, c.len-before.ensures.value, left_short (named c.args.book.now) c.args.removal.now c.settle.new.row.own.items c.sweep.new.names.items (kept c))

pub returns-clause-row : goal.returns-clause-row
returns-clause-row c = record {
  last = c.settle.ensures.last;
  swept_at = refl;
  own = left_named (named c.args.book.now) c.args.removal.now c.settle.new.row.own.items c.sweep.new.names.items (kept c) ∙ ap (filter (stays c.args.removal.now)) c.settle.ensures.own;
  names = left_names (named c.args.book.now) c.args.removal.now c.settle.new.row.own.items c.sweep.new.names.items (kept c) c.settle.ensures.names;
}

pub returns-clause-count : goal.returns-clause-count
returns-clause-count c =
    let count = left_count (named c.args.book.now) c.args.removal.now c.settle.new.row.own.items c.sweep.new.names.items (kept c) c.settle.ensures.names in
    let before = ap (λ certs. length certs) c.settle.ensures.own in
    let after = ap (λ certs. length (filter (stays c.args.removal.now) certs)) c.settle.ensures.own in
    omega (arith, count, before, after, c.len.ensures.value, c.len-before.ensures.value)
