-- one row after another
use Rattle.std.proofs.Common.{ℕ, ◌<◌, length, filter, ap, arith}
use Rattle.std.proofs.lemmas.List.Sums.{sum_by_more}
use Rattle.std.proofs.lemmas.Option.{slice_get_within}
use Rattle.shard_core.specs.declared.shard.store.Row.{Row}
use Rattle.shard_core.specs.Kept.{row_certs, stays, now_at}
use Rattle.shard_core.specs.Letting.{LetsGo}
use Rattle.shard_core.proofs.Places.{step_before, step_behind, still_there}
use Rattle.shard_core.proofs.shard.letting.let_go_of_rows.Goals as goal

pub loop-place-preserved : goal.loop-place-preserved
loop-place-preserved c =
    let lt : c.loop-place.place < length c.loop-place.rows = omega arith in
    let all : (row : Row) → ℕ = λ row. length (row_certs (now_at c.args.book.now c.args.clock c.args.swept) row) in
    let left : (row : Row) → ℕ = λ row. length (filter (stays c.args.removal.now) (row_certs (now_at c.args.book.now c.args.clock c.args.swept) row)) in
    let old = c.index-rows-place.result in
    let there = still_there c.args.rows.now c.loop-place.rows c.loop-place.place old lt c.loop-place.invariant.behind c.loop-place.auto.rows in
    let more_all = sum_by_more all c.args.rows.now c.loop-place.place old (omega arith) in
    let more_left = sum_by_more left c.args.rows.now c.loop-place.place old (omega arith) in
    record {
      before = step_before (LetsGo (now_at c.args.book.now c.args.clock c.args.swept) c.args.removal.now c.args.stamp) c.args.rows.now c.loop-place.rows c.loop-place.place old c.let_go_of-count.new.row lt
          c.let_go_of-count.ensures.row (λ k x y less from to. c.loop-place.invariant.before k x y less from to) c.loop-place.invariant.behind;
      behind = step_behind c.args.rows.now c.loop-place.rows c.loop-place.place c.let_go_of-count.new.row c.loop-place.invariant.behind;
      count = omega (arith, more_all, more_left, ap all there, ap left there, c.loop-place.invariant.count, c.let_go_of-count.ensures.count);
      few = omega (arith, c.loop-place.invariant.few, c.let_go_of-count.ensures.few);
    }

pub returns-clause-rows : goal.returns-clause-rows
returns-clause-rows c = λ i row row' from to. c.loop-place.invariant.before i row row' (omega (arith, slice_get_within c.args.rows.now i row from)) from to
