-- the commons and the rows let them go, and the counts add up
use Rattle.std.proofs.Common.{◌≡◌, ℕ, Some, refl, ap, ◌∙◌, length, arith, subst, sym, All, List}
use Rattle.std.specs.List.{slice_get}
use Rattle.shard_core.specs.Kept.{now_at, state_of}
use Rattle.shard_core.specs.declared.shard.store.Row.{Row}
use Rattle.shard_core.specs.Letting.{LetsGo}
use Rattle.std.specs.Vec.{with_items}
use Rattle.std.proofs.lemmas.List.{with_items_is}
use Rattle.shard_core.specs.Names.{named, AreNames}
use Rattle.shard_core.proofs.Rows.{left_short}
use Rattle.shard_core.proofs.Stores.{rows_named, let_store, let_count}
use Rattle.shard_core.proofs.shard.letting.let_go.Goals as goal

pub overflow_sub-common : goal.overflow_sub-common
overflow_sub-common c =
    omega (arith, c.len.ensures.value, c.len-before.ensures.value, left_short (named c.args.book.now) c.args.removal.now c.args.store.now.commons.items c.sweep.new.names.items c.sweep.ensures)

pub let_go_of_rows-own-requires-clause-names : goal.let_go_of_rows-own-requires-clause-names
let_go_of_rows-own-requires-clause-names c =
    subst (λ (rows : List Row). All (λ (row : Row). AreNames c.args.book.now row.own.items) rows) (sym c.deref_mut.ensures.value)
    (rows_named c.args.book.now.plan c.args.book.now.journal (state_of c.args.book.now) c.args.store.now c.requires.store)

items_are : (c : goal.After-store-3-1) → (with_items c.args.store.now.rows c.let_go_of_rows-own.new.rows).items ≡ c.let_go_of_rows-own.new.rows
items_are c = with_items_is c.args.store.now.rows c.let_go_of_rows-own.new.rows (c.let_go_of_rows-own.auto.rows ∙ c.deref_mut.ensures.len)

long : (c : goal.After-store-3-1) → length (with_items c.args.store.now.rows c.let_go_of_rows-own.new.rows).items ≡ length c.args.store.now.rows.items
long c = ap (λ (rows : List Row). length rows) (items_are c) ∙ c.let_go_of_rows-own.auto.rows ∙ ap (λ (rows : List Row). length rows) c.deref_mut.ensures.value

rows_let : (c : goal.After-store-3-1) → (i : ℕ) (row row' : Row) → slice_get c.args.store.now.rows.items i ≡ Some row → slice_get (with_items c.args.store.now.rows c.let_go_of_rows-own.new.rows).items i ≡ Some row' →
    LetsGo (now_at c.args.book.now c.args.store.now.clock c.args.store.now.swept) c.args.removal.now c.stamp-stamp.result row row'
rows_let c = rw (items_are c) (rw c.deref_mut.ensures.value at c.let_go_of_rows-own.ensures.rows)

pub returns-clause-store : goal.returns-clause-store
returns-clause-store c =
    let_store c.args.book.now.plan c.args.book.now.journal (state_of c.args.book.now) c.args.store.now c.requires.store
    c.args.removal.now c.args.moment c.stamp-stamp.result
    (record { clock = c.args.moment; swept = c.stamp-stamp.result; commons = c.sweep.new.names; withdrawn = c.args.store.now.withdrawn; rows = with_items c.args.store.now.rows c.let_go_of_rows-own.new.rows })
    c.sweep.ensures (long c) (rows_let c) refl refl refl

pub returns-clause-count : goal.returns-clause-count
returns-clause-count c =
    let own = rw c.deref_mut.ensures.value at c.let_go_of_rows-own.ensures.count in
    let count = let_count c.args.book.now.plan c.args.book.now.journal (state_of c.args.book.now) c.args.store.now c.requires.store
    c.args.removal.now c.args.moment c.stamp-stamp.result
    (record { clock = c.args.moment; swept = c.stamp-stamp.result; commons = c.sweep.new.names; withdrawn = c.args.store.now.withdrawn; rows = with_items c.args.store.now.rows c.let_go_of_rows-own.new.rows })
    c.sweep.ensures (long c) (rows_let c) c.let_go_of_rows-own.result own in
    omega (arith, count, c.len.ensures.value, c.len-before.ensures.value)
