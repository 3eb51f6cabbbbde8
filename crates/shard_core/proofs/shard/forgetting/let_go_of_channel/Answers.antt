-- the channel's row is emptied, where it has one
use Rattle.std.proofs.Common.{refl}
use Rattle.shard_core.specs.Kept.{state_of}
use Rattle.shard_core.proofs.Changing.{row_found, forgotten, count_forgotten, nothing_forgotten, none_counted}
use Rattle.std.specs.Vec.{with_item}
use Rattle.shard_core.proofs.shard.forgetting.let_go_of_channel.Goals as goal

pub clear-requires : goal.clear-requires
clear-requires c =
    let at = row_found c.args.book.now.plan c.args.book.now.journal (state_of c.args.book.now) c.args.store.now c.requires.store c.in-Some.place c.args.channel c.index_mut-row.result.now c.in-Some.ensures c.index_mut-row.ensures.value in
    (c.requires.store.rows_are c.in-Some.place c.index_mut-row.result.now c.args.channel at c.in-Some.ensures).names

pub returns-in-Some-clause-store : goal.returns-in-Some-clause-store
returns-in-Some-clause-store c =
    let at = row_found c.args.book.now.plan c.args.book.now.journal (state_of c.args.book.now) c.args.store.now c.requires.store c.in-Some.place c.args.channel c.index_mut-row.result.now c.in-Some.ensures c.index_mut-row.ensures.value in
    forgotten c.args.book.now.plan c.args.book.now.journal (state_of c.args.book.now) c.args.store.now
    (record { clock = c.args.store.now.clock; swept = c.args.store.now.swept; commons = c.args.store.now.commons; withdrawn = c.args.store.now.withdrawn; rows = with_item c.args.store.now.rows c.in-Some.place c.clear.new.row })
    c.requires.store c.requires.planned.ascending c.args.channel c.in-Some.place c.index_mut-row.result.now c.clear.new.row c.in-Some.ensures at c.clear.ensures.last c.clear.ensures.swept c.clear.ensures.own refl refl refl refl refl

pub returns-in-Some-clause-count : goal.returns-in-Some-clause-count
returns-in-Some-clause-count c =
    let at = row_found c.args.book.now.plan c.args.book.now.journal (state_of c.args.book.now) c.args.store.now c.requires.store c.in-Some.place c.args.channel c.index_mut-row.result.now c.in-Some.ensures c.index_mut-row.ensures.value in
    count_forgotten c.args.book.now.plan c.args.book.now.journal (state_of c.args.book.now) c.args.store.now
    c.args.store.now c.requires.store c.requires.planned.ascending c.args.channel c.in-Some.place c.index_mut-row.result.now c.clear.result c.in-Some.ensures at c.clear.ensures.count

pub returns-in-None-clause-store : goal.returns-in-None-clause-store
returns-in-None-clause-store c =
    nothing_forgotten c.args.book.now.plan c.args.book.now.journal (state_of c.args.book.now) c.args.store.now c.requires.store c.args.channel c.in-None.ensures

pub returns-in-None-clause-count : goal.returns-in-None-clause-count
returns-in-None-clause-count c =
    none_counted c.args.book.now.plan c.args.book.now.journal (state_of c.args.book.now) c.args.store.now c.requires.store c.args.channel c.in-None.ensures
