use Rattle.std.proofs.Common.{◌≡◌, Some, ap, set, slice_index_or, true}
use Rattle.std.specs.Vec.{with_item}
use Rattle.std.proofs.lemmas.Option.{get_or_from_slice_get}
use Rattle.audit_replay.specs.declared.stepping.ShardReplay.{ShardReplay}
use Rattle.audit_replay.proofs.NewName.{named_sound, same_journals_at}
use Rattle.audit_replay.proofs.ruling.name_ask.Goals as goal

pub returns-clause-sound : goal.returns-clause-sound
returns-clause-sound c = λ cells names sound.
    let x = slice_index_or c.args.shards.now c.args.shard c.index-shards-shard.result in
    let now : ShardReplay = record { shard = x.shard; marks = with_item x.marks c.args.place (Some (record { ruling = c.args.due.ruling; named = true })); lists = x.lists } in
    let is : x ≡ c.requires.replay = get_or_from_slice_get c.args.shards.now c.args.shard c.requires.replay c.index-shards-shard.result c.requires.is in
    named_sound names c.args.shard c.args.place cells.plans c.args.shards.now c.requires.replay now c.args.due c.requires.is c.requires.marked (ap (λ (r : ShardReplay). r.shard) is)
    (ap (λ (r : ShardReplay). set r.marks.items c.args.place (Some (record { ruling = c.args.due.ruling; named = true }))) is) sound

pub returns-clause-journals : goal.returns-clause-journals
returns-clause-journals c =
    let x = slice_index_or c.args.shards.now c.args.shard c.index-shards-shard.result in
    let now : ShardReplay = record { shard = x.shard; marks = with_item x.marks c.args.place (Some (record { ruling = c.args.due.ruling; named = true })); lists = x.lists } in
    let is : x ≡ c.requires.replay = get_or_from_slice_get c.args.shards.now c.args.shard c.requires.replay c.index-shards-shard.result c.requires.is in
    same_journals_at c.args.shards.now c.args.shard c.requires.replay now c.requires.is (ap (λ (r : ShardReplay). r.shard) is)
