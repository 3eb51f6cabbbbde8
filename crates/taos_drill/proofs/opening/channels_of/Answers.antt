use Rattle.std.proofs.Common.{◌+◌, ap, ◌∙◌, arith}
use Rattle.std.proofs.lemmas.Result.{IfOk-at_ok}
use Rattle.keyed_seal.specs.Keys.{AddsKey}
use Rattle.taos_drill.proofs.OneMore.{channel_more, channels_above}
use Rattle.taos_drill.proofs.opening.channels_of.Goals as goal

pub lanes-preserved : goal.lanes-preserved
lanes-preserved c =
    let old = c.lanes.table in
    let new = c.add.new.self in
    let lane = c.lanes.lane in
    let key = c.key_at.result in
    let so = c.lanes.invariant in
    let adds : AddsKey old new (lane + 1) key = IfOk-at_ok (λ _. AddsKey old new (lane + 1) key) c.unwrap.ensures c.add.ensures.added in
    record {
      room = adds.room ∙ so.room;
      count = adds.count ∙ ap (λ k. k + 1) so.count;
      free = channels_above old new lane key adds so.free;
      held = λ seed is. channel_more old new lane key adds seed (so.held seed is) (so.free (lane + 1) (omega arith)) (c.key_at.ensures seed c.args.lanes is);
    }
