-- each shard that is due is stepped, up to one that does not do it
use Rattle.std.proofs.Common.{◌+◌, length, refl, ◌∙◌, arith}
use Rattle.taos_monitor.specs.Performing.{CanStep, effect_due}
use Rattle.taos_monitor.proofs.EffectSteps.{none_stepped, popped, popped_length, done_more, no_room, no_place}
use Rattle.taos_monitor.proofs.performing.step_due.Goals as goal

pub overflow_cast-count : goal.overflow_cast-count
overflow_cast-count g c = omega (arith, c.len-count.ensures, c.requires.ready.small)

pub loop-place-init : goal.loop-place-init
loop-place-init g c = record {
  stepped = none_stepped (g.S.Shards.shown c.args.shards.now) (effect_due c.args.due) c.requires.legal;
  plans = refl;
  alone = refl;
  left = omega (arith, c.len-count.ensures);
  each = c.requires.ready.each;
}

pub overflow_add-shard : goal.overflow_add-shard
overflow_add-shard g c = omega (arith, c.requires.ready.small, c.loop-place-test.true, c.len-count.ensures)

pub step_one-requires-clause-effect : goal.step_one-requires-clause-effect
step_one-requires-clause-effect g c κs within =
    (popped (CanStep (effect_due c.args.due)) c.loop-place.events.items c.pop.new.self.items c.pop.result c.unwrap-event.result c.loop-place.invariant.each c.pop.ensures.items c.unwrap-event.ensures).1.is_effect

pub step_one-requires-clause-fits : goal.step_one-requires-clause-fits
step_one-requires-clause-fits g c κs within =
    (popped (CanStep (effect_due c.args.due)) c.loop-place.events.items c.pop.new.self.items c.pop.result c.unwrap-event.result c.loop-place.invariant.each c.pop.ensures.items c.unwrap-event.ensures).1.fits

pub returns-in-NoRoom-clause-ends : goal.returns-in-NoRoom-clause-ends
returns-in-NoRoom-clause-ends g c =
    let inv = c.loop-place.invariant in
    let can = (popped (CanStep (effect_due c.args.due)) c.loop-place.events.items c.pop.new.self.items c.pop.result c.unwrap-event.result inv.each c.pop.ensures.items c.unwrap-event.ensures).1 in
    no_room (g.S.Shards.shown c.args.shards.now) (g.S.Shards.shown c.loop-place.shards) (g.S.Shards.shown c.step_one.new.shards) inv.plans inv.alone
    (effect_due c.args.due) c.args.due.first c.loop-place.place c.loop-place.removed inv.stepped (c.args.due.first + c.loop-place.place) refl (omega (arith, c.requires.ready.within, c.loop-place-test.true, c.len-count.ensures))
    c.unwrap-event.result can c.step_one.ensures.rest c.in-NoRoom.told (length c.args.due.events.items) (omega (arith, c.loop-place-test.true, c.len-count.ensures)) c.in-NoRoom.ensures.went

pub returns-in-Full-clause-ends : goal.returns-in-Full-clause-ends
returns-in-Full-clause-ends g c =
    let inv = c.loop-place.invariant in
    let can = (popped (CanStep (effect_due c.args.due)) c.loop-place.events.items c.pop.new.self.items c.pop.result c.unwrap-event.result inv.each c.pop.ensures.items c.unwrap-event.ensures).1 in
    no_place (g.S.Shards.shown c.args.shards.now) (g.S.Shards.shown c.loop-place.shards) (g.S.Shards.shown c.step_one.new.shards) inv.plans inv.alone
    (effect_due c.args.due) c.args.due.first c.loop-place.place c.loop-place.removed inv.stepped (c.args.due.first + c.loop-place.place) refl (omega (arith, c.requires.ready.within, c.loop-place-test.true, c.len-count.ensures))
    c.unwrap-event.result can c.step_one.ensures.rest c.in-Full.length (length c.args.due.events.items) (omega (arith, c.loop-place-test.true, c.len-count.ensures)) c.in-Full.ensures.went

pub loop-place-preserved : goal.loop-place-preserved
loop-place-preserved g c =
    let inv = c.loop-place.invariant in
    let both = popped (CanStep (effect_due c.args.due)) c.loop-place.events.items c.pop.new.self.items c.pop.result c.unwrap-event.result inv.each c.pop.ensures.items c.unwrap-event.ensures in
    let fewer = popped_length c.loop-place.events.items c.pop.new.self.items c.pop.result c.unwrap-event.result c.pop.ensures.items c.unwrap-event.ensures in
    record {
      stepped = done_more (g.S.Shards.shown c.args.shards.now) (g.S.Shards.shown c.loop-place.shards) (g.S.Shards.shown c.step_one.new.shards) inv.plans inv.alone
          (effect_due c.args.due) c.args.due.first c.loop-place.place c.loop-place.removed inv.stepped (c.args.due.first + c.loop-place.place) refl (omega (arith, c.requires.ready.within, c.loop-place-test.true, c.len-count.ensures))
          c.unwrap-event.result both.1 c.step_one.ensures.rest c.in-Done.count c.in-Done.ensures.went c.is_any-removed.result c.is_any-removed.ensures;
      plans = c.step_one.ensures.rest.plans ∙ inv.plans;
      alone = c.step_one.ensures.rest.alone ∙ inv.alone;
      left = omega (arith, inv.left, fewer);
      each = both.0;
    }
