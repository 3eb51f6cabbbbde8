-- One connection more, from what the one before left; what the desk and the lane lent is given back.
use Rattle.std.proofs.Common.{ap, refl, subst, sym, ◌∙◌}
use Rattle.frame_link.specs.Doors.{OpensKnown, Counts}
use Rattle.taos_monitor.specs.Desk.{setting_at}
use Rattle.taos_monitor.specs.Planned.{ArePlanned}
use Rattle.request_course.specs.World.{Setting, State}
use Rattle.taos_lanes.specs.Visits.{Visit}
use Rattle.taos_lanes.specs.Working.{seated_at}
use Rattle.taos_lanes.proofs.SoFar.{all_served, none_yet, one_served, none_left, door_fails, serves_asked, settled_at, state_is}
use Rattle.taos_lanes.proofs.sitting.serve_door.Goals as goal

pub loop-tally-init : goal.loop-tally-init
loop-tally-init g c = record {
  so_far = none_yet _ _ _ _ _ c.new-tally.ensures.served c.new-tally.ensures.broken c.new-tally.ensures.lacked c.new-tally.ensures.door;
  free = c.requires.free;
  still = record { stays = record { setting = refl; lent = refl }; pulls = refl; work = refl };
}

pub returns-in_default-clause-served : goal.returns-in_default-clause-served
returns-in_default-clause-served g c =
    let asked = c.in_default.ensures in
    let was = c.loop-tally.invariant in
    serves_asked _ _ _ (seated_at g.S.Shards.shown g.H.Shelf.shown g.L.Worker.shown c.loop-tally.desk c.loop-tally.lane) _ _
    (state_is g.S.Shards.shown g.H.Shelf.shown g.L.Worker.shown c.loop-tally.desk c.loop-tally.lane c.accept.new.self asked.rest)
    (door_fails _ _ _ _ _ _ was.so_far _ asked.gives.0 asked.back asked.gives.1 asked.cause.later asked.cause.failed) was.still asked.rest.work

pub returns-in_default-opened-clause-served : goal.returns-in_default-opened-clause-served
returns-in_default-opened-clause-served g c =
    let asked = c.in-Ok.ensures in
    let was = c.loop-tally.invariant in
    let left = (g.L.Worker.shown c.loop-tally.lane).door in
    let is = (g.L.Worker.shown c.accept.new.self).door in
    let gives = subst (λ o. OpensKnown left.left is.left o × Counts left.left left.given is.given o) c.in_default-opened.is asked.gives in
    serves_asked _ _ _ (seated_at g.S.Shards.shown g.H.Shelf.shown g.L.Worker.shown c.loop-tally.desk c.loop-tally.lane) _ _
    (state_is g.S.Shards.shown g.H.Shelf.shown g.L.Worker.shown c.loop-tally.desk c.loop-tally.lane c.accept.new.self asked.rest)
    (none_left _ _ _ _ _ _ was.so_far is gives.0 asked.back gives.1 asked.cause.steady) was.still asked.rest.work

pub returns-clause-served : goal.returns-clause-served
returns-clause-served g c = record { serves = all_served _ _ _ _ _ _ c.loop-tally.invariant.so_far c.loop-tally-test.false; still = c.loop-tally.invariant.still }

pub serve-outcome-requires-clause-planned : goal.serve-outcome-requires-clause-planned
serve-outcome-requires-clause-planned g c =
    subst (λ (x : Setting). ArePlanned x.node.channels x.node.plans) (sym c.loop-tally.invariant.still.stays.setting) c.requires.planned

pub loop-tally-preserved : goal.loop-tally-preserved
loop-tally-preserved g c =
    let was = c.loop-tally.invariant in
    let asked = c.in-Ok.ensures in
    let it = c.serve-outcome.ensures in
    let node = (setting_at g.S.Shards.shown g.H.Shelf.shown c.args.desk.now).node in
    let v : Visit node c.args.limits.frames = record {
      before = _;
      after = _;
      outcome = _;
      connects = settled_at _ node was.still.stays.setting c.requires.shards_among c.requires.objects_among _ _ _ _ it.connection.1;
    } in
    let begins = state_is g.S.Shards.shown g.H.Shelf.shown g.L.Worker.shown c.loop-tally.desk c.loop-tally.lane c.accept.new.self asked.rest in
    let ends = state_is g.S.Shards.shown g.H.Shelf.shown g.L.Worker.shown c.serve-outcome.new.desk c.serve-outcome.new.self c.done.new.self c.done.ensures.rest in
    record {
      so_far = one_served _ _ _ _ _ _ (g.L.Worker.shown c.accept.new.self).door (g.L.Worker.shown c.serve-outcome.new.self) (g.L.Worker.shown c.done.new.self)
          _ _ _ _ _ v was.so_far (ap (λ (x : State). x.world) begins) (ap (λ (x : State). x.world) (sym ends)) c.in-Some.is asked.gives asked.back asked.cause.steady
          it.rest.door c.done.ensures refl (record { input = refl; output = refl; input_after = refl; output_after = refl }) c.loop-tally-test.true c.add.ensures;
      free = it.free;
      still = record {
        stays = record {
          setting = ap (λ (x : State). x.setting) ends ∙ (it.connection.0.setting ∙ was.still.stays.setting);
          lent = it.connection.0.lent ∙ was.still.stays.lent;
        };
        pulls = ap (λ (x : State). x.world.fetch.pulls) ends ∙ (it.connection.1.connection.fetched.0 ∙ was.still.pulls);
        work = c.done.ensures.rest.work ∙ (it.rest.work ∙ (asked.rest.work ∙ was.still.work));
      };
    }
