use Rattle.std.proofs.Common.{refl, subst}
use Rattle.frame_link.specs.Doors.{OpensKnown, Counts}
use Rattle.taos_lanes.specs.Relaying.{RelayVisit}
use Rattle.taos_lanes.proofs.SoFar.{all_served, none_yet, one_served, none_left, door_fails, other_doors}
use Rattle.taos_lanes.proofs.relaying.relay_door.Goals as goal

pub loop-tally-init : goal.loop-tally-init
loop-tally-init g c = record {
  so_far = none_yet _ _ _ _ _ c.new-tally.ensures.served c.new-tally.ensures.broken c.new-tally.ensures.lacked c.new-tally.ensures.door;
  same = record { outside = refl; fetch = refl; work = refl };
}

pub returns-in_default : goal.returns-in_default
returns-in_default g c =
    let asked = c.in_default.ensures in
    record {
      same = other_doors c.loop-tally.invariant.same asked.rest;
      serves = door_fails _ _ _ _ _ _ c.loop-tally.invariant.so_far _ asked.gives.0 asked.back asked.gives.1 asked.cause.later asked.cause.failed;
    }

pub returns-in_default-opened : goal.returns-in_default-opened
returns-in_default-opened g c =
    let asked = c.in-Ok.ensures in
    let was = (g.L.Worker.shown c.loop-tally.lane).door in
    let is = (g.L.Worker.shown c.accept.new.self).door in
    let gives = subst (λ o. OpensKnown was.left is.left o × Counts was.left was.given is.given o) c.in_default-opened.is asked.gives in
    record {
      same = other_doors c.loop-tally.invariant.same asked.rest;
      serves = none_left _ _ _ _ _ _ c.loop-tally.invariant.so_far is gives.0 asked.back gives.1 asked.cause.steady;
    }

pub returns : goal.returns
returns g c = record { same = c.loop-tally.invariant.same; serves = all_served _ _ _ _ _ _ c.loop-tally.invariant.so_far c.loop-tally-test.false }

pub loop-tally-preserved : goal.loop-tally-preserved
loop-tally-preserved g c =
    let asked = c.in-Ok.ensures in
    let it = c.serve_relay-outcome.ensures in
    let v : RelayVisit c.args.relay.now.limits.frames = record {
      before = _;
      after = _;
      outcome = _;
      connects = record { served = it.served; causes = it.causes; complete = it.complete };
    } in
    record {
      so_far = one_served _ _ _ _ _ _ (g.L.Worker.shown c.accept.new.self).door (g.L.Worker.shown c.accept.new.self) (g.L.Worker.shown c.done.new.self)
          _ _ _ _ _ v c.loop-tally.invariant.so_far refl refl c.in-Some.is asked.gives asked.back asked.cause.steady
          refl c.done.ensures refl (record { input = refl; output = refl; input_after = refl; output_after = refl }) c.loop-tally-test.true c.add.ensures;
      same = other_doors c.loop-tally.invariant.same (other_doors asked.rest c.done.ensures.rest);
    }
