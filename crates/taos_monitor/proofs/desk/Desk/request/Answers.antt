-- What was done is the request's course.
use Rattle.std.proofs.Common.{ℕ, ◌%◌, map, refl, sym, ap, subst, ◌∙◌}
use Rattle.std.specs.Prelude.{IsSome}
use Rattle.std.specs.Io.KnownBytes.{Keeps}
use Rattle.std.specs.Option.{option_copied}
use Rattle.frame_link.specs.Lent.{Both}
use Rattle.frame_link.specs.Outside.{OutsideSeen}
use Rattle.frame_link.specs.Readings.{ShowsKnown}
use Rattle.frame_link.specs.Streams.{Stream}
use Rattle.taos_wire.specs.View.{request as request_of, cited as shared}
use Rattle.request_course.specs.Cells.{alone_of, seen_of, shards_in, objects_in}
use Rattle.request_course.specs.declared.handled.Handled.TheVariants as handled
use Rattle.taos_monitor.specs.Desk.{lent_by, setting_by}
use Rattle.request_course.specs.Handling.{HandledTo, HandlesCause, StoppedAtClock}
use Rattle.taos_monitor.specs.Ruling.{Drafts, GuardedTo, standing_of}
use Rattle.request_course.specs.World.{fetch_use, world_of}
use Rattle.taos_monitor.proofs.Desks.{same_setting, moved}
use Rattle.taos_monitor.proofs.Courses.{refused_to, stopped_at_clock, ruled_to}
use Rattle.taos_monitor.proofs.Drafting.{drafted_long, sealed_draft}
use Rattle.taos_monitor.proofs.desk.Desk.request.Goals as goal

pub returns-in-Err-clause-handled : goal.returns-in-Err-clause-handled
returns-in-Err-clause-handled g c =
    let d = c.args.self.now in
    let keys = d.keys.now in
    let shards = g.S.Shards.shown d.shards.now in
    let shelf = g.H.Shelf.shown d.shelf.now in
    let a0 = g.X.Reach.shown c.args.outside.now in
    let a1 = g.X.Reach.shown c.arrive.new.outside in
    let r = request_of c.args.asked.now in
    let reply = c.leave_refused.new.self in (
      record { setting = refl; lent = ap (Both (lent_by d)) c.arrive.ensures.rest.lent },
      ap (fetch_use d.pulls) c.arrive.ensures.rest.fetch,
      moved (λ (o : OutsideSeen). HandledTo (setting_by keys shards shelf) (world_of a0.outside (shards_in shards) (objects_in shelf)) (world_of o (shards_in shards) (objects_in shelf)) r reply)
          a0.outside.clock a1.outside.link a1.outside (sym c.arrive.ensures.rest.clock) refl
          (refused_to keys shards.plans shelf.objects (alone_of shards.alone shelf.alone) a0.outside.link a1.outside.link (shards_in shards) (objects_in shelf) r
          c.unwrap-sealer.result.now (sym c.sealer.ensures ∙ ap option_copied c.unwrap-sealer.ensures) a0.outside.clock c.in-Err.why reply
          c.are_legal.ensures.legal c.in-Err.ensures.refused c.leave_refused.ensures.reply c.leave_refused.ensures.short),
    )

pub returns-in_default-clause-handled : goal.returns-in_default-clause-handled
returns-in_default-clause-handled g c =
    let d = c.args.self.now in
    let keys = d.keys.now in
    let shards = g.S.Shards.shown d.shards.now in
    let shelf = g.H.Shelf.shown d.shelf.now in
    let a0 = g.X.Reach.shown c.args.outside.now in
    let a1 = g.X.Reach.shown c.arrive.new.outside in
    let a2 = g.X.Reach.shown c.now.new.self in
    let r = request_of c.args.asked.now in (
      record { setting = refl; lent = ap (Both (lent_by d)) (c.now.ensures.rest.lent ∙ c.arrive.ensures.rest.lent) },
      ap (fetch_use d.pulls) (c.now.ensures.rest.fetch ∙ c.arrive.ensures.rest.fetch),
      moved (λ (o : OutsideSeen). StoppedAtClock (setting_by keys shards shelf) (world_of a0.outside (shards_in shards) (objects_in shelf)) (world_of o (shards_in shards) (objects_in shelf)) r)
          a2.outside.clock a1.outside.link a2.outside refl (sym c.now.ensures.rest.link)
          (stopped_at_clock keys shards.plans shelf.objects (alone_of shards.alone shelf.alone) a0.outside.link a1.outside.link (shards_in shards) (objects_in shelf) r
          c.unwrap-sealer.result.now (sym c.sealer.ensures ∙ ap option_copied c.unwrap-sealer.ensures) _ c.in-Ok.ensures.arrived a0.outside.clock a2.outside.clock
          (subst (λ (k : Stream). Keeps k.told a2.outside.clock.told) c.arrive.ensures.rest.clock c.in_default.ensures.reading)),
    )

pub rule-requires-clause-there : goal.rule-requires-clause-there
rule-requires-clause-there g c κs within = subst IsSome (sym c.in-Ok.ensures.arrived.there) refl

pub seal-requires : goal.seal-requires
seal-requires g c = let came = c.in-Ok.ensures.arrived in drafted_long c.args.asked.now.channel c.args.asked.now.seq c.rule.new.out _ (c.rule.ensures.guarded came.object came.there)

pub returns-clause-handled : goal.returns-clause-handled
returns-clause-handled g c =
    let d = c.args.self.now in
    let keys = d.keys.now in
    let before = g.S.Shards.shown d.shards.now in
    let shelf = g.H.Shelf.shown d.shelf.now in
    let plans = before.plans in
    let objects = shelf.objects in
    let alone = alone_of before.alone shelf.alone in
    let shards0 = shards_in before in
    let objects0 = objects_in shelf in
    let shards1 = shards_in (g.S.Shards.shown c.rule.new.shards) in
    let objects1 = objects_in (g.H.Shelf.shown c.rule.new.shelf) in
    let a0 = g.X.Reach.shown c.args.outside.now in
    let a1 = g.X.Reach.shown c.arrive.new.outside in
    let a2 = g.X.Reach.shown c.now.new.self in
    let r = request_of c.args.asked.now in
    let came = c.in-Ok.ensures.arrived in
    let stays = c.rule.ensures.stays in (
      record {
        setting = same_setting keys stays.objects stays.plans stays.alone stays.others_take;
        lent = ap (Both (lent_by d)) (c.now.ensures.rest.lent ∙ c.arrive.ensures.rest.lent);
      },
      ap (fetch_use d.pulls) (c.now.ensures.rest.fetch ∙ c.arrive.ensures.rest.fetch),
      moved (λ (o : OutsideSeen). HandledTo (setting_by keys before shelf) (world_of a0.outside shards0 objects0) (world_of o shards1 objects1) r c.seal.new.self)
          a2.outside.clock a1.outside.link a2.outside refl (sym c.now.ensures.rest.link)
          (ruled_to keys plans objects alone a0.outside.link a1.outside.link shards0 objects0 r
          c.unwrap-sealer.result.now (sym c.sealer.ensures ∙ ap option_copied c.unwrap-sealer.ensures) _ came shards1 objects1 a0.outside.clock a2.outside.clock c.in-Ok-now.reading c.seal.new.self
          (subst (λ (k : Stream). ShowsKnown k.told a2.outside.clock.told c.in-Ok-now.reading) c.arrive.ensures.rest.clock c.in-Ok-now.ensures.reading)
          (sealed_draft r.channel r.seq c.rule.new.out _ (subst (λ (n : ℕ). Drafts r.channel r.seq c.rule.new.out (GuardedTo (standing_of plans objects alone) (seen_of shards0 objects0) (seen_of shards1 objects1)
          (record { request = r; certs = map shared c.in-Ok.arrived.certs.items; reading = c.in-Ok-now.reading; shard = r.channel % n; fixed = came.object }))) c.count.ensures.count (c.rule.ensures.guarded came.object came.there))
          c.unwrap-sealer.result.now c.seal.new.self c.seal.ensures.sealed c.seal.ensures.length)),
    )

-- the clock is read by `now` alone
pub returns-in-Err-clause-cause : goal.returns-in-Err-clause-cause
returns-in-Err-clause-cause g c = ap (λ (k : Stream). k.faults) c.arrive.ensures.rest.clock

pub returns-in_default-clause-cause : goal.returns-in_default-clause-cause
returns-in_default-clause-cause g c =
    subst (λ (k : Stream). HandlesCause k.faults (g.X.Reach.shown c.now.new.self).outside.clock.faults handled.ClockFault) c.arrive.ensures.rest.clock
    (c.in_default.ensures.cause.later, c.in_default.ensures.cause.failed)

pub returns-clause-cause : goal.returns-clause-cause
returns-clause-cause g c = c.in-Ok-now.ensures.cause.steady ∙ ap (λ (k : Stream). k.faults) c.arrive.ensures.rest.clock
