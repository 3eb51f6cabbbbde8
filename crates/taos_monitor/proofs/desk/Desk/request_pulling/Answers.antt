-- What was pulled, and then what was done, is the request's course.
use Rattle.std.proofs.Common.{refl, subst, sym, ap, ◌∙◌}
use Rattle.std.specs.Prelude.{IsSome}
use Rattle.std.specs.Option.{option_copied}
use Rattle.keyed_seal.specs.Keys.{key_of}
use Rattle.frame_link.specs.Lent.{Both}
use Rattle.frame_link.specs.Streams.{Stream}
use Rattle.taos_wire.specs.View.{request as request_of}
use Rattle.request_course.specs.Cells.{alone_of, shards_in, objects_in}
use Rattle.taos_monitor.specs.Desk.{lent_by}
use Rattle.request_course.specs.Handling.{HandlesCause}
use Rattle.taos_monitor.specs.Planned.{IsPlanned}
use Rattle.taos_monitor.proofs.Desks.{ready_pulling, stopped_pulling}
use Rattle.taos_monitor.proofs.Pulls.{unfetched_to, halted_to, lacking_to, same_channel}
use Rattle.taos_monitor.proofs.desk.Desk.request_pulling.Goals.{in-RelayFailed, in-NoMemory}
use Rattle.taos_monitor.proofs.desk.Desk.request_pulling.Goals as goal

pub request-requires-clause-short : goal.request-requires-clause-short
request-requires-clause-short g c = λ lifetimes lives. c.pull.ensures.short c.requires.short

pub request-requires-clause-keyed : goal.request-requires-clause-keyed
request-requires-clause-keyed g c = λ lifetimes lives.
    let p = c.in-Ready.ensures.pulls in
    subst (λ channel. IsSome (key_of c.args.self.now.keys.now.channels.entries channel)) (sym (same_channel _ (request_of c.args.asked) (request_of c.pull.new.asked) p.pull p.calls p.ends)) c.requires.keyed

pub request-requires-clause-planned : goal.request-requires-clause-planned
request-requires-clause-planned g c = λ lifetimes lives.
    let p = c.in-Ready.ensures.pulls in
    subst (IsPlanned (g.S.Shards.shown c.args.self.now.shards.now).plans) (sym (same_channel _ (request_of c.args.asked) (request_of c.pull.new.asked) p.pull p.calls p.ends)) c.requires.planned

pub returns-in-Ready-clause-handled : goal.returns-in-Ready-clause-handled
returns-in-Ready-clause-handled g c =
    let keys = c.args.self.now.keys.now in
    let shards = g.S.Shards.shown c.args.self.now.shards.now in
    let shelf = g.H.Shelf.shown c.args.self.now.shelf.now in
    let left = c.request.new.self in
    let done = c.request.ensures.handled in (
      record { setting = done.0.setting; lent = done.0.lent ∙ ap (Both (lent_by c.args.self.now)) c.pull.ensures.rest.lent },
      ready_pulling keys shards.plans shelf.objects (alone_of shards.alone shelf.alone) (shards_in shards) (objects_in shelf) (request_of c.args.asked)
          (g.X.Reach.shown c.args.outside.now) (g.X.Reach.shown c.pull.new.self) c.pull.ensures.rest.clock (request_of c.pull.new.asked) (g.X.Reach.shown c.request.new.outside)
          c.args.self.now.pulls left.pulls (shards_in (g.S.Shards.shown left.shards.now)) (objects_in (g.H.Shelf.shown left.shelf.now)) c.request.new.out
          c.requires.pulls done.1 c.in-Ready.ensures.pulls c.pull.ensures.fits c.request.result done.2,
    )

pub returns-in-PullFailed-clause-handled : goal.returns-in-PullFailed-clause-handled
returns-in-PullFailed-clause-handled g c =
    let keys = c.args.self.now.keys.now in
    let shards = g.S.Shards.shown c.args.self.now.shards.now in
    let shelf = g.H.Shelf.shown c.args.self.now.shelf.now in
    let alone = alone_of shards.alone shelf.alone in
    let a0 = g.X.Reach.shown c.args.outside.now in
    let a1 = g.X.Reach.shown c.pull.new.self in
    let r = request_of c.args.asked in (
      record { setting = refl; lent = ap (Both (lent_by c.args.self.now)) c.pull.ensures.rest.lent },
      stopped_pulling keys shards.plans shelf.objects alone (shards_in shards) (objects_in shelf) r a0 a1 c.pull.ensures.rest.clock c.args.self.now.pulls c.leave_pull_failed.new.self c.requires.pulls
          (unfetched_to keys shards.plans shelf.objects alone a0.fetch a1.fetch a0.outside.link a1.outside.link (shards_in shards) (objects_in shelf) r
          a0.outside.clock c.unwrap-sealer.result.now (sym c.sealer.ensures ∙ ap option_copied c.unwrap-sealer.ensures) c.leave_pull_failed.new.self c.are_legal.ensures.legal
          (request_of c.pull.new.asked) c.in-PullFailed.ensures.pulls c.leave_pull_failed.ensures.reply c.leave_pull_failed.ensures.short),
    )

pub returns-clause-handled : goal.returns-clause-handled
returns-clause-handled g c =
    let keys = c.args.self.now.keys.now in
    let shards = g.S.Shards.shown c.args.self.now.shards.now in
    let shelf = g.H.Shelf.shown c.args.self.now.shelf.now in
    let alone = alone_of shards.alone shelf.alone in
    let a0 = g.X.Reach.shown c.args.outside.now in
    let a1 = g.X.Reach.shown c.pull.new.self in
    let r = request_of c.args.asked in
    let known = sym c.sealer.ensures ∙ ap option_copied c.unwrap-sealer.ensures in
    let bytes = c.leave_refused.new.self in (
      record { setting = refl; lent = ap (Both (lent_by c.args.self.now)) c.pull.ensures.rest.lent },
      stopped_pulling keys shards.plans shelf.objects alone (shards_in shards) (objects_in shelf) r a0 a1 c.pull.ensures.rest.clock c.args.self.now.pulls bytes c.requires.pulls
          (elim c.match-pull.branch [
            | in-RelayFailed w ↦ halted_to keys shards.plans shelf.objects alone a0.fetch a1.fetch a0.outside.link a1.outside.link (shards_in shards) (objects_in shelf) r
                a0.outside.clock c.unwrap-sealer.result.now known bytes c.are_legal.ensures.legal (request_of c.pull.new.asked) w.in-RelayFailed.index
                w.in-RelayFailed.ensures.pulls (rw w.why-is at c.leave_refused.ensures.reply) c.leave_refused.ensures.short
            | in-NoMemory w ↦ lacking_to keys shards.plans shelf.objects alone a0.fetch a1.fetch a0.outside.link a1.outside.link (shards_in shards) (objects_in shelf) r
                a0.outside.clock c.unwrap-sealer.result.now known bytes c.are_legal.ensures.legal (request_of c.pull.new.asked)
                w.in-NoMemory.ensures.pulls (rw w.why-is at c.leave_refused.ensures.reply) c.leave_refused.ensures.short
          ]),
    )

-- a pull does not read the clock
pub returns-in-Ready-clause-cause : goal.returns-in-Ready-clause-cause
returns-in-Ready-clause-cause g c =
    subst (λ (k : Stream). HandlesCause k.faults (g.X.Reach.shown c.request.new.outside).outside.clock.faults c.request.result) c.pull.ensures.rest.clock c.request.ensures.cause

pub returns-in-PullFailed-clause-cause : goal.returns-in-PullFailed-clause-cause
returns-in-PullFailed-clause-cause g c = ap (λ (k : Stream). k.faults) c.pull.ensures.rest.clock

pub returns-clause-cause : goal.returns-clause-cause
returns-clause-cause g c = ap (λ (k : Stream). k.faults) c.pull.ensures.rest.clock
