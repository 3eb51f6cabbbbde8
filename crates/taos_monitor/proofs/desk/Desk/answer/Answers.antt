-- The course of the payload is that of the request that it is, with what was pulled for it.
use Rattle.std.proofs.Common.{refl, sym, subst}
use Rattle.std.specs.Prelude.{IsSome}
use Rattle.taos_wire.specs.View.{request as request_of}
use Rattle.request_course.specs.Cells.{alone_of, shards_in, objects_in}
use Rattle.request_course.specs.World.{fetch_use}
use Rattle.taos_monitor.proofs.Payloads.{texts_short}
use Rattle.taos_monitor.proofs.Courses.{unasked_to}
use Rattle.taos_monitor.proofs.Pulls.{answers_pulled}
use Rattle.taos_monitor.proofs.desk.Desk.answer.Goals as goal

pub handle-requires-clause-limits : goal.handle-requires-clause-limits
handle-requires-clause-limits g c = λ lifetimes lives. c.in-Ok.ensures.asked.asked.spelled.limits

pub handle-requires-clause-short : goal.handle-requires-clause-short
handle-requires-clause-short g c = λ lifetimes lives. texts_short (request_of c.in-Ok.asked) c.args.payload.now c.in-Ok.ensures.asked.asked.spelled c.requires.short

pub handle-requires-clause-keyed : goal.handle-requires-clause-keyed
handle-requires-clause-keyed g c = λ lifetimes lives. subst IsSome (sym c.in-Ok.ensures.asked.asked.keyed) refl

pub handle-requires-clause-planned : goal.handle-requires-clause-planned
handle-requires-clause-planned g c = λ lifetimes lives plan at. c.requires.planned c.in-Ok.asked.channel plan (subst IsSome (sym c.in-Ok.ensures.asked.asked.keyed) refl) at

pub returns-in-Ok-clause-answered : goal.returns-in-Ok-clause-answered
returns-in-Ok-clause-answered g c =
    let by = c.in-Ok.ensures.asked in
    let done = c.handle.ensures.handled in
    (done.0, answers_pulled _ _ _ (request_of c.in-Ok.asked) c.args.payload.now by.key c.handle.new.out by.asked c.handle.result done.1)

pub returns-in-Ok-clause-unfetched : goal.returns-in-Ok-clause-unfetched
returns-in-Ok-clause-unfetched g c = λ none. let by = c.in-Ok.ensures.asked in absurd (none (request_of c.in-Ok.asked) by.key by.asked)

pub returns-in-Err-clause-answered : goal.returns-in-Err-clause-answered
returns-in-Err-clause-answered g c =
    let shards = g.S.Shards.shown c.args.self.now.shards.now in
    let shelf = g.H.Shelf.shown c.args.self.now.shelf.now in
    let reach = g.X.Reach.shown c.args.outside.now in (
      record { setting = refl; lent = refl },
      unasked_to c.args.self.now.keys.now shards.plans shelf.objects (alone_of shards.alone shelf.alone) (fetch_use c.args.self.now.pulls reach.fetch)
          reach.outside.link (shards_in shards) (objects_in shelf) reach.outside.clock c.args.payload.now c.in-Err.why c.leave_unsealed.new.self
          c.are_legal.ensures.legal c.in-Err.ensures.refused c.leave_unsealed.ensures.reply c.leave_unsealed.ensures.short,
    )
