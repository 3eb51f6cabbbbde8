-- what was done for the request is what came of it at its object
use Rattle.std.proofs.Common.{None, Some, slice_get, List, sym, ap, ◌∙◌, arith}
use Rattle.std.specs.Option.{option_map}
use Rattle.object_core.specs.View.{operation}
use Rattle.agent_core.specs.State.{Plan}
use Rattle.taos_wire.specs.Reply as replies
use Rattle.taos_wire.specs.View.{reply}
use Rattle.request_course.specs.AtObject.{ruled_as}
use Rattle.taos_monitor.proofs.AtItsObject.{ruled_here, unruled_here}
use Rattle.taos_monitor.proofs.Guards.{unready}
use Rattle.taos_monitor.proofs.ruling.rule.Goals as goal

pub returns-in_default-clause-guarded : goal.returns-in_default-clause-guarded
returns-in_default-clause-guarded g c = λ fixed at. record {
  reply = replies.NoMemory;
  holds = unready (g.S.Shards.shown c.args.shards.now) (g.H.Shelf.shown c.args.shelf.now) c.args.came c.requires.within fixed c.requires.legal
      (omega (arith, c.requires.shard, c.count.ensures.count, c.count.ensures.some));
  spelled = c.draft.ensures.reply;
  short = c.draft.ensures.short;
}

pub returns-in_default-decide-clause-guarded : goal.returns-in_default-decide-clause-guarded
returns-in_default-decide-clause-guarded g c = λ fixed at.
    let left = c.decide.ensures.decided in
    let given = c.give_unruled.ensures in
    record {
      reply = left.reply;
      holds =
          unruled_here (g.S.Shards.shown c.args.shards.now) (g.S.Shards.shown c.decide.new.shards) (g.H.Shelf.shown c.args.shelf.now)
          (g.H.Shelf.shown c.take.new.self) (g.H.Shelf.shown c.give_unruled.new.shelf) c.args.came c.requires.within
          c.unwrap-object.result c.unwrap-object.ensures c.take.ensures given.rest fixed at c.decide.result left.reply
          left.holds c.in_default-decide.is given.seen given.own given.within;
      spelled = left.spelled;
      short = left.short;
    }

pub perform_ruled-refused-requires-clause-legal : goal.perform_ruled-refused-requires-clause-legal
perform_ruled-refused-requires-clause-legal g c κs within = λ s plan at. c.decide.ensures.decided.holds.legal s plan (ap (λ (l : List Plan). slice_get l s) (sym c.decide.ensures.stays.plans) ∙ at)

pub returns-in-Some-refused-clause-guarded : goal.returns-in-Some-refused-clause-guarded
returns-in-Some-refused-clause-guarded g c = λ fixed at.
    let left = c.decide.ensures.decided in
    let given = c.give_ruled.ensures in
    let entry = c.entry_of.ensures.entry ∙ ap (λ a. ruled_as c.in-Some.ruled.shard c.in-Some.ruled.place (operation a) c.in-Some.ruled.ruling) c.in-Ok.ensures.op in
    record {
      reply = reply c.in-Some-refused.refused;
      holds =
          ruled_here (g.S.Shards.shown c.args.shards.now) (g.S.Shards.shown c.decide.new.shards) (g.H.Shelf.shown c.args.shelf.now)
          (g.H.Shelf.shown c.take.new.self) (g.H.Shelf.shown c.give_ruled.new.shelf) c.args.came c.requires.within
          c.unwrap-object.result c.unwrap-object.ensures c.take.ensures given.rest fixed at c.decide.result left.reply left.holds c.decide.ensures.room c.decide.ensures.stays
          c.in-Some.is entry given.seen given.own (operation c.deref.result.now) (ap operation c.deref.ensures)
          c.count.ensures.count c.in-Ok.ensures.due (g.S.Shards.shown c.perform_ruled-refused.new.shards) (option_map reply c.perform_ruled-refused.result) (Some (reply c.in-Some-refused.refused))
          c.perform_ruled-refused.ensures.performed (ap (option_map reply) c.in-Some-refused.is);
      spelled = c.draft-in-Some-refused.ensures.reply;
      short = c.draft-in-Some-refused.ensures.short;
    }

pub returns-in_default-refused-clause-guarded : goal.returns-in_default-refused-clause-guarded
returns-in_default-refused-clause-guarded g c = λ fixed at.
    let left = c.decide.ensures.decided in
    let given = c.give_ruled.ensures in
    let entry = c.entry_of.ensures.entry ∙ ap (λ a. ruled_as c.in-Some.ruled.shard c.in-Some.ruled.place (operation a) c.in-Some.ruled.ruling) c.in-Ok.ensures.op in
    record {
      reply = left.reply;
      holds =
          ruled_here (g.S.Shards.shown c.args.shards.now) (g.S.Shards.shown c.decide.new.shards) (g.H.Shelf.shown c.args.shelf.now)
          (g.H.Shelf.shown c.take.new.self) (g.H.Shelf.shown c.give_ruled.new.shelf) c.args.came c.requires.within
          c.unwrap-object.result c.unwrap-object.ensures c.take.ensures given.rest fixed at c.decide.result left.reply left.holds c.decide.ensures.room c.decide.ensures.stays
          c.in-Some.is entry given.seen given.own (operation c.deref.result.now) (ap operation c.deref.ensures)
          c.count.ensures.count c.in-Ok.ensures.due (g.S.Shards.shown c.perform_ruled-refused.new.shards) (option_map reply c.perform_ruled-refused.result) None
          c.perform_ruled-refused.ensures.performed (ap (option_map reply) c.in_default-refused.is);
      spelled = left.spelled;
      short = left.short;
    }
