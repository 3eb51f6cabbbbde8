-- how its steps ended is what came of the operation
use Rattle.std.specs.Option.{option_map}
use Rattle.object_core.specs.View.{operation}
use Rattle.taos_wire.specs.View.{reply}
use Rattle.taos_monitor.proofs.Performed.{through_all, stopped_by_room, stopped_by_limit}
use Rattle.taos_monitor.proofs.performing.perform.Goals as goal

pub returns-in-Through-clause-performed : goal.returns-in-Through-clause-performed
returns-in-Through-clause-performed g c = λ certs reading due.
    through_all (g.S.Shards.shown c.args.shards.now) (g.S.Shards.shown c.step_due.new.shards) (operation c.args.op.now) certs reading c.args.due due c.in-Through.removed (option_map reply c.not_held.result)
    c.not_held.ensures.told c.in-Through.ensures.ends

pub returns-in-NoRoom-clause-performed : goal.returns-in-NoRoom-clause-performed
returns-in-NoRoom-clause-performed g c = λ certs reading due.
    stopped_by_room (g.S.Shards.shown c.args.shards.now) (g.S.Shards.shown c.step_due.new.shards) (operation c.args.op.now) certs reading c.args.due due c.in-NoRoom.shard c.in-NoRoom.told (option_map reply c.no_room.result) c.no_room.ensures.told c.in-NoRoom.ensures.ends

pub returns-in-Full-clause-performed : goal.returns-in-Full-clause-performed
returns-in-Full-clause-performed g c = λ certs reading due.
    stopped_by_limit (g.S.Shards.shown c.args.shards.now) (g.S.Shards.shown c.step_due.new.shards) (operation c.args.op.now) certs reading c.args.due due c.in-Full.shard c.in-Full.length c.in-Full.ensures.ends
