use Rattle.std.proofs.Common.{rules}
use Rattle.turn_cell.proofs.Keeps.{joins, settles}
use Rattle.turn_cell.proofs.Told.{joined_now, joins_to}
use Rattle.turn_cell.proofs.steps.join.Goals as goal

-- both views are idle and have a share
pub join_seat-requires : goal.join_seat-requires
join_seat-requires g c = (search rules, search rules, search rules, search rules, joins _ _ _ _ _ _ _ _ c.requires.idle.0.0 c.requires.idle.0.1 c.requires.idle.1.0 c.requires.idle.1.1)

-- the joined view keeps both lists in its stage, so the load can tell of them
pub load-requires : goal.load-requires
load-requires g c = let j = joined_now c.args.seat.now.me c.join_seat.new.seat.me c.args.other.me.0 c.requires.idle.0 c.join_seat.ensures.2 in
    (search rules, search rules, settles _ _ _ _ _ _ _ c.args.seat.now.me.0.seen c.args.other.me.0.seen j.1 j.2)

-- what the load told, in the words of the two views
pub returns : goal.returns
returns g c = let j = joined_now c.args.seat.now.me c.join_seat.new.seat.me c.args.other.me.0 c.requires.idle.0 c.join_seat.ensures.2 in
    record { joined = (search rules, joins_to g.V.Journaled.fixed g.V.Journaled.journal g.V.Journaled.allows c.args.seat.now.me c.join_seat.new.seat.me c.load.new.seat.me c.args.other.me.0 j.0 (c.load.ensures.2 c.args.seat.now.me.0.seen c.args.other.me.0.seen j.1)) }
