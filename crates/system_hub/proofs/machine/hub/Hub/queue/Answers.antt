-- A seat that lacks its turn gets it behind all others.
use Rattle.std.proofs.Common.{ℕ, ◌<◌, length, sym, subst, Some, true}
use Rattle.system_hub.specs.Kept.{Kept}
use Rattle.system_hub.specs.Calls.{Settles, WantsTurn}
use Rattle.system_hub.specs.Queues.{Queues}
use Rattle.system_hub.specs.contracts.machine.hub.Hub.{the_view}
use Rattle.system_hub.specs.declared.machine.hub.Hub.TheInside.{Inside}
use Rattle.system_hub.specs.declared.machine.seat.Seat.{Seat}
use Rattle.system_hub.proofs.Waiting.{has_place}
use Rattle.system_hub.proofs.Filing.{with_seat}
use Rattle.system_hub.proofs.Turning.{with_both}
use Rattle.system_hub.proofs.Calling.{read_at, same_size}
use Rattle.system_hub.proofs.Queueing.{settled, joined_settles, stray_settles}
use Rattle.system_hub.proofs.machine.hub.Hub.queue.Goals as goal
use Rattle.system_hub.proofs.machine.hub.Hub.queue.Goals.{in-Some-get_mut, in_default-get_mut}

pub returns-in_default-clause-settles : goal.returns-in_default-clause-settles
returns-in_default-clause-settles c =
    let kept : Kept = c.args.self.now in
    let found = has_place kept.seats c.args.place c.requires in
    settled kept c.args.place found.0 found.1 c.in_default.ensures

pub returns-clause-settles : goal.returns-clause-settles
returns-clause-settles c =
    let h = c.self.inside in
    let kept : Kept = record { seats = h.seats.items; lanes = h.lanes.items; free = h.free.items; place = h.place } in
    let k : ℕ = c.args.place in
    let seat : Seat = c.index_mut-seat.result.now in
    let lane : ℕ = c.in-Some.lane in
    let new : Seat = record seat { route = Some (record { lane = lane; queued = true }) } in
    let within = subst (λ (v : Kept). k < length v.seats) (sym c.self.view_is) c.requires in
    let at = read_at h.seats.items k seat within c.index_mut-seat.ensures.value in
    let wants = subst (λ (v : Kept). WantsTurn k lane v) (sym c.self.view_is) c.in-Some.ensures in
    elim c.match-get_mut.branch [
      | in-Some-get_mut w ↦
          let l : Queues = w.in-Some-get_mut.queues.now in
          let lane_at = read_at h.lanes.items lane l w.in-Some-get_mut.ensures.item.3.0 w.in-Some-get_mut.ensures.value in
          subst (λ (i : Inside). Settles k c.args.self.now (the_view i)) (sym w.self-inside-is)
          (subst (λ (v : Kept). Settles k v (with_both kept k new lane w.line_up.new.self)) c.self.view_is
          (subst (λ (q : Queues). Settles k kept (with_both kept k new lane q)) (sym w.line_up.ensures)
          (joined_settles kept k lane seat l c.self.invariant.0 at lane_at wants)))
      | in_default-get_mut w ↦
          subst (λ (i : Inside). Settles k c.args.self.now (the_view i)) (sym w.self-inside-is)
          (subst (λ (v : Kept). Settles k v (with_seat kept k new)) c.self.view_is
          (stray_settles kept (with_seat kept k new) k lane seat c.self.invariant.1 at w.in_default-get_mut.ensures.item.3 wants (same_size kept k new)))
    ]
