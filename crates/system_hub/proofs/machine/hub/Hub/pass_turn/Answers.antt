-- Who was first is not in the turns any more.
use Rattle.std.proofs.Common.{ℕ, ◌<◌, [], length, drop, sym, subst, Some, false}
use Rattle.std.proofs.lemmas.Option.{slice_get_within}
use Rattle.system_hub.specs.Kept.{Kept}
use Rattle.system_hub.specs.Calls.{Follows, HasRoom, IsFirstUnready, turns_at}
use Rattle.system_hub.specs.Queues.{Queues}
use Rattle.system_hub.specs.declared.machine.seat.Seat.{Seat}
use Rattle.system_hub.proofs.Turning.{with_both}
use Rattle.system_hub.proofs.Calling.{read_at}
use Rattle.system_hub.proofs.Passing.{passed_follows, fewer_turns, room_kept}
use Rattle.system_hub.proofs.machine.hub.Hub.pass_turn.Goals as goal

pub returns-clause-passed : goal.returns-clause-passed
returns-clause-passed c =
    let h = c.self.inside in
    let kept : Kept = record { seats = h.seats.items; lanes = h.lanes.items; free = h.free.items; place = h.place } in
    let k : ℕ = c.args.place in
    let lane : ℕ = c.args.lane in
    let ready = subst (λ (v : Kept). IsFirstUnready lane v k) (sym c.self.view_is) c.requires in
    let seat : Seat = c.index_mut.result.now in
    let l : Queues = c.index_mut-2.result.now in
    let at = read_at h.seats.items k seat (slice_get_within h.seats.items k ready.0.seat ready.0.seat_is) c.index_mut.ensures.value in
    let lane_at = read_at h.lanes.items lane l (slice_get_within h.lanes.items lane ready.0.l ready.0.lane_is) c.index_mut-2.ensures.value in
    let new : Seat = record seat { route = Some (record { lane = lane; queued = false }) } in
    subst (λ (v : Kept). Follows v (with_both kept k new lane c.pass.new.self) []) c.self.view_is
    (subst (λ (q : Queues). Follows kept (with_both kept k new lane q) []) (sym c.pass.ensures) (passed_follows kept lane k seat l at lane_at ready))

pub returns-clause-fewer : goal.returns-clause-fewer
returns-clause-fewer c =
    let h = c.self.inside in
    let kept : Kept = record { seats = h.seats.items; lanes = h.lanes.items; free = h.free.items; place = h.place } in
    let k : ℕ = c.args.place in
    let lane : ℕ = c.args.lane in
    let ready = subst (λ (v : Kept). IsFirstUnready lane v k) (sym c.self.view_is) c.requires in
    let seat : Seat = c.index_mut.result.now in
    let l : Queues = c.index_mut-2.result.now in
    let lane_at = read_at h.lanes.items lane l (slice_get_within h.lanes.items lane ready.0.l ready.0.lane_is) c.index_mut-2.ensures.value in
    let new : Seat = record seat { route = Some (record { lane = lane; queued = false }) } in
    subst (λ (v : Kept). length (turns_at lane (with_both kept k new lane c.pass.new.self)) < length (turns_at lane v)) c.self.view_is
    (subst (λ (q : Queues). length (turns_at lane (with_both kept k new lane q)) < length (turns_at lane kept)) (sym c.pass.ensures) (fewer_turns kept k lane new l lane_at ready))

pub returns-clause-room : goal.returns-clause-room
returns-clause-room c = λ room.
    let h = c.self.inside in
    let kept : Kept = record { seats = h.seats.items; lanes = h.lanes.items; free = h.free.items; place = h.place } in
    let k : ℕ = c.args.place in
    let lane : ℕ = c.args.lane in
    let ready = subst (λ (v : Kept). IsFirstUnready lane v k) (sym c.self.view_is) c.requires in
    let seat : Seat = c.index_mut.result.now in
    let l : Queues = c.index_mut-2.result.now in
    let lane_at = read_at h.lanes.items lane l (slice_get_within h.lanes.items lane ready.0.l ready.0.lane_is) c.index_mut-2.ensures.value in
    let new : Seat = record seat { route = Some (record { lane = lane; queued = false }) } in
    subst (λ (q : Queues). HasRoom lane (with_both kept k new lane q)) (sym c.pass.ensures)
    (room_kept kept k lane new l (drop 1 l.turns) lane_at (subst (λ (v : Kept). HasRoom lane v) (sym c.self.view_is) room))
