-- The first that is ready gives its frame.
use Rattle.std.proofs.Common.{ℕ, ◌+◌, ◌<◌, List, [], ◌∷◌, sym, subst, refl, arith, Some, false}
use Rattle.system_hub.specs.Events.{Took}
use Rattle.system_hub.specs.Kept.{Kept}
use Rattle.system_hub.specs.Calls.{Follows, Settles, HasRoom, HasFirstTurn}
use Rattle.system_hub.specs.Queues.{Queues}
use Rattle.system_hub.specs.declared.machine.seat.Seat.{Seat}
use Rattle.system_hub.proofs.Turning.{with_both}
use Rattle.system_hub.proofs.Calling.{read_at}
use Rattle.system_hub.proofs.Passing.{follows_then, took_follows, ready_seat, ready_place, ready_room}
use Rattle.system_hub.specs.Seating.{IsAboutNobody}
use Rattle.system_hub.proofs.Seating.{all_here, busy_stays, leaves_all, nobody_moves, nobody_then}
use Rattle.system_hub.proofs.machine.hub.Hub.next.Goals as goal

pub take-requires-clause-whole : goal.take-requires-clause-whole
take-requires-clause-whole c =
    let h = c.self.inside in
    let kept : Kept = record { seats = h.seats.items; lanes = h.lanes.items; free = h.free.items; place = h.place } in
    let lane : ℕ = c.args.lane in
    let k : ℕ = c.in-Some.place in
    let size : ℕ = c.in-Some.size in
    let seat : Seat = c.index_mut-seat.result.now in
    let ready = subst (λ (v : Kept). HasFirstTurn lane v k size) (sym c.self.view_is) c.in-Some.ensures.first in
    let places = ready_place kept lane k size ready in
    let at = read_at h.seats.items k seat places.0 c.index_mut-seat.ensures.value in
    (ready_seat kept lane k size seat at ready).whole

pub overflow_add-seat : goal.overflow_add-seat
overflow_add-seat c =
    let h = c.self.inside in
    let kept : Kept = record { seats = h.seats.items; lanes = h.lanes.items; free = h.free.items; place = h.place } in
    let lane : ℕ = c.args.lane in
    let k : ℕ = c.in-Some.place in
    let size : ℕ = c.in-Some.size in
    let seat : Seat = c.index_mut-seat.result.now in
    let ready = subst (λ (v : Kept). HasFirstTurn lane v k size) (sym c.self.view_is) c.in-Some.ensures.first in
    let places = ready_place kept lane k size ready in
    let at = read_at h.seats.items k seat places.0 c.index_mut-seat.ensures.value in
    let few = (ready_seat kept lane k size seat at ready).few in
    omega (arith, few)

pub index_mut-requires : goal.index_mut-requires
index_mut-requires c =
    let h = c.self.inside in
    let kept : Kept = record { seats = h.seats.items; lanes = h.lanes.items; free = h.free.items; place = h.place } in
    let lane : ℕ = c.args.lane in
    let k : ℕ = c.in-Some.place in
    let size : ℕ = c.in-Some.size in
    let seat : Seat = c.index_mut-seat.result.now in
    let ready = subst (λ (v : Kept). HasFirstTurn lane v k size) (sym c.self.view_is) c.in-Some.ensures.first in
    let places = ready_place kept lane k size ready in
    let at = read_at h.seats.items k seat places.0 c.index_mut-seat.ensures.value in
    subst (λ (n : ℕ). lane < n) (sym h.lanes.ok.0) places.1

pub take-requires-2 : goal.take-requires-2
take-requires-2 c =
    let h = c.self.inside in
    let kept : Kept = record { seats = h.seats.items; lanes = h.lanes.items; free = h.free.items; place = h.place } in
    let lane : ℕ = c.args.lane in
    let k : ℕ = c.in-Some.place in
    let size : ℕ = c.in-Some.size in
    let seat : Seat = c.index_mut-seat.result.now in
    let ready = subst (λ (v : Kept). HasFirstTurn lane v k size) (sym c.self.view_is) c.in-Some.ensures.first in
    let places = ready_place kept lane k size ready in
    let at = read_at h.seats.items k seat places.0 c.index_mut-seat.ensures.value in
    let l : Queues = c.index_mut.result.now in
    let lane_at = read_at h.lanes.items lane l places.1 c.index_mut.ensures.value in
    ready_room kept lane l lane_at (subst (λ (v : Kept). HasRoom lane v) (sym c.self.view_is) (c.first_ready.ensures.room c.requires.room))

pub returns-clause-taken : goal.returns-clause-taken
returns-clause-taken c =
    let h = c.self.inside in
    let kept : Kept = record { seats = h.seats.items; lanes = h.lanes.items; free = h.free.items; place = h.place } in
    let lane : ℕ = c.args.lane in
    let k : ℕ = c.in-Some.place in
    let size : ℕ = c.in-Some.size in
    let seat : Seat = c.index_mut-seat.result.now in
    let ready = subst (λ (v : Kept). HasFirstTurn lane v k size) (sym c.self.view_is) c.in-Some.ensures.first in
    let places = ready_place kept lane k size ready in
    let at = read_at h.seats.items k seat places.0 c.index_mut-seat.ensures.value in
    let l : Queues = c.index_mut.result.now in
    let lane_at = read_at h.lanes.items lane l places.1 c.index_mut.ensures.value in
    let payload : List ℕ = c.take.new.out.items in
    let inbox : List ℕ = c.take.new.self in
    let mid : Seat = record seat { inbox = inbox; under_way = seat.under_way + 1; route = Some (record { lane = lane; queued = false }) } in
    let settles = subst (λ (q : Queues). Settles k (with_both kept k mid lane q) c.queue.new.self) c.take-2.ensures c.queue.ensures.settles in
    follows_then c.args.self.now c.first_ready.new.self c.queue.new.self (Took lane seat.client payload ∷ []) c.first_ready.ensures.passed
    (subst (λ (v : Kept). Follows v c.queue.new.self (Took lane seat.client payload ∷ [])) c.self.view_is
    (took_follows kept c.queue.new.self lane k size seat l payload inbox c.self.invariant.0 at lane_at ready c.take.ensures.frame c.take.ensures.size settles))

pub returns-in_default-clause-seats : goal.returns-in_default-clause-seats
returns-in_default-clause-seats c =
    leaves_all c.args.self.now c.first_ready.new.self
    (all_here c.args.self.now c.first_ready.new.self c.first_ready.ensures.passed.size.seats c.first_ready.ensures.seats)

pub returns-clause-seats : goal.returns-clause-seats
returns-clause-seats c =
    let h = c.self.inside in
    let kept : Kept = record { seats = h.seats.items; lanes = h.lanes.items; free = h.free.items; place = h.place } in
    let lane : ℕ = c.args.lane in
    let k : ℕ = c.in-Some.place in
    let size : ℕ = c.in-Some.size in
    let seat : Seat = c.index_mut-seat.result.now in
    let ready = subst (λ (v : Kept). HasFirstTurn lane v k size) (sym c.self.view_is) c.in-Some.ensures.first in
    let places = ready_place kept lane k size ready in
    let at = read_at h.seats.items k seat places.0 c.index_mut-seat.ensures.value in
    let mid : Seat = record seat { inbox = c.take.new.self; under_way = seat.under_way + 1; route = Some (record { lane = lane; queued = false }) } in
    let well = (ready_seat kept lane k size seat at ready).well in
    let passed = all_here c.args.self.now c.first_ready.new.self c.first_ready.ensures.passed.size.seats c.first_ready.ensures.seats in
    let moved = nobody_moves kept c.queue.new.self k seat mid at refl refl
    (λ leaves. absurd (busy_stays mid well (λ idle. omega (arith, idle.answered)) leaves)) c.queue.ensures.settles.size.seats c.queue.ensures.seats in
    leaves_all c.args.self.now c.queue.new.self
    (nobody_then c.args.self.now c.first_ready.new.self c.queue.new.self passed
    (subst (λ (v : Kept). IsAboutNobody v c.queue.new.self) c.self.view_is moved))
