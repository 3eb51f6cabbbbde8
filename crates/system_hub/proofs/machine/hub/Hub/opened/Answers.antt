-- The last free place gives its seat.
use Rattle.std.proofs.Common.{ℕ, ◌<◌, List, length, set, subst, Some}
use Rattle.std.proofs.lemmas.List.Elements.{All-pop}
use Rattle.system_hub.specs.Kept.{Kept}
use Rattle.system_hub.specs.Calls.{Opens}
use Rattle.system_hub.specs.declared.machine.seat.Seat.{Seat}
use Rattle.system_hub.specs.declared.machine.seat.Standing.TheVariants.{Open}
use Rattle.system_hub.proofs.Calling.{read_at}
use Rattle.system_hub.proofs.Leaving.{opened_follows}
use Rattle.system_hub.specs.Seating.{Seats}
use Rattle.system_hub.proofs.Seating.{opened_seats}
use Rattle.system_hub.proofs.machine.hub.Hub.opened.Goals as goal

pub returns-clause-came : goal.returns-clause-came
returns-clause-came c =
    let h = c.self.inside in
    let kept : Kept = record { seats = h.seats.items; lanes = h.lanes.items; free = h.free.items; place = h.place } in
    let k : ℕ = c.in-Some.place in
    let seat : Seat = c.index_mut-seat.result.now in
    let free : List ℕ = c.pop.new.self.items in
    let within = (All-pop (λ (p : ℕ). p < length h.seats.items) h.free.items free (Some k) c.in-Some.ensures.items c.self.invariant.4).1 in
    subst (λ (v : Kept). Opens v (record kept { seats = set kept.seats k (record seat { standing = Open }); free = free }) seat.client) c.self.view_is
    (opened_follows kept free k seat c.in-Some.ensures.items (read_at h.seats.items k seat within c.index_mut-seat.ensures.value))

pub returns-clause-seats : goal.returns-clause-seats
returns-clause-seats c =
    let h = c.self.inside in
    let kept : Kept = record { seats = h.seats.items; lanes = h.lanes.items; free = h.free.items; place = h.place } in
    let k : ℕ = c.in-Some.place in
    let seat : Seat = c.index_mut-seat.result.now in
    let free : List ℕ = c.pop.new.self.items in
    let within = (All-pop (λ (p : ℕ). p < length h.seats.items) h.free.items free (Some k) c.in-Some.ensures.items c.self.invariant.4).1 in
    subst (λ (v : Kept). Seats v (record kept { seats = set kept.seats k (record seat { standing = Open }); free = free }) seat.client) c.self.view_is
    (opened_seats kept free k seat c.in-Some.ensures.items (read_at h.seats.items k seat within c.index_mut-seat.ensures.value))
