-- So many bytes less are left.
use Rattle.std.proofs.Common.{◌≡◌, ℕ, ◌%◌, ◌<◌, [], ◌∷◌, length, take, sym, refl, subst}
use Rattle.system_hub.specs.Events.{Wrote}
use Rattle.system_hub.specs.Kept.{Kept}
use Rattle.system_hub.specs.Calls.{Follows, IsWell, left_of}
use Rattle.system_hub.specs.declared.machine.seat.Seat.{Seat}
use Rattle.system_hub.proofs.Calling.{read_at, wrote_follows}
use Rattle.system_hub.specs.Kept.{IsHere}
use Rattle.system_hub.specs.Seating.{IsAbout}
use Rattle.system_hub.proofs.Seats.{well_taken}
use Rattle.system_hub.proofs.Outcomes.{well_here, well_at}
use Rattle.system_hub.proofs.Calling.{at_place}
use Rattle.system_hub.proofs.Seating.{set_about, set_here}
use Rattle.system_hub.proofs.machine.hub.Hub.cut_left.Goals as goal

pub returns-clause-wrote : goal.returns-clause-wrote
returns-clause-wrote c =
    let h = c.self.inside in
    let kept : Kept = record { seats = h.seats.items; lanes = h.lanes.items; free = h.free.items; place = h.place } in
    let seat : Seat = c.index_mut.result.now in
    let k : ℕ = c.place_of-place.result in
    let client : ℕ = c.args.client in
    let place = subst (λ (v : Kept). k ≡ client % length v.seats) (sym c.self.view_is) c.place_of-place.ensures.place in
    let within = subst (λ (v : Kept). k < length v.seats) (sym c.self.view_is) c.place_of-place.ensures.within in
    let at = read_at h.seats.items k seat within c.index_mut.ensures.value in
    let well = subst (λ (v : Kept). IsWell v client) (sym c.self.view_is) c.requires.well in
    subst (λ (v : Kept). Follows v c.queue.new.self (Wrote client (take c.args.count (left_of v client)) ∷ [])) c.self.view_is
    (wrote_follows kept c.queue.new.self client k c.args.count seat c.wrote.new.self place at well c.wrote.ensures c.queue.ensures.settles)

pub returns-clause-about : goal.returns-clause-about
returns-clause-about c =
    let h = c.self.inside in
    let kept : Kept = record { seats = h.seats.items; lanes = h.lanes.items; free = h.free.items; place = h.place } in
    let seat : Seat = c.index_mut.result.now in
    let k : ℕ = c.place_of-place.result in
    let client : ℕ = c.args.client in
    let place = subst (λ (v : Kept). k ≡ client % length v.seats) (sym c.self.view_is) c.place_of-place.ensures.place in
    let within = subst (λ (v : Kept). k < length v.seats) (sym c.self.view_is) c.place_of-place.ensures.within in
    let at = read_at h.seats.items k seat within c.index_mut.ensures.value in
    let well = subst (λ (v : Kept). IsWell v client) (sym c.self.view_is) c.requires.well in
    let here = well_here kept client seat (at_place kept client k seat place at) well in
    let mid : Seat = record seat { outbox = c.wrote.new.self } in
    subst (λ (v : Kept). IsAbout client v c.queue.new.self) c.self.view_is
    (set_about kept c.queue.new.self client k seat mid place at here refl c.queue.ensures.settles.size.seats c.queue.ensures.seats)

pub returns-clause-here : goal.returns-clause-here
returns-clause-here c =
    let h = c.self.inside in
    let kept : Kept = record { seats = h.seats.items; lanes = h.lanes.items; free = h.free.items; place = h.place } in
    let seat : Seat = c.index_mut.result.now in
    let k : ℕ = c.place_of-place.result in
    let client : ℕ = c.args.client in
    let place = subst (λ (v : Kept). k ≡ client % length v.seats) (sym c.self.view_is) c.place_of-place.ensures.place in
    let within = subst (λ (v : Kept). k < length v.seats) (sym c.self.view_is) c.place_of-place.ensures.within in
    let at = read_at h.seats.items k seat within c.index_mut.ensures.value in
    let well = subst (λ (v : Kept). IsWell v client) (sym c.self.view_is) c.requires.well in
    let there = at_place kept client k seat place at in
    let here = well_here kept client seat there well in
    let mid : Seat = record seat { outbox = c.wrote.new.self } in
    set_here kept c.queue.new.self client k seat mid place at here refl c.queue.ensures.settles.size.seats c.queue.ensures.seats
    (well_taken seat.standing (well_at kept client seat there well))
