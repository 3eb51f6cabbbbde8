-- The seat is the client's, and it failed.
use Rattle.std.proofs.Common.{◌≡◌, ℕ, ◌%◌, ◌<◌, [], ◌∷◌, length, sym, refl, subst}
use Rattle.system_hub.specs.Events.{Failed}
use Rattle.system_hub.specs.Kept.{Kept, IsHere}
use Rattle.system_hub.specs.Calls.{Follows}
use Rattle.system_hub.specs.declared.machine.seat.Seat.{Seat}
use Rattle.system_hub.specs.declared.machine.seat.Standing.TheVariants.{Lost}
use Rattle.system_hub.proofs.Filing.{with_seat}
use Rattle.system_hub.proofs.Calling.{read_at, failed_follows}
use Rattle.system_hub.specs.Calls.{MayLeave}
use Rattle.system_hub.specs.Seating.{IsAbout}
use Rattle.system_hub.proofs.Seating.{set_about, set_may}
use Rattle.system_hub.proofs.machine.hub.Hub.lose.Goals as goal

pub returns-clause-failed : goal.returns-clause-failed
returns-clause-failed c =
    let h = c.self.inside in
    let kept : Kept = record { seats = h.seats.items; lanes = h.lanes.items; free = h.free.items; place = h.place } in
    let seat : Seat = c.index_mut.result.now in
    let k : ℕ = c.place_of-place.result in
    let client : ℕ = c.args.client in
    let place = subst (λ (v : Kept). k ≡ client % length v.seats) (sym c.self.view_is) c.place_of-place.ensures.place in
    let within = subst (λ (v : Kept). k < length v.seats) (sym c.self.view_is) c.place_of-place.ensures.within in
    let here = subst (λ (v : Kept). IsHere v client) (sym c.self.view_is) c.requires in
    subst (λ (v : Kept). Follows v (with_seat kept k (record seat { standing = Lost })) (Failed client ∷ [])) c.self.view_is
    (failed_follows kept client k seat place (read_at h.seats.items k seat within c.index_mut.ensures.value) here)

pub returns-clause-about : goal.returns-clause-about
returns-clause-about c =
    let h = c.self.inside in
    let kept : Kept = record { seats = h.seats.items; lanes = h.lanes.items; free = h.free.items; place = h.place } in
    let seat : Seat = c.index_mut.result.now in
    let k : ℕ = c.place_of-place.result in
    let client : ℕ = c.args.client in
    let place = subst (λ (v : Kept). k ≡ client % length v.seats) (sym c.self.view_is) c.place_of-place.ensures.place in
    let within = subst (λ (v : Kept). k < length v.seats) (sym c.self.view_is) c.place_of-place.ensures.within in
    let at = read_at h.seats.items k seat within c.index_mut.ensures.value in
    let here = subst (λ (v : Kept). IsHere v client) (sym c.self.view_is) c.requires in
    let mid : Seat = record seat { standing = Lost } in
    subst (λ (v : Kept). IsAbout client v (with_seat kept k mid)) c.self.view_is
    (set_about kept (with_seat kept k mid) client k seat mid place at here refl refl (λ j. refl))

pub returns-clause-lost : goal.returns-clause-lost
returns-clause-lost c =
    let h = c.self.inside in
    let kept : Kept = record { seats = h.seats.items; lanes = h.lanes.items; free = h.free.items; place = h.place } in
    let seat : Seat = c.index_mut.result.now in
    let k : ℕ = c.place_of-place.result in
    let client : ℕ = c.args.client in
    let place = subst (λ (v : Kept). k ≡ client % length v.seats) (sym c.self.view_is) c.place_of-place.ensures.place in
    let within = subst (λ (v : Kept). k < length v.seats) (sym c.self.view_is) c.place_of-place.ensures.within in
    let at = read_at h.seats.items k seat within c.index_mut.ensures.value in
    let here = subst (λ (v : Kept). IsHere v client) (sym c.self.view_is) c.requires in
    let mid : Seat = record seat { standing = Lost } in
    set_may kept (with_seat kept k mid) client k seat mid place at here refl refl (λ j. refl) tt
