-- The bytes are in the inbox, or the client has failed.
use Rattle.std.proofs.Common.{◌≡◌, ℕ, ◌%◌, ◌<◌, ◌++◌, List, [], ◌∷◌, length, sym, refl, subst, rules}
use Rattle.system_hub.specs.Events.{Received, Failed}
use Rattle.system_hub.specs.Kept.{Kept}
use Rattle.system_hub.specs.Calls.{Follows, IsHeard}
use Rattle.system_hub.specs.declared.machine.seat.Seat.{Seat}
use Rattle.system_hub.specs.declared.machine.seat.Standing.TheVariants.{Lost}
use Rattle.system_hub.proofs.Filing.{with_seat}
use Rattle.system_hub.proofs.Calling.{read_at, heard_here, failed_follows, received_follows}
use Rattle.system_hub.specs.Kept.{IsHere}
use Rattle.system_hub.specs.Seating.{IsAbout}
use Rattle.system_hub.proofs.Outcomes.{heard_taken}
use Rattle.system_hub.proofs.Calling.{at_place}
use Rattle.system_hub.proofs.Seating.{set_about, set_here}
use Rattle.system_hub.proofs.machine.hub.Hub.hear_bytes.Goals as goal

pub returns-then-is_err-clause-no_memory : goal.returns-then-is_err-clause-no_memory
returns-then-is_err-clause-no_memory c =
    let h = c.self.inside in
    let kept : Kept = record { seats = h.seats.items; lanes = h.lanes.items; free = h.free.items; place = h.place } in
    let seat : Seat = c.index_mut-seat.result.now in
    let k : ℕ = c.place_of-place.result in
    let client : ℕ = c.args.client in
    let place = subst (λ (v : Kept). k ≡ client % length v.seats) (sym c.self.view_is) c.place_of-place.ensures.place in
    let within = subst (λ (v : Kept). k < length v.seats) (sym c.self.view_is) c.place_of-place.ensures.within in
    let at = read_at h.seats.items k seat within c.index_mut-seat.ensures.value in
    let heard = subst (λ (v : Kept). IsHeard v client) (sym c.self.view_is) c.requires.heard in
    let same : c.push.new.self ≡ seat.inbox = search rules in
    subst (λ (v : Kept). Follows v (with_seat kept k (record seat { standing = Lost; inbox = c.push.new.self })) (Failed client ∷ [])) c.self.view_is
    (subst (λ (i : List ℕ). Follows kept (with_seat kept k (record seat { standing = Lost; inbox = i })) (Failed client ∷ [])) (sym same)
    (failed_follows kept client k seat place at (heard_here kept client k seat place at heard)))

pub returns-clause-came : goal.returns-clause-came
returns-clause-came c =
    let h = c.self.inside in
    let kept : Kept = record { seats = h.seats.items; lanes = h.lanes.items; free = h.free.items; place = h.place } in
    let seat : Seat = c.index_mut-seat.result.now in
    let k : ℕ = c.place_of-place.result in
    let client : ℕ = c.args.client in
    let place = subst (λ (v : Kept). k ≡ client % length v.seats) (sym c.self.view_is) c.place_of-place.ensures.place in
    let within = subst (λ (v : Kept). k < length v.seats) (sym c.self.view_is) c.place_of-place.ensures.within in
    let at = read_at h.seats.items k seat within c.index_mut-seat.ensures.value in
    let heard = subst (λ (v : Kept). IsHeard v client) (sym c.self.view_is) c.requires.heard in
    let more : c.push.new.self ≡ seat.inbox ++ c.args.bytes.now = search rules in
    subst (λ (v : Kept). Follows v c.queue.new.self (Received client c.args.bytes.now ∷ [])) c.self.view_is
    (received_follows kept c.queue.new.self client k seat c.args.bytes.now c.push.new.self place at heard more c.queue.ensures.settles)

pub returns-clause-about : goal.returns-clause-about
returns-clause-about c =
    let h = c.self.inside in
    let kept : Kept = record { seats = h.seats.items; lanes = h.lanes.items; free = h.free.items; place = h.place } in
    let seat : Seat = c.index_mut-seat.result.now in
    let k : ℕ = c.place_of-place.result in
    let client : ℕ = c.args.client in
    let place = subst (λ (v : Kept). k ≡ client % length v.seats) (sym c.self.view_is) c.place_of-place.ensures.place in
    let within = subst (λ (v : Kept). k < length v.seats) (sym c.self.view_is) c.place_of-place.ensures.within in
    let at = read_at h.seats.items k seat within c.index_mut-seat.ensures.value in
    let heard = subst (λ (v : Kept). IsHeard v client) (sym c.self.view_is) c.requires.heard in
    let here = heard_here kept client k seat place at heard in
    let mid : Seat = record seat { inbox = c.push.new.self } in
    subst (λ (v : Kept). IsAbout client v c.queue.new.self) c.self.view_is
    (set_about kept c.queue.new.self client k seat mid place at here refl c.queue.ensures.settles.size.seats c.queue.ensures.seats)

pub returns-clause-here : goal.returns-clause-here
returns-clause-here c =
    let h = c.self.inside in
    let kept : Kept = record { seats = h.seats.items; lanes = h.lanes.items; free = h.free.items; place = h.place } in
    let seat : Seat = c.index_mut-seat.result.now in
    let k : ℕ = c.place_of-place.result in
    let client : ℕ = c.args.client in
    let place = subst (λ (v : Kept). k ≡ client % length v.seats) (sym c.self.view_is) c.place_of-place.ensures.place in
    let within = subst (λ (v : Kept). k < length v.seats) (sym c.self.view_is) c.place_of-place.ensures.within in
    let at = read_at h.seats.items k seat within c.index_mut-seat.ensures.value in
    let heard = subst (λ (v : Kept). IsHeard v client) (sym c.self.view_is) c.requires.heard in
    let here = heard_here kept client k seat place at heard in
    let mid : Seat = record seat { inbox = c.push.new.self } in
    set_here kept c.queue.new.self client k seat mid place at here refl c.queue.ensures.settles.size.seats c.queue.ensures.seats
    (heard_taken kept client seat (at_place kept client k seat place at) heard)
