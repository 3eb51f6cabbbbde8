-- The seat is the client's, and it said its last.
use Rattle.std.proofs.Common.{◌≡◌, ℕ, ◌%◌, ◌<◌, [], ◌∷◌, length, sym, subst}
use Rattle.system_hub.specs.Events.{Ended}
use Rattle.system_hub.specs.Kept.{Kept}
use Rattle.system_hub.specs.Calls.{Follows, IsHeard}
use Rattle.system_hub.specs.declared.machine.seat.Seat.{Seat}
use Rattle.system_hub.specs.declared.machine.seat.Standing.TheVariants.{Ended as EndedStanding}
use Rattle.system_hub.proofs.Filing.{with_seat}
use Rattle.system_hub.proofs.Calling.{read_at, ended_follows}
use Rattle.system_hub.proofs.machine.hub.Hub.hear_last.Goals as goal

pub returns-clause-last : goal.returns-clause-last
returns-clause-last c =
    let h = c.self.inside in
    let kept : Kept = record { seats = h.seats.items; lanes = h.lanes.items; free = h.free.items; place = h.place } in
    let seat : Seat = c.index_mut.result.now in
    let k : ℕ = c.place_of-place.result in
    let client : ℕ = c.args.client in
    let place = subst (λ (v : Kept). k ≡ client % length v.seats) (sym c.self.view_is) c.place_of-place.ensures.place in
    let within = subst (λ (v : Kept). k < length v.seats) (sym c.self.view_is) c.place_of-place.ensures.within in
    let here = subst (λ (v : Kept). IsHeard v client) (sym c.self.view_is) c.requires in
    subst (λ (v : Kept). Follows v (with_seat kept k (record seat { standing = EndedStanding })) (Ended client ∷ [])) c.self.view_is
    (ended_follows kept client k seat place (read_at h.seats.items k seat within c.index_mut.ensures.value) here)
