-- The seat is another client's now, or nobody's.
use Rattle.std.proofs.Common.{◌≡◌, ℕ, ◌+◌, ◌<◌, ◌≤◌, ◌++◌, ◌⊎◌, List, [], ◌∷◌, length, set, sym, ap, subst, inl, inr, ◌∙◌, arith, vec_capacity, vec_len}
use Rattle.system_hub.specs.Events.{Closed}
use Rattle.system_hub.specs.Kept.{Kept}
use Rattle.system_hub.specs.Calls.{Follows, IsForgotten}
use Rattle.system_hub.specs.declared.machine.seat.Seat.{Seat}
use Rattle.system_hub.specs.declared.machine.seat.Standing.TheVariants.{Free, Spent}
use Rattle.system_hub.proofs.Waiting.{has_place}
use Rattle.system_hub.proofs.Leaving.{closed_follows, spent_follows, forgotten, pushed}
use Rattle.system_hub.specs.Seating.{IsAbout, HasLeft}
use Rattle.system_hub.proofs.Seating.{closed_about, closed_left}
use Rattle.system_hub.proofs.machine.hub.Hub.close.Goals as goal

pub returns-in_default-clause-closed : goal.returns-in_default-clause-closed
returns-in_default-clause-closed c =
    let kept : Kept = c.args.self.now in
    let mid : Kept = c.leave_turns.new.self in
    let client : ℕ = c.args.client in
    let k : ℕ = c.place_of-place.result in
    let place = c.place_of-place.ensures.place in
    let within = c.place_of-place.ensures.within in
    let left = c.leave_turns.ensures in
    let found = has_place kept.seats k within in
    subst (λ (v : Kept). Follows kept (record v { seats = set v.seats k c.new.result }) (Closed client ∷ [])) (sym c.self.view_is)
    (subst (λ (s : Seat). Follows kept (record mid { seats = set mid.seats k s }) (Closed client ∷ [])) (sym c.new.ensures)
    (spent_follows kept mid client k found.0 place found.1 c.requires left))

pub returns-in_default-clause-forgotten : goal.returns-in_default-clause-forgotten
returns-in_default-clause-forgotten c =
    let kept : Kept = c.args.self.now in
    let mid : Kept = c.leave_turns.new.self in
    let client : ℕ = c.args.client in
    let k : ℕ = c.place_of-place.result in
    let place = c.place_of-place.ensures.place in
    let within = c.place_of-place.ensures.within in
    let left = c.leave_turns.ensures in
    let found = has_place kept.seats k within in
    subst (λ (v : Kept). IsForgotten (record v { seats = set v.seats k c.new.result }) client) (sym c.self.view_is)
    (subst (λ (s : Seat). IsForgotten (record mid { seats = set mid.seats k s }) client) (sym c.new.ensures)
    (forgotten kept mid client k client Spent mid.free place left within))

pub returns-clause-closed : goal.returns-clause-closed
returns-clause-closed c =
    let kept : Kept = c.args.self.now in
    let mid : Kept = c.leave_turns.new.self in
    let client : ℕ = c.args.client in
    let k : ℕ = c.place_of-place.result in
    let place = c.place_of-place.ensures.place in
    let within = c.place_of-place.ensures.within in
    let left = c.leave_turns.ensures in
    let found = has_place kept.seats k within in
    let next : ℕ = c.in-Some.next in
    let free : List ℕ = c.push.new.self.items in
    let h = c.self.inside in
    let seats : length h.seats.items ≡ length kept.seats = ap (λ (v : Kept). length v.seats) c.self.view_is ∙ ap (λ (l : List Seat). length l) left.seats in
    let frees : h.free.items ≡ kept.free = ap (λ (v : Kept). v.free) c.self.view_is ∙ left.free in
    let some : 0 < length kept.seats = omega (arith, within) in
    let later : next ≡ client + length kept.seats = omega (arith, c.in-Some.ensures, c.len.ensures, h.seats.ok.0, seats) in
    let freed : (free ≡ kept.free ++ k ∷ []) ⊎ ((free ≡ kept.free) × (length kept.seats ≤ length kept.free)) =
    elim (pushed c.push.result h.free.items free k (vec_capacity h.free ≤ vec_len h.free) c.push.ensures.items c.push.ensures.full) [
      | inl more ↦ inl (more ∙ ap (λ (l : List ℕ). l ++ k ∷ []) frees)
      | inr full ↦ inr (full.0 ∙ frees, omega (arith, full.1, c.self.invariant.5, h.free.ok.0, seats, ap (λ (l : List ℕ). length l) frees))
    ] in
    subst (λ (v : Kept). Follows kept (record v { seats = set v.seats k c.new-2.result; free = free }) (Closed client ∷ [])) (sym c.self.view_is)
    (subst (λ (s : Seat). Follows kept (record mid { seats = set mid.seats k s; free = free }) (Closed client ∷ [])) (sym c.new-2.ensures)
    (closed_follows kept mid client k next found.0 free place found.1 c.requires left some later freed))

pub returns-clause-forgotten : goal.returns-clause-forgotten
returns-clause-forgotten c =
    let kept : Kept = c.args.self.now in
    let mid : Kept = c.leave_turns.new.self in
    let client : ℕ = c.args.client in
    let k : ℕ = c.place_of-place.result in
    let place = c.place_of-place.ensures.place in
    let within = c.place_of-place.ensures.within in
    let left = c.leave_turns.ensures in
    let found = has_place kept.seats k within in
    let next : ℕ = c.in-Some.next in
    let free : List ℕ = c.push.new.self.items in
    subst (λ (v : Kept). IsForgotten (record v { seats = set v.seats k c.new-2.result; free = free }) client) (sym c.self.view_is)
    (subst (λ (s : Seat). IsForgotten (record mid { seats = set mid.seats k s; free = free }) client) (sym c.new-2.ensures)
    (forgotten kept mid client k next Free free place left within))

pub returns-in_default-clause-about : goal.returns-in_default-clause-about
returns-in_default-clause-about c =
    let kept : Kept = c.args.self.now in
    let mid : Kept = c.leave_turns.new.self in
    let client : ℕ = c.args.client in
    let k : ℕ = c.place_of-place.result in
    let place = c.place_of-place.ensures.place in
    let within = c.place_of-place.ensures.within in
    let left = c.leave_turns.ensures in
    let found = has_place kept.seats k within in
    subst (λ (v : Kept). IsAbout client kept (record v { seats = set v.seats k c.new.result })) (sym c.self.view_is)
    (subst (λ (s : Seat). IsAbout client kept (record mid { seats = set mid.seats k s })) (sym c.new.ensures)
    (closed_about kept mid client k client Spent found.0 mid.free place found.1 c.requires left (λ taken. taken)))

pub returns-in_default-clause-left : goal.returns-in_default-clause-left
returns-in_default-clause-left c =
    let kept : Kept = c.args.self.now in
    let mid : Kept = c.leave_turns.new.self in
    let client : ℕ = c.args.client in
    let k : ℕ = c.place_of-place.result in
    let place = c.place_of-place.ensures.place in
    let within = c.place_of-place.ensures.within in
    let left = c.leave_turns.ensures in
    let found = has_place kept.seats k within in
    subst (λ (v : Kept). HasLeft client (record v { seats = set v.seats k c.new.result })) (sym c.self.view_is)
    (subst (λ (s : Seat). HasLeft client (record mid { seats = set mid.seats k s })) (sym c.new.ensures)
    (closed_left kept mid client k client Spent found.0 mid.free place found.1 left (λ taken. taken)))

pub returns-clause-about : goal.returns-clause-about
returns-clause-about c =
    let kept : Kept = c.args.self.now in
    let mid : Kept = c.leave_turns.new.self in
    let client : ℕ = c.args.client in
    let k : ℕ = c.place_of-place.result in
    let place = c.place_of-place.ensures.place in
    let within = c.place_of-place.ensures.within in
    let left = c.leave_turns.ensures in
    let found = has_place kept.seats k within in
    let next : ℕ = c.in-Some.next in
    let free : List ℕ = c.push.new.self.items in
    subst (λ (v : Kept). IsAbout client kept (record v { seats = set v.seats k c.new-2.result; free = free })) (sym c.self.view_is)
    (subst (λ (s : Seat). IsAbout client kept (record mid { seats = set mid.seats k s; free = free })) (sym c.new-2.ensures)
    (closed_about kept mid client k next Free found.0 free place found.1 c.requires left (λ taken. taken)))

pub returns-clause-left : goal.returns-clause-left
returns-clause-left c =
    let kept : Kept = c.args.self.now in
    let mid : Kept = c.leave_turns.new.self in
    let client : ℕ = c.args.client in
    let k : ℕ = c.place_of-place.result in
    let place = c.place_of-place.ensures.place in
    let within = c.place_of-place.ensures.within in
    let left = c.leave_turns.ensures in
    let found = has_place kept.seats k within in
    let next : ℕ = c.in-Some.next in
    let free : List ℕ = c.push.new.self.items in
    subst (λ (v : Kept). HasLeft client (record v { seats = set v.seats k c.new-2.result; free = free })) (sym c.self.view_is)
    (subst (λ (s : Seat). HasLeft client (record mid { seats = set mid.seats k s; free = free })) (sym c.new-2.ensures)
    (closed_left kept mid client k next Free found.0 free place found.1 left (λ taken. taken)))
