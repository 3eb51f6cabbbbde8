-- The client is in the turns of the lane that its seat has noted, and in no others.
use Rattle.std.proofs.Common.{◌≡◌, ℕ, ◌%◌, ◌<◌, Bool, length, set, sym, ap, subst, ◌∙◌, arith, rules, Some, true}
use Rattle.system_hub.specs.Kept.{Kept, HasTurn}
use Rattle.system_hub.specs.Calls.{MayLeave, HasLeftTurns}
use Rattle.system_hub.specs.Queues.{Queues}
use Rattle.system_hub.specs.declared.machine.seat.Route.{Route}
use Rattle.system_hub.specs.declared.machine.seat.Seat.{Seat}
use Rattle.system_hub.specs.contracts.machine.hub.Hub.{the_view}
use Rattle.system_hub.specs.declared.machine.hub.Hub.TheInside.{Inside}
use Rattle.system_hub.proofs.Calling.{read_at}
use Rattle.system_hub.proofs.Leaving.{left_none, left_past, left_turns, no_turn_there}
use Rattle.system_hub.proofs.machine.hub.Hub.leave_turns.Goals as goal
use Rattle.system_hub.proofs.machine.hub.Hub.leave_turns.Goals.{in-Some-get_mut, in_default-get_mut}

pub returns-in_default : goal.returns-in_default
returns-in_default c =
    let h = c.self.inside in
    let kept : Kept = record { seats = h.seats.items; lanes = h.lanes.items; free = h.free.items; place = h.place } in
    let k : ℕ = c.args.place in
    let client : ℕ = c.args.client in
    let seat : Seat = c.index.result.now in
    let place = subst (λ (v : Kept). k ≡ client % length v.seats) (sym c.self.view_is) c.requires.place in
    let may = subst (λ (v : Kept). MayLeave v client) (sym c.self.view_is) c.requires.leaves in
    let some : 0 < length h.seats.items = c.self.invariant.0 in
    let within : k < length h.seats.items = omega (arith, place, some) in
    let at = read_at h.seats.items k seat within c.index.ensures in
    subst (λ (v : Kept). HasLeftTurns client v v) c.self.view_is
    (left_none kept client k seat place at may (λ lane turn. absurd (cc (sym c.in_default.is ∙ turn))))

pub returns-then-not-route : goal.returns-then-not-route
returns-then-not-route c =
    let h = c.self.inside in
    let kept : Kept = record { seats = h.seats.items; lanes = h.lanes.items; free = h.free.items; place = h.place } in
    let k : ℕ = c.args.place in
    let client : ℕ = c.args.client in
    let seat : Seat = c.index.result.now in
    let place = subst (λ (v : Kept). k ≡ client % length v.seats) (sym c.self.view_is) c.requires.place in
    let may = subst (λ (v : Kept). MayLeave v client) (sym c.self.view_is) c.requires.leaves in
    let some : 0 < length h.seats.items = c.self.invariant.0 in
    let within : k < length h.seats.items = omega (arith, place, some) in
    let at = read_at h.seats.items k seat within c.index.ensures in
    subst (λ (v : Kept). HasLeftTurns client v v) c.self.view_is
    (left_none kept client k seat place at may (no_turn_there seat c.in-Some.route c.in-Some.is (search rules)))

pub returns : goal.returns
returns c =
    let h = c.self.inside in
    let kept : Kept = record { seats = h.seats.items; lanes = h.lanes.items; free = h.free.items; place = h.place } in
    let k : ℕ = c.args.place in
    let client : ℕ = c.args.client in
    let seat : Seat = c.index.result.now in
    let place = subst (λ (v : Kept). k ≡ client % length v.seats) (sym c.self.view_is) c.requires.place in
    let may = subst (λ (v : Kept). MayLeave v client) (sym c.self.view_is) c.requires.leaves in
    let some : 0 < length h.seats.items = c.self.invariant.0 in
    let within : k < length h.seats.items = omega (arith, place, some) in
    let at = read_at h.seats.items k seat within c.index.ensures in
    let route : Route = c.in-Some.route in
    let lane : ℕ = route.lane in
    let queued : route.queued ≡ true = search rules in
    let turn : HasTurn lane seat = c.in-Some.is ∙ ap (λ (b : Bool). Some (record route { queued = b })) queued in
    elim c.match-get_mut.branch [
      | in-Some-get_mut w ↦
          let l : Queues = w.in-Some-get_mut.queues.now in
          let lane_at = read_at h.lanes.items lane l w.in-Some-get_mut.ensures.item.3.0 w.in-Some-get_mut.ensures.value in
          subst (λ (i : Inside). HasLeftTurns client c.args.self.now (the_view i)) (sym w.self-inside-is)
          (subst (λ (v : Kept). HasLeftTurns client v (record kept { lanes = set kept.lanes lane w.step_out.new.self })) c.self.view_is
          (subst (λ (q : Queues). HasLeftTurns client kept (record kept { lanes = set kept.lanes lane q })) (sym w.step_out.ensures)
          (left_turns kept client k lane seat l place at may turn lane_at)))
      | in_default-get_mut w ↦
          subst (λ (i : Inside). HasLeftTurns client c.args.self.now (the_view i)) (sym w.self-inside-is)
          (subst (λ (v : Kept). HasLeftTurns client v kept) c.self.view_is
          (left_past kept client k lane seat place at may turn w.in_default-get_mut.ensures.item.3))
    ]
