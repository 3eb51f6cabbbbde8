-- Who is first has its seat, which is ready or passes.
use Rattle.std.proofs.Common.{◌≡◌, ℕ, ◌%◌, ◌<◌, [], length, sym, ap, subst, ◌∙◌, arith, Option, Some}
use Rattle.std.specs.List.{slice_get}
use Rattle.system_hub.specs.Kept.{Kept}
use Rattle.system_hub.specs.Calls.{HasFirstTurn, IsFirstTurn, IsFirstUnready, turns_at, turns_in}
use Rattle.system_hub.specs.Queues.{Queues}
use Rattle.system_hub.specs.declared.machine.seat.Seat.{Seat}
use Rattle.system_hub.proofs.Calling.{read_at}
use Rattle.system_hub.proofs.Passing.{first_at, no_head, follows_then, nobody_waits}
use Rattle.system_hub.proofs.machine.hub.Hub.first_ready.Goals as goal

pub returns-in-Some-ready-clause-first : goal.returns-in-Some-ready-clause-first
returns-in-Some-ready-clause-first c =
    let h = c.self.inside in
    let kept : Kept = record { seats = h.seats.items; lanes = h.lanes.items; free = h.free.items; place = h.place } in
    let lane : ℕ = c.args.lane in
    let l : Queues = c.index.result.now in
    let within : lane < length h.lanes.items = omega (arith, c.requires, c.loop-client.invariant.follows.size.lanes, ap (λ (v : Kept). length v.lanes) c.self.view_is) in
    let lane_at = read_at h.lanes.items lane l within c.index.ensures in
    let client : ℕ = c.in-Some.client in
    let k : ℕ = c.place_of-place.result in
    let head : slice_get l.turns 0 ≡ Some client = sym c.first_turn.ensures ∙ c.in-Some.is in
    let place = subst (λ (v : Kept). k ≡ client % length v.seats) (sym c.self.view_is) c.place_of-place.ensures.place in
    let below = subst (λ (v : Kept). k < length v.seats) (sym c.self.view_is) c.place_of-place.ensures.within in
    let seat : Seat = c.index-in-Some.result.now in
    let at = read_at h.seats.items k seat below c.index-in-Some.ensures in
    let t : IsFirstTurn lane kept k = first_at kept lane k client seat l lane_at head place at in
    subst (λ (v : Kept). HasFirstTurn lane v k c.in-Some-ready.size) c.self.view_is (t, c.in-Some-ready.ensures)

pub pass_turn-requires : goal.pass_turn-requires
pass_turn-requires c =
    let h = c.self.inside in
    let kept : Kept = record { seats = h.seats.items; lanes = h.lanes.items; free = h.free.items; place = h.place } in
    let lane : ℕ = c.args.lane in
    let l : Queues = c.index.result.now in
    let within : lane < length h.lanes.items = omega (arith, c.requires, c.loop-client.invariant.follows.size.lanes, ap (λ (v : Kept). length v.lanes) c.self.view_is) in
    let lane_at = read_at h.lanes.items lane l within c.index.ensures in
    let client : ℕ = c.in-Some.client in
    let k : ℕ = c.place_of-place.result in
    let head : slice_get l.turns 0 ≡ Some client = sym c.first_turn.ensures ∙ c.in-Some.is in
    let place = subst (λ (v : Kept). k ≡ client % length v.seats) (sym c.self.view_is) c.place_of-place.ensures.place in
    let below = subst (λ (v : Kept). k < length v.seats) (sym c.self.view_is) c.place_of-place.ensures.within in
    let seat : Seat = c.index-in-Some.result.now in
    let at = read_at h.seats.items k seat below c.index-in-Some.ensures in
    let t : IsFirstTurn lane kept k = first_at kept lane k client seat l lane_at head place at in
    subst (λ (v : Kept). IsFirstUnready lane v k) c.self.view_is (t, c.in_default-ready.ensures)

pub loop-client-preserved : goal.loop-client-preserved
loop-client-preserved c = record {
  follows = follows_then c.args.self.now c.loop-client.self c.pass_turn.new.self [] c.loop-client.invariant.follows c.pass_turn.ensures.passed;
  room = λ room. c.pass_turn.ensures.room (c.loop-client.invariant.room room);
  seats = λ k. c.pass_turn.ensures.seats k ∙ c.loop-client.invariant.seats k;
}

pub returns-clause-first : goal.returns-clause-first
returns-clause-first c =
    let h = c.self.inside in
    let kept : Kept = record { seats = h.seats.items; lanes = h.lanes.items; free = h.free.items; place = h.place } in
    let lane : ℕ = c.args.lane in
    let l : Queues = c.index.result.now in
    let within : lane < length h.lanes.items = omega (arith, c.requires, c.loop-client.invariant.follows.size.lanes, ap (λ (v : Kept). length v.lanes) c.self.view_is) in
    let lane_at = read_at h.lanes.items lane l within c.index.ensures in
    let none = subst (λ (v : Kept). turns_at lane v ≡ []) c.self.view_is
    (ap (λ (o : Option Queues). turns_in o) lane_at ∙ no_head l.turns (sym c.first_turn.ensures ∙ c.in_default.is)) in
    let follows = c.loop-client.invariant.follows in
    let some : 0 < length c.args.self.now.seats = omega (arith, c.self.invariant.0, follows.size.seats, ap (λ (v : Kept). length v.seats) c.self.view_is) in
    nobody_waits c.args.self.now c.loop-client.self lane some c.requires follows none
