-- The seat at the place says whether it is ready, and whether it has its turn.
use Rattle.std.proofs.Common.{◌≡◌, ℕ, ◌%◌, ◌<◌, length, sym, subst, ◌∙◌}
use Rattle.system_hub.specs.Accounts.{number_at}
use Rattle.system_hub.specs.Kept.{Kept}
use Rattle.system_hub.specs.Calls.{WantsTurn, WantsNoTurn}
use Rattle.system_hub.proofs.Calling.{read_at}
use Rattle.system_hub.proofs.Queueing.{wants_none, wants_no_more, wants_noted, wants_first}
use Rattle.system_hub.proofs.machine.hub.Hub.lane_wanted.Goals as goal

pub returns-in-None : goal.returns-in-None
returns-in-None c =
    let h = c.self.inside in
    let kept : Kept = record { seats = h.seats.items; lanes = h.lanes.items; free = h.free.items; place = h.place } in
    let within = subst (λ (v : Kept). c.args.place < length v.seats) (sym c.self.view_is) c.requires in
    subst (λ (v : Kept). WantsNoTurn c.args.place v) c.self.view_is
    (wants_none kept c.args.place c.index-seat.result.now (read_at h.seats.items c.args.place c.index-seat.result.now within c.index-seat.ensures) c.in-None.ensures)

pub returns-then-route : goal.returns-then-route
returns-then-route c =
    let h = c.self.inside in
    let kept : Kept = record { seats = h.seats.items; lanes = h.lanes.items; free = h.free.items; place = h.place } in
    let within = subst (λ (v : Kept). c.args.place < length v.seats) (sym c.self.view_is) c.requires in
    subst (λ (v : Kept). WantsNoTurn c.args.place v) c.self.view_is
    (wants_no_more kept c.args.place c.index-seat.result.now c.in-Some-route.route
    (read_at h.seats.items c.args.place c.index-seat.result.now within c.index-seat.ensures) c.in-Some-route.is c.if-route.true)

pub returns : goal.returns
returns c =
    let h = c.self.inside in
    let kept : Kept = record { seats = h.seats.items; lanes = h.lanes.items; free = h.free.items; place = h.place } in
    let within = subst (λ (v : Kept). c.args.place < length v.seats) (sym c.self.view_is) c.requires in
    subst (λ (v : Kept). WantsTurn c.args.place c.in-Some-route.route.lane v) c.self.view_is
    (wants_noted kept c.args.place c.in-Some.size c.index-seat.result.now c.in-Some-route.route
    (read_at h.seats.items c.args.place c.index-seat.result.now within c.index-seat.ensures) c.in-Some.ensures c.in-Some-route.is c.if-route.false)

pub returns-in_default : goal.returns-in_default
returns-in_default c =
    let h = c.self.inside in
    let kept : Kept = record { seats = h.seats.items; lanes = h.lanes.items; free = h.free.items; place = h.place } in
    let within = subst (λ (v : Kept). c.args.place < length v.seats) (sym c.self.view_is) c.requires in
    subst (λ (v : Kept). WantsTurn c.args.place c.lane_by.result v) c.self.view_is
    (wants_first kept c.args.place c.lane_by.result c.in-Some.size c.index-seat.result.now c.payload-payload.result.now c.payload-payload.ensures.0
    (read_at h.seats.items c.args.place c.index-seat.result.now within c.index-seat.ensures) c.in-Some.ensures c.in_default.is
    c.payload-payload.ensures.1 c.payload-payload.ensures.2
    (subst (λ (n : ℕ). c.lane_by.result ≡ number_at h.place c.payload-payload.result.now % n) (c.len.ensures ∙ h.lanes.ok.0) c.lane_by.ensures.lane))
