-- The reply is for the client of the first frame that had none.
use Rattle.std.proofs.Common.{◌≡◌, ℕ, ◌-◌, ◌%◌, ◌<◌, ◌++◌, List, [], ◌∷◌, length, length-append, set, sym, ap, subst, refl, ◌∙◌, arith, rules, false}
use Rattle.std.specs.Int.{w32, to_be_bytes}
use Rattle.frame_link.specs.Frames.{frame}
use Rattle.system_hub.specs.Events.{Failed, Replied}
use Rattle.system_hub.specs.Kept.{Kept, IsHere}
use Rattle.system_hub.specs.Calls.{Follows, Settles, IsWell, IsNext, HasFrame, HasSpace}
use Rattle.system_hub.specs.Queues.{Queues}
use Rattle.system_hub.specs.declared.machine.seat.Seat.{Seat}
use Rattle.system_hub.specs.declared.machine.seat.Standing.TheVariants.{Lost}
use Rattle.system_hub.proofs.Turning.{with_both}
use Rattle.system_hub.proofs.Waiting.{has_place}
use Rattle.system_hub.proofs.Calling.{read_at}
use Rattle.system_hub.proofs.Outcomes.{within_match, left_is, next_is, gone_follows, gone_nobody, lost_follows, lost_nobody, not_well, answered_follows, failed_by_reply}
use Rattle.system_hub.specs.Seating.{IsAbout, IsAboutNobody}
use Rattle.system_hub.proofs.Calling.{at_place}
use Rattle.system_hub.proofs.Outcomes.{well_at}
use Rattle.system_hub.proofs.Seating.{busy_stays, lost_leaves, nobody_moves, set_about, set_here, set_may, set_may_was, taken_at}
use Rattle.system_hub.proofs.machine.hub.Hub.answer.Goals as goal

pub returns-then-not-is_here-clause-replied : goal.returns-then-not-is_here-clause-replied
returns-then-not-is_here-clause-replied c =
    let h = c.self.inside in
    let kept : Kept = record { seats = h.seats.items; lanes = h.lanes.items; free = h.free.items; place = h.place } in
    let lane : ℕ = c.args.lane in
    let payload : List ℕ = c.args.payload.now in
    let client : ℕ = c.in-Some.client in
    let l : Queues = c.index_mut.result.now in
    let rest : List ℕ = c.answer.new.self.waiting in
    let frame_there = subst (λ (v : Kept). HasFrame lane v) (sym c.self.view_is) c.requires.frame in
    let lane_at = read_at h.lanes.items lane l (within_match (λ (q : Queues). 0 < length q.waiting) h.lanes.items lane frame_there) c.index_mut.ensures.value in
    let first : l.waiting ≡ client ∷ rest = c.in-Some.ensures.waiting in
    let same : c.answer.new.self ≡ record l { waiting = rest } = λ i. record { waiting = rest; turns = c.in-Some.ensures.turns i; room = c.in-Some.ensures.room i } in
    let not_here : c.is_here.result ≡ false = search rules in
    let gone : IsHere kept client → ⊥ = λ here. absurd (cc (sym (c.is_here.ensures.1 here) ∙ not_here)) in
    let some : 0 < length h.seats.items = c.self.invariant.0 in
    let below : client % length h.seats.items < length h.seats.items = omega (arith, some) in
    let found = has_place h.seats.items (client % length h.seats.items) below in (
      subst (λ (v : Kept). Follows v (record kept { lanes = set kept.lanes lane c.answer.new.self }) (Replied lane payload ∷ [])) c.self.view_is
          (subst (λ (q : Queues). Follows kept (record kept { lanes = set kept.lanes lane q }) (Replied lane payload ∷ [])) (sym same)
          (gone_follows kept lane client rest payload l lane_at first gone)),
      λ x next well. gone_nobody kept lane client x rest l found.0 lane_at first found.1 gone
          (subst (λ (v : Kept). IsNext lane v x) (sym c.self.view_is) next) (subst (λ (v : Kept). IsWell v x) (sym c.self.view_is) well),
    )

pub returns-then-not-well-clause-replied : goal.returns-then-not-well-clause-replied
returns-then-not-well-clause-replied c =
    let h = c.self.inside in
    let kept : Kept = record { seats = h.seats.items; lanes = h.lanes.items; free = h.free.items; place = h.place } in
    let lane : ℕ = c.args.lane in
    let payload : List ℕ = c.args.payload.now in
    let client : ℕ = c.in-Some.client in
    let l : Queues = c.index_mut.result.now in
    let rest : List ℕ = c.answer.new.self.waiting in
    let frame_there = subst (λ (v : Kept). HasFrame lane v) (sym c.self.view_is) c.requires.frame in
    let lane_at = read_at h.lanes.items lane l (within_match (λ (q : Queues). 0 < length q.waiting) h.lanes.items lane frame_there) c.index_mut.ensures.value in
    let first : l.waiting ≡ client ∷ rest = c.in-Some.ensures.waiting in
    let same : c.answer.new.self ≡ record l { waiting = rest } = λ i. record { waiting = rest; turns = c.in-Some.ensures.turns i; room = c.in-Some.ensures.room i } in
    let k : ℕ = c.place_of-place.result in
    let seat : Seat = c.index_mut-seat.result.now in
    let place : k ≡ client % length h.seats.items = c.place_of-place.ensures.place in
    let at = read_at h.seats.items k seat c.place_of-place.ensures.within c.index_mut-seat.ensures.value in
    let here : IsHere kept client = c.is_here.ensures.0 (search rules) in
    let fewer : c.saturating_sub-seat.result ≡ seat.under_way - 1 = search rules in
    let not_so : c.is_well-well.result ≡ false = search rules in
    let unwell = not_well kept client k seat place at here (λ well. absurd (cc (sym (c.is_well-well.ensures.1 well) ∙ not_so))) in (
      subst (λ (v : Kept). Follows v (with_both kept k (record seat { under_way = c.saturating_sub-seat.result }) lane c.answer.new.self) (Replied lane payload ∷ [])) c.self.view_is
          (subst (λ (q : Queues). Follows kept (with_both kept k (record seat { under_way = c.saturating_sub-seat.result }) lane q) (Replied lane payload ∷ [])) (sym same)
          (subst (λ (n : ℕ). Follows kept (with_both kept k (record seat { under_way = n }) lane (record l { waiting = rest })) (Replied lane payload ∷ [])) (sym fewer)
          (lost_follows kept lane client k rest payload l seat lane_at first place at here unwell))),
      λ x next well. lost_nobody kept lane client x k rest l seat lane_at first place at unwell
          (subst (λ (v : Kept). IsNext lane v x) (sym c.self.view_is) next) (subst (λ (v : Kept). IsWell v x) (sym c.self.view_is) well),
    )

pub returns-then-payload-room-clause-replied : goal.returns-then-payload-room-clause-replied
returns-then-payload-room-clause-replied c =
    let h = c.self.inside in
    let kept : Kept = record { seats = h.seats.items; lanes = h.lanes.items; free = h.free.items; place = h.place } in
    let lane : ℕ = c.args.lane in
    let payload : List ℕ = c.args.payload.now in
    let client : ℕ = c.in-Some.client in
    let l : Queues = c.index_mut.result.now in
    let rest : List ℕ = c.answer.new.self.waiting in
    let frame_there = subst (λ (v : Kept). HasFrame lane v) (sym c.self.view_is) c.requires.frame in
    let lane_at = read_at h.lanes.items lane l (within_match (λ (q : Queues). 0 < length q.waiting) h.lanes.items lane frame_there) c.index_mut.ensures.value in
    let first : l.waiting ≡ client ∷ rest = c.in-Some.ensures.waiting in
    let same : c.answer.new.self ≡ record l { waiting = rest } = λ i. record { waiting = rest; turns = c.in-Some.ensures.turns i; room = c.in-Some.ensures.room i } in
    let k : ℕ = c.place_of-place.result in
    let seat : Seat = c.index_mut-seat.result.now in
    let place : k ≡ client % length h.seats.items = c.place_of-place.ensures.place in
    let at = read_at h.seats.items k seat c.place_of-place.ensures.within c.index_mut-seat.ensures.value in
    let here : IsHere kept client = c.is_here.ensures.0 (search rules) in
    let fewer : c.saturating_sub-seat.result ≡ seat.under_way - 1 = search rules in
    let well : IsWell kept client = c.is_well-well.ensures.0 (search rules) in
    let left = left_is kept client k seat place at in (
      subst (λ (v : Kept). IsNext lane v client) c.self.view_is (next_is kept lane client rest l lane_at first),
      subst (λ (v : Kept). IsWell v client) c.self.view_is well,
      subst (λ (v : Kept). HasSpace v client (length payload) → ⊥) c.self.view_is
          (λ fits. absurd (omega (arith, fits, ap (λ (x : List ℕ). length x) left, c.room.ensures, c.if-payload-room.true))),
      subst (λ (v : Kept). Follows v (with_both kept k (record seat { under_way = c.saturating_sub-seat.result; standing = Lost }) lane c.answer.new.self) (Replied lane payload ∷ Failed client ∷ [])) c.self.view_is
          (subst (λ (q : Queues). Follows kept (with_both kept k (record seat { under_way = c.saturating_sub-seat.result; standing = Lost }) lane q) (Replied lane payload ∷ Failed client ∷ [])) (sym same)
          (subst (λ (n : ℕ). Follows kept (with_both kept k (record seat { under_way = n; standing = Lost }) lane (record l { waiting = rest })) (Replied lane payload ∷ Failed client ∷ [])) (sym fewer)
          (failed_by_reply kept lane client k rest payload l seat lane_at first place at here))),
    )

pub returns-then-is_err-clause-replied : goal.returns-then-is_err-clause-replied
returns-then-is_err-clause-replied c =
    let h = c.self.inside in
    let kept : Kept = record { seats = h.seats.items; lanes = h.lanes.items; free = h.free.items; place = h.place } in
    let lane : ℕ = c.args.lane in
    let payload : List ℕ = c.args.payload.now in
    let client : ℕ = c.in-Some.client in
    let l : Queues = c.index_mut.result.now in
    let rest : List ℕ = c.answer.new.self.waiting in
    let frame_there = subst (λ (v : Kept). HasFrame lane v) (sym c.self.view_is) c.requires.frame in
    let lane_at = read_at h.lanes.items lane l (within_match (λ (q : Queues). 0 < length q.waiting) h.lanes.items lane frame_there) c.index_mut.ensures.value in
    let first : l.waiting ≡ client ∷ rest = c.in-Some.ensures.waiting in
    let same : c.answer.new.self ≡ record l { waiting = rest } = λ i. record { waiting = rest; turns = c.in-Some.ensures.turns i; room = c.in-Some.ensures.room i } in
    let k : ℕ = c.place_of-place.result in
    let seat : Seat = c.index_mut-seat.result.now in
    let place : k ≡ client % length h.seats.items = c.place_of-place.ensures.place in
    let at = read_at h.seats.items k seat c.place_of-place.ensures.within c.index_mut-seat.ensures.value in
    let here : IsHere kept client = c.is_here.ensures.0 (search rules) in
    let fewer : c.saturating_sub-seat.result ≡ seat.under_way - 1 = search rules in
    let well : IsWell kept client = c.is_well-well.ensures.0 (search rules) in
    let left = left_is kept client k seat place at in
    let unput : c.put.new.self ≡ seat.outbox = search rules in (
      subst (λ (v : Kept). IsNext lane v client) c.self.view_is (next_is kept lane client rest l lane_at first),
      subst (λ (v : Kept). IsWell v client) c.self.view_is well,
      subst (λ (v : Kept). HasSpace v client (length payload)) c.self.view_is
          (omega (arith, ap (λ (x : List ℕ). length x) left, c.room.ensures, c.if-payload-room.false)),
      subst (λ (v : Kept). Follows v (with_both kept k (record seat { under_way = c.saturating_sub-seat.result; standing = Lost; outbox = c.put.new.self }) lane c.answer.new.self) (Replied lane payload ∷ Failed client ∷ [])) c.self.view_is
          (subst (λ (q : Queues). Follows kept (with_both kept k (record seat { under_way = c.saturating_sub-seat.result; standing = Lost; outbox = c.put.new.self }) lane q) (Replied lane payload ∷ Failed client ∷ [])) (sym same)
          (subst (λ (x : List ℕ). Follows kept (with_both kept k (record seat { under_way = c.saturating_sub-seat.result; standing = Lost; outbox = x }) lane (record l { waiting = rest })) (Replied lane payload ∷ Failed client ∷ [])) (sym unput)
          (subst (λ (n : ℕ). Follows kept (with_both kept k (record seat { under_way = n; standing = Lost }) lane (record l { waiting = rest })) (Replied lane payload ∷ Failed client ∷ [])) (sym fewer)
          (failed_by_reply kept lane client k rest payload l seat lane_at first place at here)))),
    )

pub returns-clause-replied : goal.returns-clause-replied
returns-clause-replied c =
    let h = c.self.inside in
    let kept : Kept = record { seats = h.seats.items; lanes = h.lanes.items; free = h.free.items; place = h.place } in
    let lane : ℕ = c.args.lane in
    let payload : List ℕ = c.args.payload.now in
    let client : ℕ = c.in-Some.client in
    let l : Queues = c.index_mut.result.now in
    let rest : List ℕ = c.answer.new.self.waiting in
    let frame_there = subst (λ (v : Kept). HasFrame lane v) (sym c.self.view_is) c.requires.frame in
    let lane_at = read_at h.lanes.items lane l (within_match (λ (q : Queues). 0 < length q.waiting) h.lanes.items lane frame_there) c.index_mut.ensures.value in
    let first : l.waiting ≡ client ∷ rest = c.in-Some.ensures.waiting in
    let same : c.answer.new.self ≡ record l { waiting = rest } = λ i. record { waiting = rest; turns = c.in-Some.ensures.turns i; room = c.in-Some.ensures.room i } in
    let k : ℕ = c.place_of-place.result in
    let seat : Seat = c.index_mut-seat.result.now in
    let place : k ≡ client % length h.seats.items = c.place_of-place.ensures.place in
    let at = read_at h.seats.items k seat c.place_of-place.ensures.within c.index_mut-seat.ensures.value in
    let here : IsHere kept client = c.is_here.ensures.0 (search rules) in
    let fewer : c.saturating_sub-seat.result ≡ seat.under_way - 1 = search rules in
    let well : IsWell kept client = c.is_well-well.ensures.0 (search rules) in
    let left = left_is kept client k seat place at in
    let put : c.put.new.self ≡ seat.outbox ++ frame payload = search rules in
    let settles : Settles k (with_both kept k (record seat { under_way = seat.under_way - 1; outbox = c.put.new.self }) lane (record l { waiting = rest })) c.queue.new.self =
    subst (λ (q : Queues). Settles k (with_both kept k (record seat { under_way = seat.under_way - 1; outbox = c.put.new.self }) lane q) c.queue.new.self) same
    (subst (λ (n : ℕ). Settles k (with_both kept k (record seat { under_way = n; outbox = c.put.new.self }) lane c.answer.new.self) c.queue.new.self) fewer c.queue.ensures.settles) in (
      subst (λ (v : Kept). IsNext lane v client) c.self.view_is (next_is kept lane client rest l lane_at first),
      subst (λ (v : Kept). IsWell v client) c.self.view_is well,
      subst (λ (v : Kept). HasSpace v client (length payload)) c.self.view_is
          (omega (arith, ap (λ (x : List ℕ). length x) left, c.room.ensures, c.if-payload-room.false)),
      subst (λ (v : Kept). Follows v c.queue.new.self (Replied lane payload ∷ [])) c.self.view_is
          (answered_follows kept c.queue.new.self lane client k rest payload c.put.new.self l seat lane_at first place at here put settles),
    )

pub returns-then-not-well-clause-about : goal.returns-then-not-well-clause-about
returns-then-not-well-clause-about c =
    let h = c.self.inside in
    let kept : Kept = record { seats = h.seats.items; lanes = h.lanes.items; free = h.free.items; place = h.place } in
    let lane : ℕ = c.args.lane in
    let client : ℕ = c.in-Some.client in
    let k : ℕ = c.place_of-place.result in
    let seat : Seat = c.index_mut-seat.result.now in
    let place : k ≡ client % length h.seats.items = c.place_of-place.ensures.place in
    let at = read_at h.seats.items k seat c.place_of-place.ensures.within c.index_mut-seat.ensures.value in
    let here : IsHere kept client = c.is_here.ensures.0 (search rules) in
    let not_so : c.is_well-well.result ≡ false = search rules in
    let unwell = not_well kept client k seat place at here (λ well. absurd (cc (sym (c.is_well-well.ensures.1 well) ∙ not_so))) in
    let mid : Seat = record seat { under_way = c.saturating_sub-seat.result } in
    subst (λ (v : Kept). IsAboutNobody v (with_both kept k mid lane c.answer.new.self)) c.self.view_is
    (nobody_moves kept (with_both kept k mid lane c.answer.new.self) k seat mid at refl refl
    (λ leaves. lost_leaves seat.standing seat (taken_at kept client k seat place at here) unwell) refl (λ j. refl))

pub returns-then-payload-room-clause-about : goal.returns-then-payload-room-clause-about
returns-then-payload-room-clause-about c =
    let h = c.self.inside in
    let kept : Kept = record { seats = h.seats.items; lanes = h.lanes.items; free = h.free.items; place = h.place } in
    let lane : ℕ = c.args.lane in
    let client : ℕ = c.in-Some.client in
    let k : ℕ = c.place_of-place.result in
    let seat : Seat = c.index_mut-seat.result.now in
    let place : k ≡ client % length h.seats.items = c.place_of-place.ensures.place in
    let at = read_at h.seats.items k seat c.place_of-place.ensures.within c.index_mut-seat.ensures.value in
    let here : IsHere kept client = c.is_here.ensures.0 (search rules) in
    let mid : Seat = record seat { under_way = c.saturating_sub-seat.result; standing = Lost } in
    let new : Kept = with_both kept k mid lane c.answer.new.self in (
      subst (λ (v : Kept). IsAbout client v new) c.self.view_is (set_about kept new client k seat mid place at here refl refl (λ j. refl)),
      set_may kept new client k seat mid place at here refl refl (λ j. refl) tt,
    )

pub returns-then-is_err-clause-about : goal.returns-then-is_err-clause-about
returns-then-is_err-clause-about c =
    let h = c.self.inside in
    let kept : Kept = record { seats = h.seats.items; lanes = h.lanes.items; free = h.free.items; place = h.place } in
    let lane : ℕ = c.args.lane in
    let client : ℕ = c.in-Some.client in
    let k : ℕ = c.place_of-place.result in
    let seat : Seat = c.index_mut-seat.result.now in
    let place : k ≡ client % length h.seats.items = c.place_of-place.ensures.place in
    let at = read_at h.seats.items k seat c.place_of-place.ensures.within c.index_mut-seat.ensures.value in
    let here : IsHere kept client = c.is_here.ensures.0 (search rules) in
    let mid : Seat = record seat { under_way = c.saturating_sub-seat.result; standing = Lost; outbox = c.put.new.self } in
    let new : Kept = with_both kept k mid lane c.answer.new.self in (
      subst (λ (v : Kept). IsAbout client v new) c.self.view_is (set_about kept new client k seat mid place at here refl refl (λ j. refl)),
      set_may kept new client k seat mid place at here refl refl (λ j. refl) tt,
    )

pub returns-clause-about : goal.returns-clause-about
returns-clause-about c =
    let h = c.self.inside in
    let kept : Kept = record { seats = h.seats.items; lanes = h.lanes.items; free = h.free.items; place = h.place } in
    let lane : ℕ = c.args.lane in
    let client : ℕ = c.in-Some.client in
    let k : ℕ = c.place_of-place.result in
    let seat : Seat = c.index_mut-seat.result.now in
    let place : k ≡ client % length h.seats.items = c.place_of-place.ensures.place in
    let at = read_at h.seats.items k seat c.place_of-place.ensures.within c.index_mut-seat.ensures.value in
    let here : IsHere kept client = c.is_here.ensures.0 (search rules) in
    let payload : List ℕ = c.args.payload.now in
    let well : IsWell kept client = c.is_well-well.ensures.0 (search rules) in
    let put : c.put.new.self ≡ seat.outbox ++ frame payload = search rules in
    let mid : Seat = record seat { under_way = c.saturating_sub-seat.result; outbox = c.put.new.self } in
    let new : Kept = c.queue.new.self in
    let size = c.queue.ensures.settles.size.seats in
    let keeps = c.queue.ensures.seats in (
      subst (λ (v : Kept). IsAbout client v new) c.self.view_is (set_about kept new client k seat mid place at here refl size keeps),
      set_here kept new client k seat mid place at here refl size keeps (taken_at kept client k seat place at here),
      λ may. busy_stays mid (well_at kept client seat (at_place kept client k seat place at) well)
          (λ idle. omega (arith, ap (λ (l : List ℕ). length l) (sym put ∙ idle.written), length-append seat.outbox (frame payload), length-append (to_be_bytes w32 (length payload)) payload))
          (set_may_was kept new client k seat mid place at size keeps may),
    )
