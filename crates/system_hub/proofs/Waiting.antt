-- Who waits has a seat, and stands in the turns.
use Rattle.std.proofs.Common.{◌≡◌, ◌<◌, ◌≤◌, ◌++◌, ◌∙◌, ◌%◌, ℕ, List, [], ◌∷◌, length, length-append, sym, ap, subst, refl, append_assoc, arith, Option, Some, All, true, zero, suc}
use Rattle.std.specs.Int.{w32, to_be_bytes}
use Rattle.std.specs.List.{slice_get, Contains}
use Rattle.std.proofs.lemmas.List.{append_cancel_left}
use Rattle.std.proofs.lemmas.List.Concat.{flat_map-cons}
use Rattle.std.proofs.lemmas.List.Elements.{All-head, All-push}
use Rattle.frame_link.specs.Frames.{frame, framed}
use Rattle.frame_link.specs.declared.service.TheConstants.{MAX_PAYLOAD}
use Rattle.frame_link.proofs.Splits.{word_once, same_front}
use Rattle.system_hub.specs.Events.{Event}
use Rattle.system_hub.specs.Accounts.{Account, account_of, lane_by, number_at}
use Rattle.system_hub.specs.Fair.{Waits}
use Rattle.system_hub.specs.Kept.{Kept, IsWellStanding, IsRouted, Sits, IsFiled, AreQueued, MayTurn}
use Rattle.system_hub.specs.Queues.{Queues}
use Rattle.system_hub.specs.declared.machine.seat.Route.{Route}
use Rattle.system_hub.specs.declared.machine.seat.Seat.{Seat}
use Rattle.system_hub.proofs.Seats.{sound_stands}
use Rattle.system_hub.proofs.Serving.{framed_more}
use Rattle.system_hub.proofs.Stretches.{lawful_now}

-- bytes begin with one frame at most
pub first_once : (p q x y : List ℕ) → length p ≤ MAX_PAYLOAD → length q ≤ MAX_PAYLOAD → frame p ++ x ≡ frame q ++ y → p ≡ q
first_once p q x y lp lq e =
    let same = word_once (length p) (length q) (p ++ x) (q ++ y) (omega arith) (omega arith)
    (sym (append_assoc (to_be_bytes w32 (length p)) p x) ∙ e ∙ append_assoc (to_be_bytes w32 (length q)) q y) in
    (same_front p q x y same.0 same.1).0

-- the lane of some frames is that of the first
pub lane_of_first : (place lanes : ℕ) (taken : List (List ℕ)) (next first x y : List ℕ) → length first ≤ MAX_PAYLOAD →
    ((p : List ℕ) (ps : List (List ℕ)) → taken ++ next ∷ [] ≡ p ∷ ps → length p ≤ MAX_PAYLOAD) →
    framed (taken ++ next ∷ []) ++ x ≡ frame first ++ y → lane_by place lanes (taken ++ next ∷ []) ≡ number_at place first % lanes
lane_of_first place lanes [] next first x y short each e =
    ap (λ (p : List ℕ). number_at place p % lanes)
    (first_once next first ([] ++ x) y (each next [] refl) short
    (sym (append_assoc (frame next) [] x) ∙ ap (λ (z : List ℕ). z ++ x) (sym (flat_map-cons frame next [])) ∙ e))
lane_of_first place lanes (t ∷ taken) next first x y short each e =
    ap (λ (p : List ℕ). number_at place p % lanes)
    (first_once t first (framed (taken ++ next ∷ []) ++ x) y (each t (taken ++ next ∷ []) refl) short
    (sym (append_assoc (frame t) (framed (taken ++ next ∷ [])) x)
    ∙ ap (λ (z : List ℕ). z ++ x) (sym (flat_map-cons frame t (taken ++ next ∷ []))) ∙ e))

-- a place below the length of a list has an element
pub has_place : {X : Type 0} (xs : List X) (k : ℕ) → k < length xs → (x : X) × (slice_get xs k ≡ Some x)
has_place [] k lt = absurd (omega arith)
has_place (x ∷ xs) zero lt = (x, refl)
has_place (x ∷ xs) (suc k) lt = has_place xs k (omega arith)

-- what a client that waits has sent next stands in its seat
pub may_turn : (place lanes lane : ℕ) (a : Account) (seat : Seat) → Sits place lanes a seat → (w : Waits place lanes lane a) →
    MayTurn seat (length w.next)
may_turn place lanes lane a seat sits w =
    let well : IsWellStanding seat.standing = sound_stands a seat.standing sits.stands w.sound in
    let inbox : seat.inbox ≡ frame w.next ++ w.rest =
    append_cancel_left (framed a.taken) seat.inbox (frame w.next ++ w.rest)
    (sym sits.bytes ∙ w.whole ∙ ap (λ (x : List ℕ). x ++ w.rest) (framed_more a.taken w.next) ∙ append_assoc (framed a.taken) (frame w.next) w.rest) in
    record {
      well = well;
      few = omega (arith, w.few, sits.under_way);
      listens = omega (arith, w.listens, ap (λ (x : List ℕ). length x) (sits.left well), length-append a.written seat.outbox);
      whole = (w.next, w.rest, inbox, refl, w.short);
    }

-- the lane that its seat has noted is the one for which it waits
pub its_lane : (place lanes lane : ℕ) (a : Account) (route : Route) → IsRouted place lanes a (Some route) → All (λ p. length p ≤ MAX_PAYLOAD) a.taken →
    Waits place lanes lane a → route.lane ≡ lane
its_lane place lanes lane a route routed short w =
    routed.4
    ∙ sym (lane_of_first place lanes a.taken w.next routed.0 w.rest routed.1 routed.3
    (λ p ps e. All-head (λ (q : List ℕ). length q ≤ MAX_PAYLOAD) p ps
    (subst (λ (l : List (List ℕ)). All (λ (q : List ℕ). length q ≤ MAX_PAYLOAD) l) e
    (All-push (λ (q : List ℕ). length q ≤ MAX_PAYLOAD) a.taken w.next short w.short)))
    (sym w.whole ∙ routed.2))
    ∙ w.its_lane

pub waits_among : (events : List Event) (kept : Kept) → 0 < length kept.seats → IsFiled events kept → AreQueued kept →
    (lane client : ℕ) (l : Queues) → slice_get kept.lanes lane ≡ Some l →
    Waits kept.place (length kept.lanes) lane (account_of client events) → Contains l.turns client
waits_among events kept some filed queued lane client l at w =
    let k : ℕ = client % length kept.seats in
    let found = has_place kept.seats k (omega arith) in
    let seat : Seat = found.0 in
    let s = filed.seats k seat found.1 in
    let its = s.only client refl w.sound.present in
    let sits : Sits kept.place (length kept.lanes) (account_of client events) seat =
    subst (λ (c : ℕ). Sits kept.place (length kept.lanes) (account_of c events) seat) (sym its.0) (s.sits its.1) in
    let turn = queued k (length w.next) seat found.1 (may_turn kept.place (length kept.lanes) lane (account_of client events) seat sits w) in
    let routed : IsRouted kept.place (length kept.lanes) (account_of client events) (Some (record { lane = turn.0; queued = true })) =
    subst (λ (r : Option Route). IsRouted kept.place (length kept.lanes) (account_of client events) r) turn.1 sits.routed in
    let same = its_lane kept.place (length kept.lanes) lane (account_of client events) (record { lane = turn.0; queued = true }) routed
    ((lawful_now kept.place (length kept.lanes) events filed.lawful).served client).short w in
    subst (λ (c : ℕ). Contains l.turns c) (sym its.0)
    ((filed.noted k lane seat l found.1 at).1 (turn.1 ∙ ap (λ (m : ℕ). Some (record { lane = m; queued = true })) same))
