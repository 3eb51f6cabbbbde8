-- What a lane's reply comes to.
use Rattle.std.proofs.Common.{◌≡◌, ◌<◌, ◌++◌, ◌∙◌, ◌-◌, ◌%◌, ℕ, List, [], ◌∷◌, length, length-set, set, sym, ap, subst, refl, append_assoc, Option, None, Some, MatchOption}
use Rattle.std.specs.List.{slice_get}
use Rattle.std.proofs.lemmas.List.{set-set}
use Rattle.std.proofs.lemmas.Option.{slice_get_within}
use Rattle.frame_link.specs.Frames.{frame}
use Rattle.system_hub.specs.Events.{Event, Replied, Failed}
use Rattle.system_hub.specs.Kept.{Kept, IsTaken, IsWellStanding, IsKeptOf, HasSeat, IsHere}
use Rattle.system_hub.specs.Calls.{Follows, Settles, HasSize, IsNext, IsWell, IsHeard, left_of, outbox_in}
use Rattle.system_hub.specs.Queues.{Queues}
use Rattle.system_hub.specs.declared.machine.seat.Seat.{Seat}
use Rattle.system_hub.specs.declared.machine.seat.Standing.TheVariants.{Lost, Open}
use Rattle.system_hub.proofs.Members.{some_is, get_set_same}
use Rattle.system_hub.proofs.Seats.{well_taken}
use Rattle.system_hub.proofs.Filing.{queued_but, queued_all, here_from}
use Rattle.system_hub.proofs.Replying.{filed_answered, kept_gone}
use Rattle.system_hub.proofs.Turning.{with_both}
use Rattle.system_hub.proofs.Calling.{seat_is, at_place, settled_size, kept_failed, open_taken}

-- whose frame comes first
pub next_is : (kept : Kept) (lane client : ℕ) (rest : List ℕ) (l : Queues) → slice_get kept.lanes lane ≡ Some l → l.waiting ≡ client ∷ rest → IsNext lane kept client
next_is kept lane client rest l at first =
    subst (λ (o : Option Queues). MatchOption o ⊥ (λ q. slice_get q.waiting 0 ≡ Some client)) (sym at) (ap (λ (x : List ℕ). slice_get x 0) first)

pub next_was : (kept : Kept) (lane client c : ℕ) (rest : List ℕ) (l : Queues) → slice_get kept.lanes lane ≡ Some l → l.waiting ≡ client ∷ rest → IsNext lane kept c → c ≡ client
next_was kept lane client c rest l at first is =
    let there : slice_get l.waiting 0 ≡ Some c = subst (λ (o : Option Queues). MatchOption o ⊥ (λ q. slice_get q.waiting 0 ≡ Some c)) at is in
    sym (some_is (sym (ap (λ (x : List ℕ). slice_get x 0) first) ∙ there))

pub well_here : (kept : Kept) (client : ℕ) (seat : Seat) → slice_get kept.seats (client % length kept.seats) ≡ Some seat → IsWell kept client → IsHere kept client
well_here kept client seat at well =
    let w = seat_is (λ s. (s.client ≡ client) × IsWellStanding s.standing) kept.seats (client % length kept.seats) seat at well in
    here_from kept client seat at (record { its = w.0; taken = well_taken seat.standing w.1 })

-- who is well stands well, and who is heard is open
pub well_at : (kept : Kept) (client : ℕ) (seat : Seat) → slice_get kept.seats (client % length kept.seats) ≡ Some seat → IsWell kept client → IsWellStanding seat.standing
well_at kept client seat at well = (seat_is (λ s. (s.client ≡ client) × IsWellStanding s.standing) kept.seats (client % length kept.seats) seat at well).1

pub heard_taken : (kept : Kept) (client : ℕ) (seat : Seat) → slice_get kept.seats (client % length kept.seats) ≡ Some seat → IsHeard kept client → IsTaken seat.standing
heard_taken kept client seat at heard =
    open_taken seat.standing (seat_is (λ s. (s.client ≡ client) × (s.standing ≡ Open)) kept.seats (client % length kept.seats) seat at heard).1

-- a client that has gone
pub gone_follows : (kept : Kept) (lane client : ℕ) (rest payload : List ℕ) (l : Queues) → slice_get kept.lanes lane ≡ Some l → l.waiting ≡ client ∷ rest → (IsHere kept client → ⊥) →
    Follows kept (record kept { lanes = set kept.lanes lane (record l { waiting = rest }) }) (Replied lane payload ∷ [])
gone_follows kept lane client rest payload l at first gone = record {
  history = λ events h. kept_gone events kept lane l client rest payload at first gone h;
  size = record { seats = refl; lanes = length-set kept.lanes lane (record l { waiting = rest }); place = refl };
}

pub gone_nobody : (kept : Kept) (lane client c : ℕ) (rest : List ℕ) (l : Queues) (seat : Seat) → slice_get kept.lanes lane ≡ Some l → l.waiting ≡ client ∷ rest →
    slice_get kept.seats (client % length kept.seats) ≡ Some seat → (IsHere kept client → ⊥) → IsNext lane kept c → IsWell kept c → ⊥
gone_nobody kept lane client c rest l seat at first seat_at gone is well =
    gone (well_here kept client seat seat_at (subst (λ (x : ℕ). IsWell kept x) (next_was kept lane client c rest l at first is) well))

both_size : (kept : Kept) (k lane : ℕ) (seat : Seat) (l : Queues) → HasSize (length kept.seats) (length kept.lanes) kept.place (with_both kept k seat lane l)
both_size kept k lane seat l = record { seats = length-set kept.seats k seat; lanes = length-set kept.lanes lane l; place = refl }

-- one that sits, but has failed
pub lost_follows : (kept : Kept) (lane client k : ℕ) (rest payload : List ℕ) (l : Queues) (seat : Seat) → slice_get kept.lanes lane ≡ Some l → l.waiting ≡ client ∷ rest →
    k ≡ client % length kept.seats → slice_get kept.seats k ≡ Some seat → IsHere kept client → (IsWellStanding seat.standing → ⊥) →
    Follows kept (with_both kept k (record seat { under_way = seat.under_way - 1 }) lane (record l { waiting = rest })) (Replied lane payload ∷ [])
lost_follows kept lane client k rest payload l seat at first place seat_at here unwell =
    let has = seat_is (HasSeat client) kept.seats (client % length kept.seats) seat (at_place kept client k seat place seat_at) here in
    let new : Seat = record seat { under_way = seat.under_way - 1 } in
    record {
      history = λ events h. record {
        filed = filed_answered events kept lane l client rest payload k seat seat.outbox at first seat_at has.its has.taken (λ well. absurd (unwell well)) h.filed;
        queued = queued_all kept k new h.queued (λ size may. absurd (unwell may.well));
      };
      size = both_size kept k lane new (record l { waiting = rest });
    }

pub lost_nobody : (kept : Kept) (lane client c k : ℕ) (rest : List ℕ) (l : Queues) (seat : Seat) → slice_get kept.lanes lane ≡ Some l → l.waiting ≡ client ∷ rest →
    k ≡ client % length kept.seats → slice_get kept.seats k ≡ Some seat → (IsWellStanding seat.standing → ⊥) → IsNext lane kept c → IsWell kept c → ⊥
lost_nobody kept lane client c k rest l seat at first place seat_at unwell is well =
    let w = seat_is (λ s. (s.client ≡ client) × IsWellStanding s.standing) kept.seats (client % length kept.seats) seat (at_place kept client k seat place seat_at)
    (subst (λ (x : ℕ). IsWell kept x) (next_was kept lane client c rest l at first is) well) in
    unwell w.1

-- one that is well, and to whom the reply fits
pub answered_follows : (kept new : Kept) (lane client k : ℕ) (rest payload outbox : List ℕ) (l : Queues) (seat : Seat) → slice_get kept.lanes lane ≡ Some l → l.waiting ≡ client ∷ rest →
    k ≡ client % length kept.seats → slice_get kept.seats k ≡ Some seat → IsHere kept client → outbox ≡ seat.outbox ++ frame payload →
    Settles k (with_both kept k (record seat { under_way = seat.under_way - 1; outbox = outbox }) lane (record l { waiting = rest })) new →
    Follows kept new (Replied lane payload ∷ [])
answered_follows kept new lane client k rest payload outbox l seat at first place seat_at here put settles =
    let has = seat_is (HasSeat client) kept.seats (client % length kept.seats) seat (at_place kept client k seat place seat_at) here in
    let mid : Seat = record seat { under_way = seat.under_way - 1; outbox = outbox } in
    record {
      history = λ events h.
          settles.history (events ++ Replied lane payload ∷ [])
          (filed_answered events kept lane l client rest payload k seat outbox at first seat_at has.its has.taken (λ well. put) h.filed)
          (queued_but kept k mid h.queued);
      size = settled_size kept (with_both kept k mid lane (record l { waiting = rest })) new (both_size kept k lane mid (record l { waiting = rest })) settles.size;
    }

-- one that is well, but fails by it
pub failed_by_reply : (kept : Kept) (lane client k : ℕ) (rest payload : List ℕ) (l : Queues) (seat : Seat) → slice_get kept.lanes lane ≡ Some l → l.waiting ≡ client ∷ rest →
    k ≡ client % length kept.seats → slice_get kept.seats k ≡ Some seat → IsHere kept client →
    Follows kept (with_both kept k (record seat { under_way = seat.under_way - 1; standing = Lost }) lane (record l { waiting = rest })) (Replied lane payload ∷ Failed client ∷ [])
failed_by_reply kept lane client k rest payload l seat at first place seat_at here =
    let has = seat_is (HasSeat client) kept.seats (client % length kept.seats) seat (at_place kept client k seat place seat_at) here in
    let put : List ℕ = seat.outbox ++ frame payload in
    let queues : Queues = record l { waiting = rest } in
    let mid : Seat = record seat { under_way = seat.under_way - 1; outbox = put } in
    let new : Seat = record seat { under_way = seat.under_way - 1; standing = Lost } in
    let between : Kept = with_both kept k mid lane queues in
    record {
      history = λ events h.
          let e : Event = Replied lane payload in
          let filed = filed_answered events kept lane l client rest payload k seat put at first seat_at has.its has.taken (λ well. refl) h.filed in
          let failed = kept_failed (events ++ e ∷ []) between k mid seat.outbox (get_set_same kept.seats k mid seat seat_at) has.taken filed (queued_but kept k mid h.queued) in
          subst (λ (l : List Event). IsKeptOf l (with_both kept k new lane queues)) (append_assoc events (e ∷ []) (Failed client ∷ []))
          (subst (λ (c : ℕ). IsKeptOf ((events ++ e ∷ []) ++ Failed c ∷ []) (with_both kept k new lane queues)) has.its
          (subst (λ (s : List Seat). IsKeptOf ((events ++ e ∷ []) ++ Failed seat.client ∷ []) (record between { seats = s })) (set-set kept.seats k mid new) failed));
      size = both_size kept k lane new queues;
    }

-- who sits and is not well has failed
pub not_well : (kept : Kept) (client k : ℕ) (seat : Seat) → k ≡ client % length kept.seats → slice_get kept.seats k ≡ Some seat → IsHere kept client → (IsWell kept client → ⊥) →
    IsWellStanding seat.standing → ⊥
not_well kept client k seat place at here unwell well =
    let there = at_place kept client k seat place at in
    let has = seat_is (HasSeat client) kept.seats (client % length kept.seats) seat there here in
    unwell (subst (λ (o : Option Seat). MatchOption o ⊥ (λ s. (s.client ≡ client) × IsWellStanding s.standing)) (sym there) (has.its, well))

-- a place that has something lies in the list
pub within_match : {X : Type 0} (P : X → Type 0) (xs : List X) (k : ℕ) → MatchOption (slice_get xs k) ⊥ P → k < length xs
within_match {X} P xs k h = go (slice_get xs k) refl h
  where
    go : (o : Option X) → slice_get xs k ≡ o → MatchOption o ⊥ P → k < length xs
    go None e h = absurd h
    go (Some x) e h = slice_get_within xs k x e

-- what is left to write to a client lies in its seat
pub left_is : (kept : Kept) (client k : ℕ) (seat : Seat) → k ≡ client % length kept.seats → slice_get kept.seats k ≡ Some seat → left_of kept client ≡ seat.outbox
left_is kept client k seat place at = ap (λ (o : Option Seat). outbox_in o) (at_place kept client k seat place at)
