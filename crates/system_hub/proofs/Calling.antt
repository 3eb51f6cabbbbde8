-- What one event of a client that sits comes to.
use Rattle.std.proofs.Common.{◌≡◌, ◌<◌, ◌++◌, ◌∙◌, ◌+◌, ◌%◌, ℕ, List, [], ◌∷◌, length, length-set, take, drop, get_or, sym, ap, subst, refl, inl, inr, Option, Some, MatchOption}
use Rattle.std.specs.List.{slice_get}
use Rattle.std.proofs.lemmas.List.{take-append-drop}
use Rattle.std.proofs.lemmas.Option.{slice_get_read}
use Rattle.frame_link.specs.Frames.{framed}
use Rattle.system_hub.specs.Events.{Event, Received, Ended, Failed, Wrote}
use Rattle.system_hub.specs.Accounts.{Account, account_of}
use Rattle.system_hub.specs.Lawful.{IsServed}
use Rattle.system_hub.specs.Kept.{Kept, IsTaken, IsWellStanding, StandsBy, Sits, IsFiled, AreQueued, AreQueuedBut, IsKeptOf, HasSeat, IsHere}
use Rattle.system_hub.specs.Calls.{Follows, Settles, HasSize, IsWell, IsHeard, left_of, outbox_in}
use Rattle.system_hub.specs.declared.machine.seat.Seat.{Seat}
use Rattle.system_hub.specs.declared.machine.seat.Standing.{Standing}
use Rattle.system_hub.specs.declared.machine.seat.Standing.TheVariants.{Open, Ended, Lost}
use Rattle.system_hub.proofs.Growing.{account_received, account_ended, account_failed, account_wrote}
use Rattle.system_hub.proofs.Members.{get_set_cases}
use Rattle.system_hub.proofs.Serving.{served_received, served_ended, served_failed, served_wrote}
use Rattle.system_hub.proofs.Seats.{well_taken, stands_present, stands_sound, sits_received, sits_ended, sits_failed, sits_wrote}
use Rattle.system_hub.proofs.Stretches.{lawful_now}
use Rattle.system_hub.proofs.Filing.{here_from, filed_quiet, with_seat, queued_but, queued_all}

pub read_at : {X : Type 0} (xs : List X) (k : ℕ) (x : X) → k < length xs → x ≡ get_or xs k x → slice_get xs k ≡ Some x
read_at xs k x lt e = slice_get_read xs (length xs) k x refl lt e

-- the seat at a client's place is the client's, where it has one
pub seat_is : (P : Seat → Type 0) (seats : List Seat) (k : ℕ) (seat : Seat) → slice_get seats k ≡ Some seat → MatchOption (slice_get seats k) ⊥ P → P seat
seat_is P seats k seat at h = subst (λ (o : Option Seat). MatchOption o ⊥ P) at h

pub at_place : (kept : Kept) (client k : ℕ) (seat : Seat) → k ≡ client % length kept.seats → slice_get kept.seats k ≡ Some seat →
    slice_get kept.seats (client % length kept.seats) ≡ Some seat
at_place kept client k seat place at = ap (λ (m : ℕ). slice_get kept.seats m) (sym place) ∙ at

-- as many seats and lanes as before
pub same_size : (kept : Kept) (k : ℕ) (seat : Seat) → HasSize (length kept.seats) (length kept.lanes) kept.place (with_seat kept k seat)
same_size kept k seat = record { seats = length-set kept.seats k seat; lanes = refl; place = refl }

pub settled_size : (kept mid new : Kept) → HasSize (length kept.seats) (length kept.lanes) kept.place mid →
    HasSize (length mid.seats) (length mid.lanes) mid.place new → HasSize (length kept.seats) (length kept.lanes) kept.place new
settled_size kept mid new h g = record { seats = g.seats ∙ h.seats; lanes = g.lanes ∙ h.lanes; place = g.place ∙ h.place }

-- it failed: with any bytes left to write
pub kept_failed : (events : List Event) (kept : Kept) (k : ℕ) (seat : Seat) (outbox : List ℕ) → slice_get kept.seats k ≡ Some seat → IsTaken seat.standing →
    IsFiled events kept → AreQueuedBut k kept →
    IsKeptOf (events ++ Failed seat.client ∷ []) (with_seat kept k (record seat { standing = Lost; outbox = outbox }))
kept_failed events kept k seat outbox at taken filed queued =
    let a : Account = account_of seat.client events in
    let new : Seat = record seat { standing = Lost; outbox = outbox } in
    let e : Event = Failed seat.client in
    let sits = (filed.seats k seat at).sits taken in
    let own = account_failed seat.client events in
    let failed = sits_failed kept.place (length kept.lanes) a seat sits in
    let left : IsWellStanding Lost → framed a.replies ≡ a.written ++ outbox = λ well. absurd well in
    record {
      filed = filed_quiet events e kept k seat new at taken tt refl refl (record { clients = λ lane. refl; replies = λ lane. refl })
          (λ x differ same. differ (sym same))
          (subst (λ (b : Account). Sits kept.place (length kept.lanes) b new) (sym own)
          (record { stands = failed.stands; bytes = failed.bytes; under_way = failed.under_way; left = left; routed = failed.routed }))
          (subst (λ (b : Account). IsServed kept.place (length kept.lanes) b) (sym own)
          (served_failed kept.place (length kept.lanes) a (a.failures + 1) ((lawful_now kept.place (length kept.lanes) events filed.lawful).served seat.client)))
          (stands_present a seat.standing sits.stands) filed;
      queued = λ j size s found may.
          elim (get_set_cases kept.seats k new j s found) [
            | inl h ↦ absurd (subst (λ (x : Seat). IsWellStanding x.standing) h.1 may.well)
            | inr h ↦ queued j size s h.1 h.0 may
          ];
    }

all_but : (kept : Kept) (k : ℕ) → AreQueued kept → AreQueuedBut k kept
all_but kept k queued = λ j size s at differ may. queued j size s at may

pub failed_follows : (kept : Kept) (client k : ℕ) (seat : Seat) → k ≡ client % length kept.seats → slice_get kept.seats k ≡ Some seat → IsHere kept client →
    Follows kept (with_seat kept k (record seat { standing = Lost })) (Failed client ∷ [])
failed_follows kept client k seat place at here =
    let has = seat_is (HasSeat client) kept.seats (client % length kept.seats) seat (at_place kept client k seat place at) here in
    record {
      history = λ events h. subst (λ (c : ℕ). IsKeptOf (events ++ Failed c ∷ []) (with_seat kept k (record seat { standing = Lost }))) has.its
          (kept_failed events kept k seat seat.outbox at has.taken h.filed (all_but kept k h.queued));
      size = same_size kept k (record seat { standing = Lost });
    }

pub open_taken : (s : Standing) → s ≡ Open → IsTaken s
open_taken s is = subst (λ (t : Standing). IsTaken t) (sym is) tt

open_well : (s : Standing) → s ≡ Open → IsWellStanding s
open_well s is = subst (λ (t : Standing). IsWellStanding t) (sym is) tt

pub ended_follows : (kept : Kept) (client k : ℕ) (seat : Seat) → k ≡ client % length kept.seats → slice_get kept.seats k ≡ Some seat → IsHeard kept client →
    Follows kept (with_seat kept k (record seat { standing = Ended })) (Ended client ∷ [])
ended_follows kept client k seat place at heard =
    let has = seat_is (λ s. (s.client ≡ client) × (s.standing ≡ Open)) kept.seats (client % length kept.seats) seat (at_place kept client k seat place at) heard in
    let new : Seat = record seat { standing = Ended } in
    record {
      history = λ events h.
          let a : Account = account_of seat.client events in
          let e : Event = Ended seat.client in
          let filed = h.filed in
          let sits = (filed.seats k seat at).sits (open_taken seat.standing has.1) in
          let own = account_ended seat.client events in
          subst (λ (c : ℕ). IsKeptOf (events ++ Ended c ∷ []) (with_seat kept k new)) has.0
          (record {
            filed = filed_quiet events e kept k seat new at (open_taken seat.standing has.1) tt refl refl (record { clients = λ lane. refl; replies = λ lane. refl })
                (λ x differ same. differ (sym same))
                (subst (λ (b : Account). Sits kept.place (length kept.lanes) b new) (sym own) (sits_ended kept.place (length kept.lanes) a seat has.1 sits))
                (subst (λ (b : Account). IsServed kept.place (length kept.lanes) b) (sym own)
                (served_ended kept.place (length kept.lanes) a (a.ends + 1) ((lawful_now kept.place (length kept.lanes) events filed.lawful).served seat.client)))
                (subst (λ (s : Standing). StandsBy a s) has.1 sits.stands) filed;
            queued = queued_all kept k new h.queued (λ size may. h.queued k size seat at
                (record { well = open_well seat.standing has.1; few = may.few; listens = may.listens; whole = may.whole }));
          });
      size = same_size kept k new;
    }

pub received_follows : (kept new : Kept) (client k : ℕ) (seat : Seat) (bytes inbox : List ℕ) → k ≡ client % length kept.seats → slice_get kept.seats k ≡ Some seat →
    IsHeard kept client → inbox ≡ seat.inbox ++ bytes → Settles k (with_seat kept k (record seat { inbox = inbox })) new →
    Follows kept new (Received client bytes ∷ [])
received_follows kept new client k seat bytes inbox place at heard more settles =
    let has = seat_is (λ s. (s.client ≡ client) × (s.standing ≡ Open)) kept.seats (client % length kept.seats) seat (at_place kept client k seat place at) heard in
    let mid : Seat = record seat { inbox = inbox } in
    record {
      history = λ events h.
          let a : Account = account_of seat.client events in
          let e : Event = Received seat.client bytes in
          let filed = h.filed in
          let sits = (filed.seats k seat at).sits (open_taken seat.standing has.1) in
          let own = account_received seat.client events bytes in
          subst (λ (c : ℕ). IsKeptOf (events ++ Received c bytes ∷ []) new) has.0
          (settles.history (events ++ e ∷ [])
          (filed_quiet events e kept k seat mid at (open_taken seat.standing has.1) (open_taken seat.standing has.1) refl refl
          (record { clients = λ lane. refl; replies = λ lane. refl }) (λ x differ same. differ (sym same))
          (subst (λ (b : Account). Sits kept.place (length kept.lanes) b mid) (sym own)
          (subst (λ (l : List ℕ). Sits kept.place (length kept.lanes) (record a { received = a.received ++ bytes }) (record seat { inbox = l })) (sym more)
          (sits_received kept.place (length kept.lanes) a seat bytes sits)))
          (subst (λ (b : Account). IsServed kept.place (length kept.lanes) b) (sym own)
          (served_received kept.place (length kept.lanes) a bytes ((lawful_now kept.place (length kept.lanes) events filed.lawful).served seat.client)))
          (subst (λ (s : Standing). StandsBy a s) has.1 sits.stands) filed)
          (queued_but kept k mid h.queued));
      size = settled_size kept (with_seat kept k mid) new (same_size kept k mid) settles.size;
    }

pub wrote_follows : (kept new : Kept) (client k count : ℕ) (seat : Seat) (outbox : List ℕ) → k ≡ client % length kept.seats → slice_get kept.seats k ≡ Some seat →
    IsWell kept client → outbox ≡ drop count seat.outbox → Settles k (with_seat kept k (record seat { outbox = outbox })) new →
    Follows kept new (Wrote client (take count (left_of kept client)) ∷ [])
wrote_follows kept new client k count seat outbox place at well less settles =
    let there = at_place kept client k seat place at in
    let has = seat_is (λ s. (s.client ≡ client) × IsWellStanding s.standing) kept.seats (client % length kept.seats) seat there well in
    let mid : Seat = record seat { outbox = outbox } in
    let bytes : List ℕ = take count seat.outbox in
    let split : seat.outbox ≡ bytes ++ outbox = sym (ap (λ (l : List ℕ). bytes ++ l) less ∙ take-append-drop count seat.outbox) in
    let taken = well_taken seat.standing has.1 in
    record {
      history = λ events h.
          let a : Account = account_of seat.client events in
          let e : Event = Wrote seat.client bytes in
          let filed = h.filed in
          let sits = (filed.seats k seat at).sits taken in
          let own = account_wrote seat.client events bytes in
          subst (λ (o : Option Seat). IsKeptOf (events ++ Wrote client (take count (outbox_in o)) ∷ []) new) (sym there)
          (subst (λ (c : ℕ). IsKeptOf (events ++ Wrote c bytes ∷ []) new) has.0
          (settles.history (events ++ e ∷ [])
          (filed_quiet events e kept k seat mid at taken taken refl refl
          (record { clients = λ lane. refl; replies = λ lane. refl }) (λ x differ same. differ (sym same))
          (subst (λ (b : Account). Sits kept.place (length kept.lanes) b mid) (sym own)
          (sits_wrote kept.place (length kept.lanes) a seat bytes outbox split sits))
          (subst (λ (b : Account). IsServed kept.place (length kept.lanes) b) (sym own)
          (served_wrote kept.place (length kept.lanes) a bytes outbox (sits.left has.1 ∙ ap (λ (l : List ℕ). a.written ++ l) split)
          ((lawful_now kept.place (length kept.lanes) events filed.lawful).served seat.client)))
          (stands_sound a seat.standing sits.stands has.1) filed)
          (queued_but kept k mid h.queued)));
      size = settled_size kept (with_seat kept k mid) new (same_size kept k mid) settles.size;
    }

-- who is heard has its seat
pub heard_here : (kept : Kept) (client k : ℕ) (seat : Seat) → k ≡ client % length kept.seats → slice_get kept.seats k ≡ Some seat → IsHeard kept client → IsHere kept client
heard_here kept client k seat place at heard =
    let there = at_place kept client k seat place at in
    let has = seat_is (λ s. (s.client ≡ client) × (s.standing ≡ Open)) kept.seats (client % length kept.seats) seat there heard in
    here_from kept client seat there (record { its = has.0; taken = open_taken seat.standing has.1 })
