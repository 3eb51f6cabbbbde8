-- What is kept, as one more event happens.
use Rattle.std.proofs.Common.{◌≡◌, ◌≢◌, ◌++◌, ◌∙◌, ◌%◌, ℕ, ◌↔◌, List, [], ◌∷◌, length, length-set, set, drop, sym, ap, subst, refl, inl, inr, arith, Option, None, Some, MatchOption}
use Rattle.std.specs.List.{slice_get, Contains}
use Rattle.std.proofs.lemmas.Bool.Decides.{eqb_tells}
use Rattle.system_hub.specs.Events.{Event, client_in, reply_in}
use Rattle.system_hub.specs.Accounts.{Account, account_of}
use Rattle.system_hub.specs.Lanes.{unanswered}
use Rattle.system_hub.specs.Lawful.{IsServed, MayHappen, IsLawful}
use Rattle.system_hub.specs.Kept.{Kept, IsTaken, Sits, IsSeatAt, IsLaneAt, IsFiled, AreQueued, AreQueuedBut, MayTurn, HasTurn, HasSeat, IsHere}
use Rattle.system_hub.specs.Queues.{Queues}
use Rattle.system_hub.specs.declared.machine.seat.Seat.{Seat}
use Rattle.system_hub.specs.declared.machine.seat.Standing.{Standing}
use Rattle.system_hub.specs.declared.machine.seat.Standing.TheVariants.{Free}
use Rattle.system_hub.proofs.Growing.{stays, IsQuiet, IsOf, account_quiet}
use Rattle.system_hub.proofs.Members.{get_set_cases, get_set_same, get_set_other, get_one}
use Rattle.system_hub.proofs.Seats.{seat_stays, seat_moves}
use Rattle.system_hub.proofs.Stretches.{lawful_now, lawful_more, latest_more, turns_kept, fair_kept}

pub not_free : (s : Standing) → IsTaken s → s ≡ Free → ⊥
not_free s taken e = subst (λ (t : Standing). IsTaken t) e taken

-- a client has its seat where a list of seats has it at its place
pub here_at : (kept : Kept) (client : ℕ) → IsHere kept client →
    (seat : Seat) × (slice_get kept.seats (client % length kept.seats) ≡ Some seat) × HasSeat client seat
here_at kept client h = go (slice_get kept.seats (client % length kept.seats)) refl h
  where
    go : (o : Option Seat) → slice_get kept.seats (client % length kept.seats) ≡ o → MatchOption o ⊥ (HasSeat client) →
        (seat : Seat) × (slice_get kept.seats (client % length kept.seats) ≡ Some seat) × HasSeat client seat
    go None e h = absurd h
    go (Some seat) e h = (seat, e, h)

pub here_from : (kept : Kept) (client : ℕ) (seat : Seat) → slice_get kept.seats (client % length kept.seats) ≡ Some seat → HasSeat client seat →
    IsHere kept client
here_from kept client seat e h = subst (λ (o : Option Seat). MatchOption o ⊥ (HasSeat client)) (sym e) h

-- lanes stay as they were by an event that is none of theirs
pub lane_stays : (place lanes lane : ℕ) (events : List Event) (e : Event) (l : Queues) → client_in lane e ≡ [] → reply_in lane e ≡ [] →
    IsLaneAt place lanes lane events l → IsLaneAt place lanes lane (events ++ e ∷ []) l
lane_stays place lanes lane events e l c r h =
    let same : unanswered lane (events ++ e ∷ []) ≡ unanswered lane events =
    λ i. drop (length (stays (reply_in lane) events e r i)) (stays (client_in lane) events e c i) in
    record {
      waiting = h.waiting ∙ sym same;
      turns = turns_kept place lanes lane events e l.turns c h.turns;
    }

-- the law goes on by an event at no lane
pub lawful_quiet : (place lanes : ℕ) (events : List Event) (e : Event) (c : ℕ) → IsQuiet e → ((x : ℕ) → x ≢ c → IsOf x e → ⊥) →
    IsServed place lanes (account_of c (events ++ e ∷ [])) → MayHappen place lanes events e → IsLawful place lanes events →
    IsLawful place lanes (events ++ e ∷ [])
lawful_quiet place lanes events e c quiet apart served may law =
    let now = lawful_now place lanes events law in
    lawful_more place lanes events e law (record {
      served = λ x.
          elim (eqb_tells x c) [
            | inl same ↦ subst (λ (y : ℕ). IsServed place lanes (account_of y (events ++ e ∷ []))) (sym same.1) served
            | inr away ↦ subst (λ (a : Account). IsServed place lanes a) (sym (account_quiet x events e quiet (apart x away.1))) (now.served x)
          ];
      answered = λ lane. omega (
        arith,
        now.answered lane,
        ap (λ (l : List (List ℕ)). length l) (stays (reply_in lane) events e (quiet.replies lane)),
        ap (λ (l : List ℕ). length l) (stays (client_in lane) events e (quiet.clients lane)),
      );
      fair = fair_kept place lanes events e quiet.clients now.fair;
      latest = latest_more place lanes events e may;
    })

-- what is kept, with another seat at one place
abbrev pub with_seat : Kept → ℕ → Seat → Kept
with_seat kept k seat = record kept { seats = set kept.seats k seat }

-- the seat at a place, where one was set
pub seat_cases : {P : ℕ → Seat → Type 0} (kept : Kept) (k : ℕ) (new : Seat) → P k new →
    ((j : ℕ) (s : Seat) → j ≢ k → slice_get kept.seats j ≡ Some s → P j s) →
    (j : ℕ) (s : Seat) → slice_get (with_seat kept k new).seats j ≡ Some s → P j s
seat_cases {P} kept k new own others j s at =
    elim (get_set_cases kept.seats k new j s at) [
      | inl h ↦ subst (λ (x : ℕ). P x s) (sym h.0) (subst (λ (x : Seat). P k x) (sym h.1) own)
      | inr h ↦ others j s h.0 h.1
    ]

-- who has a seat has it where another seat was set, and where its own was set to one of its own
pub here_kept : (kept : Kept) (k : ℕ) (seat new : Seat) → slice_get kept.seats k ≡ Some seat → new.client ≡ seat.client → IsTaken new.standing →
    (client : ℕ) → IsHere kept client → IsHere (with_seat kept k new) client
here_kept kept k seat new at same taken client h =
    let found = here_at kept client h in
    let n : length (set kept.seats k new) ≡ length kept.seats = length-set kept.seats k new in
    let its : client % length (set kept.seats k new) ≡ client % length kept.seats = ap (λ (m : ℕ). client % m) n in
    elim (eqb_tells (client % length kept.seats) k) [
      | inl here ↦
          let one : seat ≡ found.0 = get_one kept.seats k seat found.0 at (ap (λ (m : ℕ). slice_get kept.seats m) (sym here.1) ∙ found.1) in
          here_from (with_seat kept k new) client new
          (ap (λ (m : ℕ). slice_get (set kept.seats k new) m) (its ∙ here.1) ∙ get_set_same kept.seats k new seat at)
          (record { its = same ∙ ap (λ (s : Seat). s.client) one ∙ found.2.its; taken = taken })
      | inr away ↦
          here_from (with_seat kept k new) client found.0
          (ap (λ (m : ℕ). slice_get (set kept.seats k new) m) its ∙ get_set_other kept.seats k (client % length kept.seats) new away.1 ∙ found.1)
          found.2
    ]

-- a free place is free where another seat was set
pub free_kept : (kept : Kept) (k : ℕ) (seat new : Seat) → slice_get kept.seats k ≡ Some seat → IsTaken seat.standing →
    (j : ℕ) → MatchOption (slice_get kept.seats j) ⊥ (λ s. s.standing ≡ Free) →
    MatchOption (slice_get (set kept.seats k new) j) ⊥ (λ s. s.standing ≡ Free)
free_kept kept k seat new at taken j h =
    elim (eqb_tells j k) [
      | inl here ↦ absurd (not_free seat.standing taken
          (subst (λ (o : Option Seat). MatchOption o ⊥ (λ s. s.standing ≡ Free)) (ap (λ (m : ℕ). slice_get kept.seats m) here.1 ∙ at) h))
      | inr away ↦ subst (λ (o : Option Seat). MatchOption o ⊥ (λ s. s.standing ≡ Free)) (sym (get_set_other kept.seats k j new away.1)) h
    ]

-- one event of a client that sits, at no lane
pub filed_quiet : (events : List Event) (e : Event) (kept : Kept) (k : ℕ) (seat new : Seat) →
    slice_get kept.seats k ≡ Some seat → IsTaken seat.standing → IsTaken new.standing → new.client ≡ seat.client → new.route ≡ seat.route →
    IsQuiet e → ((x : ℕ) → x ≢ seat.client → IsOf x e → ⊥) →
    Sits kept.place (length kept.lanes) (account_of seat.client (events ++ e ∷ [])) new →
    IsServed kept.place (length kept.lanes) (account_of seat.client (events ++ e ∷ [])) →
    MayHappen kept.place (length kept.lanes) events e → IsFiled events kept →
    IsFiled (events ++ e ∷ []) (with_seat kept k new)
filed_quiet events e kept k seat new at was is client route quiet apart sits served may filed =
    let n : length (set kept.seats k new) ≡ length kept.seats = length-set kept.seats k new in
    let old = filed.seats k seat at in
    record {
      seats = seat_cases {P = λ j s. IsSeatAt kept.place (length kept.lanes) (length (set kept.seats k new)) j (events ++ e ∷ []) s} kept k new
          (subst (λ (m : ℕ). IsSeatAt kept.place (length kept.lanes) m k (events ++ e ∷ []) new) (sym n)
          (seat_moves kept.place (length kept.lanes) (length kept.seats) k events e seat new
          (λ c differ. account_quiet c events e quiet (apart c differ)) client was is sits old))
          (λ j s differ found.
          subst (λ (m : ℕ). IsSeatAt kept.place (length kept.lanes) m j (events ++ e ∷ []) s) (sym n)
          (seat_stays kept.place (length kept.lanes) (length kept.seats) j events e s
          (λ c its. account_quiet c events e quiet (apart c (λ same. differ (sym its ∙ ap (λ (x : ℕ). x % length kept.seats) same ∙ old.number))))
          (filed.seats j s found)));
      lanes = λ lane l found. lane_stays kept.place (length kept.lanes) lane events e l (quiet.clients lane) (quiet.replies lane) (filed.lanes lane l found);
      rooms = λ lane l found. filed.rooms lane l found ∙ sym n;
      noted = λ j lane s l found found_lane.
          seat_cases {P = λ j s. Contains l.turns s.client ↔ HasTurn lane s} kept k new (
            λ h. route ∙ (filed.noted k lane seat l at found_lane).0 (subst (λ (c : ℕ). Contains l.turns c) client h),
            λ h. subst (λ (c : ℕ). Contains l.turns c) (sym client) ((filed.noted k lane seat l at found_lane).1 (sym route ∙ h)),
          )
          (λ j s differ found. filed.noted j lane s l found found_lane) j s found;
      seated = λ lane x l found h. here_kept kept k seat new at client is x (filed.seated lane x l found h);
      free = λ j h. free_kept kept k seat new at was j (filed.free j h);
      apart = filed.apart;
      lawful = lawful_quiet kept.place (length kept.lanes) events e seat.client quiet apart served may filed.lawful;
    }

-- whoever may have a turn stands in turns, but for a seat that was set
pub queued_but : (kept : Kept) (k : ℕ) (new : Seat) → AreQueued kept → AreQueuedBut k (with_seat kept k new)
queued_but kept k new queued = λ j size s at differ may.
    elim (get_set_cases kept.seats k new j s at) [
      | inl h ↦ absurd (differ h.0)
      | inr h ↦ queued j size s h.1 may
    ]

-- and for that one too, where it may have no turn or has one
pub queued_all : (kept : Kept) (k : ℕ) (new : Seat) → AreQueued kept →
    ((size : ℕ) → MayTurn new size → (lane : ℕ) × HasTurn lane new) → AreQueued (with_seat kept k new)
queued_all kept k new queued own = λ j size s at may.
    elim (get_set_cases kept.seats k new j s at) [
      | inl h ↦
          let t = own size (subst (λ (x : Seat). MayTurn x size) h.1 may) in
          (t.0, subst (λ (x : Seat). HasTurn t.0 x) (sym h.1) t.1)
      | inr h ↦ queued j size s h.1 may
    ]
