-- A seat, as the account of its client grows.
use Rattle.std.proofs.Common.{◌≡◌, ◌≢◌, ◌<◌, ◌++◌, ◌∙◌, ◌+◌, ◌%◌, ℕ, false, List, [], ◌∷◌, length, length-append, sym, ap, subst, refl, inl, inr, append_assoc, arith, Option, None, Some}
use Rattle.std.proofs.lemmas.Bool.Decides.{eqb_tells}
use Rattle.std.proofs.lemmas.List.{append-nil}
use Rattle.frame_link.specs.Frames.{frame, framed}
use Rattle.system_hub.specs.Events.{Event}
use Rattle.system_hub.specs.Accounts.{Account, account_of, IsPresent, IsSound, IsOpen}
use Rattle.system_hub.specs.Kept.{IsTaken, IsWellStanding, StandsBy, IsRouted, Sits, IsSeatAt, next_number}
use Rattle.system_hub.specs.declared.machine.seat.Route.{Route}
use Rattle.system_hub.specs.declared.machine.seat.Seat.{Seat}
use Rattle.system_hub.specs.declared.machine.seat.Standing.{Standing}
use Rattle.system_hub.specs.declared.machine.seat.Standing.TheVariants.{Free, Open, Ended, Lost, Spent}
use Rattle.system_hub.proofs.Serving.{framed_more}

pub well_taken : (s : Standing) → IsWellStanding s → IsTaken s
well_taken Free h = h
well_taken Open h = tt
well_taken Ended h = tt
well_taken Lost h = absurd h
well_taken Spent h = h

pub present_same : (a b : Account) → b.comings ≡ a.comings → b.leavings ≡ a.leavings → IsPresent a → IsPresent b
present_same a b c l h = record { came = c ∙ h.came; stays = l ∙ h.stays }

pub sound_same : (a b : Account) → b.comings ≡ a.comings → b.leavings ≡ a.leavings → b.failures ≡ a.failures → IsSound a → IsSound b
sound_same a b c l f h = record { present = present_same a b c l h.present; sound = f ∙ h.sound }

pub open_same : (a b : Account) → b.comings ≡ a.comings → b.leavings ≡ a.leavings → b.failures ≡ a.failures → b.ends ≡ a.ends → IsOpen a → IsOpen b
open_same a b c l f e h = record { sound = sound_same a b c l f h.sound; goes_on = e ∙ h.goes_on }

-- an account that came, left, failed and ended as often stands by the same
pub stands_same : (a b : Account) (s : Standing) → b.comings ≡ a.comings → b.leavings ≡ a.leavings → b.failures ≡ a.failures → b.ends ≡ a.ends →
    StandsBy a s → StandsBy b s
stands_same a b Free c l f e h = h
stands_same a b Open c l f e h = open_same a b c l f e h
stands_same a b Ended c l f e h = (sound_same a b c l f h.0, subst (λ (n : ℕ). 0 < n) (sym e) h.1)
stands_same a b Lost c l f e h = (present_same a b c l h.0, subst (λ (n : ℕ). 0 < n) (sym f) h.1)
stands_same a b Spent c l f e h = h

pub stands_present : (a : Account) (s : Standing) → StandsBy a s → IsPresent a
stands_present a Free h = absurd h
stands_present a Open h = h.sound.present
stands_present a Ended h = h.0.present
stands_present a Lost h = h.0
stands_present a Spent h = absurd h

pub stands_sound : (a : Account) (s : Standing) → StandsBy a s → IsWellStanding s → IsSound a
stands_sound a Free h well = absurd h
stands_sound a Open h well = h.sound
stands_sound a Ended h well = h.0
stands_sound a Lost h well = absurd well
stands_sound a Spent h well = absurd h

pub sound_stands : (a : Account) (s : Standing) → StandsBy a s → IsSound a → IsWellStanding s
sound_stands a Free h sound = h
sound_stands a Open h sound = tt
sound_stands a Ended h sound = tt
sound_stands a Lost h sound = absurd (omega (arith, h.1, sound.sound))
sound_stands a Spent h sound = h

pub next_taken : (s : Standing) (n : ℕ) → IsTaken s → next_number s n ≡ n + 1
next_taken Free n h = absurd h
next_taken Open n h = refl
next_taken Ended n h = refl
next_taken Lost n h = refl
next_taken Spent n h = absurd h

pub routed_more : (place lanes : ℕ) (a b : Account) (more : List ℕ) (route : Option Route) → b.received ≡ a.received ++ more → b.taken ≡ a.taken →
    IsRouted place lanes a route → IsRouted place lanes b route
routed_more place lanes a b more None received taken h = taken ∙ h
routed_more place lanes a b more (Some route) received taken h =
    (h.0, h.1 ++ more, received ∙ ap (λ (x : List ℕ). x ++ more) h.2 ∙ append_assoc (frame h.0) h.1 more, h.3, h.4)

length_more : (xs : List (List ℕ)) (x : List ℕ) → length (xs ++ x ∷ []) ≡ length xs + 1
length_more xs x = length-append xs (x ∷ [])

-- bytes came
pub sits_received : (place lanes : ℕ) (a : Account) (seat : Seat) (bytes : List ℕ) → Sits place lanes a seat →
    Sits place lanes (record a { received = a.received ++ bytes }) (record seat { inbox = seat.inbox ++ bytes })
sits_received place lanes a seat bytes h = record {
  stands = stands_same a (record a { received = a.received ++ bytes }) seat.standing refl refl refl refl h.stands;
  bytes = ap (λ (x : List ℕ). x ++ bytes) h.bytes ∙ append_assoc (framed a.taken) seat.inbox bytes;
  under_way = h.under_way;
  left = h.left;
  routed = routed_more place lanes a (record a { received = a.received ++ bytes }) bytes seat.route refl refl h.routed;
}

-- it said its last
pub sits_ended : (place lanes : ℕ) (a : Account) (seat : Seat) → seat.standing ≡ Open → Sits place lanes a seat →
    Sits place lanes (record a { ends = a.ends + 1 }) (record seat { standing = Ended })
sits_ended place lanes a seat is h =
    let opened : IsOpen a = subst (λ (s : Standing). StandsBy a s) is h.stands in
    record {
      stands = (sound_same a (record a { ends = a.ends + 1 }) refl refl refl opened.sound, omega arith);
      bytes = h.bytes;
      under_way = h.under_way;
      left = λ well. h.left (subst (λ (s : Standing). IsWellStanding s) (sym is) tt);
      routed = routed_more place lanes a (record a { ends = a.ends + 1 }) [] seat.route (sym (append-nil a.received)) refl h.routed;
    }

-- it failed
pub sits_failed : (place lanes : ℕ) (a : Account) (seat : Seat) → Sits place lanes a seat →
    Sits place lanes (record a { failures = a.failures + 1 }) (record seat { standing = Lost })
sits_failed place lanes a seat h = record {
  stands = (present_same a (record a { failures = a.failures + 1 }) refl refl (stands_present a seat.standing h.stands), omega arith);
  bytes = h.bytes;
  under_way = h.under_way;
  left = λ well. absurd well;
  routed = routed_more place lanes a (record a { failures = a.failures + 1 }) [] seat.route (sym (append-nil a.received)) refl h.routed;
}

-- bytes were written to it
pub sits_wrote : (place lanes : ℕ) (a : Account) (seat : Seat) (bytes rest : List ℕ) → seat.outbox ≡ bytes ++ rest → Sits place lanes a seat →
    Sits place lanes (record a { written = a.written ++ bytes }) (record seat { outbox = rest })
sits_wrote place lanes a seat bytes rest split h = record {
  stands = stands_same a (record a { written = a.written ++ bytes }) seat.standing refl refl refl refl h.stands;
  bytes = h.bytes;
  under_way = h.under_way;
  left = λ well. h.left well ∙ ap (λ (x : List ℕ). a.written ++ x) split ∙ sym (append_assoc a.written bytes rest);
  routed = routed_more place lanes a (record a { written = a.written ++ bytes }) [] seat.route (sym (append-nil a.received)) refl h.routed;
}

-- a frame of it was answered; of who failed the reply goes nowhere
pub sits_answered : (place lanes : ℕ) (a : Account) (seat : Seat) (payload : List ℕ) (under_way : ℕ) (outbox : List ℕ) →
    seat.under_way ≡ under_way + 1 → (IsWellStanding seat.standing → outbox ≡ seat.outbox ++ frame payload) → Sits place lanes a seat →
    Sits place lanes (record a { replies = a.replies ++ payload ∷ [] }) (record seat { under_way = under_way; outbox = outbox })
sits_answered place lanes a seat payload under_way outbox fewer put h = record {
  stands = stands_same a (record a { replies = a.replies ++ payload ∷ [] }) seat.standing refl refl refl refl h.stands;
  bytes = h.bytes;
  under_way = omega (arith, h.under_way, length_more a.replies payload);
  left = λ well.
      framed_more a.replies payload
      ∙ ap (λ (x : List ℕ). x ++ frame payload) (h.left well)
      ∙ append_assoc a.written seat.outbox (frame payload)
      ∙ ap (λ (x : List ℕ). a.written ++ x) (sym (put well));
  routed = routed_more place lanes a (record a { replies = a.replies ++ payload ∷ [] }) [] seat.route (sym (append-nil a.received)) refl h.routed;
}

-- a lane took its next frame
pub sits_took : (place lanes lane : ℕ) (a : Account) (seat : Seat) (payload inbox : List ℕ) (route : Route) → seat.inbox ≡ frame payload ++ inbox →
    seat.route ≡ Some route → Sits place lanes a seat →
    Sits place lanes (record a { taken = a.taken ++ payload ∷ []; lanes = a.lanes ++ lane ∷ [] })
    (record seat { inbox = inbox; under_way = seat.under_way + 1; route = Some (record route { queued = false }) })
sits_took place lanes lane a seat payload inbox route split is h =
    let routed : IsRouted place lanes a (Some route) = subst (λ (r : Option Route). IsRouted place lanes a r) is h.routed in
    record {
      stands = stands_same a (record a { taken = a.taken ++ payload ∷ []; lanes = a.lanes ++ lane ∷ [] }) seat.standing refl refl refl refl h.stands;
      bytes = h.bytes ∙ ap (λ (x : List ℕ). framed a.taken ++ x) split
          ∙ sym (append_assoc (framed a.taken) (frame payload) inbox)
          ∙ ap (λ (x : List ℕ). x ++ inbox) (sym (framed_more a.taken payload));
      under_way = omega (arith, h.under_way, length_more a.taken payload);
      left = h.left;
      routed = routed;
    }

-- a seat none of whose clients has the event
pub seat_stays : (place lanes seats j : ℕ) (events : List Event) (e : Event) (seat : Seat) →
    ((c : ℕ) → c % seats ≡ j → account_of c (events ++ e ∷ []) ≡ account_of c events) →
    IsSeatAt place lanes seats j events seat → IsSeatAt place lanes seats j (events ++ e ∷ []) seat
seat_stays place lanes seats j events e seat same h = record {
  number = h.number;
  to_come = λ c its le. same c its ∙ h.to_come c its le;
  only = λ c its present. h.only c its (subst (λ (a : Account). IsPresent a) (same c its) present);
  sits = λ taken. subst (λ (a : Account). Sits place lanes a seat) (sym (same seat.client h.number)) (h.sits taken);
  empty = h.empty;
}

-- the seat of the client whose event it is
pub seat_moves : (place lanes seats k : ℕ) (events : List Event) (e : Event) (seat new : Seat) →
    ((c : ℕ) → c ≢ seat.client → account_of c (events ++ e ∷ []) ≡ account_of c events) →
    new.client ≡ seat.client → IsTaken seat.standing → IsTaken new.standing →
    Sits place lanes (account_of seat.client (events ++ e ∷ [])) new →
    IsSeatAt place lanes seats k events seat → IsSeatAt place lanes seats k (events ++ e ∷ []) new
seat_moves place lanes seats k events e seat new others client was is sits h = record {
  number = ap (λ (c : ℕ). c % seats) client ∙ h.number;
  to_come = λ c its le.
      others c (omega (arith, le, client, next_taken new.standing new.client is))
      ∙ h.to_come c its (omega (arith, le, client, next_taken new.standing new.client is, next_taken seat.standing seat.client was));
  only = λ c its present.
      elim (eqb_tells c seat.client) [
        | inl same ↦ (same.1 ∙ sym client, is)
        | inr away ↦ absurd (away.1 (h.only c its (subst (λ (a : Account). IsPresent a) (others c away.1) present)).0)
      ];
  sits = λ taken. subst (λ (c : ℕ). Sits place lanes (account_of c (events ++ e ∷ [])) new) (sym client) sits;
  empty = λ no_one. absurd (no_one is);
}
