-- What letting a client go comes to.
use Rattle.std.proofs.Common.{◌≡◌, ◌≢◌, ◌==◌, ◌<◌, ◌≤◌, ◌++◌, ◌∙◌, ◌⊎◌, ◌+◌, ◌%◌, ℕ, false, not, List, [], ◌∷◌, length, length-set, set, sym, ap, subst, refl, inl, inr, arith, Option, None, Some, MatchOption, Result, Ok, Err, is_ok, OnErr, if◌then◌else◌}
use Rattle.std.specs.List.{slice_get, Contains, filter}
use Rattle.std.proofs.Math.Nat.{add-mod_right}
use Rattle.std.proofs.lemmas.List.{length_push}
use Rattle.std.proofs.lemmas.List.Elements.{Contains-push_cases, Contains-get_or}
use Rattle.std.proofs.lemmas.List.Quantifiers.{all_pairs_push}
use Rattle.std.proofs.lemmas.Option.{slice_get_within}
use Rattle.system_hub.specs.Events.{Event, Closed}
use Rattle.system_hub.specs.Kept.{Kept, IsTaken, blank, IsFiled, IsKeptOf, HasTurn}
use Rattle.system_hub.specs.Calls.{Follows, HasSize, Opens, MayLeave, LeavesAs, AreWithout, HasLeftTurns, IsForgotten, inbox_in, outbox_in}
use Rattle.system_hub.specs.Queues.{Queues}
use Rattle.system_hub.specs.declared.machine.seat.Route.{Route}
use Rattle.system_hub.specs.declared.machine.seat.Seat.{Seat}
use Rattle.system_hub.specs.declared.machine.seat.Standing.{Standing}
use Rattle.system_hub.specs.declared.machine.seat.Standing.TheVariants.{Free, Open, Spent}
use Rattle.system_hub.proofs.Members.{some_is, get_set_same, member_filter}
use Rattle.system_hub.proofs.Pigeons.{few_below}
use Rattle.system_hub.proofs.Waiting.{has_place}
use Rattle.system_hub.proofs.Filing.{not_free}
use Rattle.system_hub.proofs.Turning.{lane_cases}
use Rattle.system_hub.proofs.Visits.{kept_opened, kept_closed, leaves_taken}
use Rattle.system_hub.proofs.Calling.{seat_is, at_place}

-- who comes gets the last free seat
pub opened_follows : (kept : Kept) (free : List ℕ) (k : ℕ) (seat : Seat) → kept.free ≡ free ++ k ∷ [] → slice_get kept.seats k ≡ Some seat →
    Opens kept (record kept { seats = set kept.seats k (record seat { standing = Open }); free = free }) seat.client
opened_follows kept free k seat split at =
    let new : Seat = record seat { standing = Open } in
    record {
      came = record {
        history = λ events h. kept_opened events kept free k seat split at h;
        size = record { seats = length-set kept.seats k new; lanes = refl; place = refl };
      };
      heard = λ events h.
          let place : seat.client % length (set kept.seats k new) ≡ k =
          ap (λ (n : ℕ). seat.client % n) (length-set kept.seats k new) ∙ (h.filed.seats k seat at).number in
          subst (λ (o : Option Seat). MatchOption o ⊥ (λ s. (s.client ≡ seat.client) × (s.standing ≡ Open)))
          (sym (ap (λ (m : ℕ). slice_get (set kept.seats k new) m) place ∙ get_set_same kept.seats k new seat at)) (refl, refl);
    }

-- the client, by what its seat may do
pub leaving : (kept : Kept) (client k : ℕ) (seat : Seat) → k ≡ client % length kept.seats → slice_get kept.seats k ≡ Some seat → MayLeave kept client →
    (seat.client ≡ client) × LeavesAs seat.standing seat
leaving kept client k seat place at may =
    seat_is (λ s. (s.client ≡ client) × LeavesAs s.standing s) kept.seats (client % length kept.seats) seat (at_place kept client k seat place at) may

-- the lanes as they are, where the client stands in no turns
same_lanes : (kept : Kept) (client : ℕ) → ((lane : ℕ) (l : Queues) → slice_get kept.lanes lane ≡ Some l → Contains l.turns client → ⊥) → AreWithout kept client kept.lanes
same_lanes kept client none = record { count = refl; each = λ lane l at. (l, at, refl, refl, inl refl, none lane l at) }

pub left_none : (kept : Kept) (client k : ℕ) (seat : Seat) → k ≡ client % length kept.seats → slice_get kept.seats k ≡ Some seat → MayLeave kept client →
    ((lane : ℕ) → HasTurn lane seat → ⊥) → HasLeftTurns client kept kept
left_none kept client k seat place at may none =
    let its = (leaving kept client k seat place at may).0 in
    record {
      seats = refl;
      free = refl;
      place = refl;
      count = refl;
      lanes = λ events h. same_lanes kept client (λ lane l lane_at among.
          none lane ((h.filed.noted k lane seat l at lane_at).0 (subst (λ (c : ℕ). Contains l.turns c) (sym its) among)));
    }

pub left_past : (kept : Kept) (client k lane : ℕ) (seat : Seat) → k ≡ client % length kept.seats → slice_get kept.seats k ≡ Some seat → MayLeave kept client →
    HasTurn lane seat → length kept.lanes ≤ lane → HasLeftTurns client kept kept
left_past kept client k lane seat place at may turn past =
    let its = (leaving kept client k seat place at may).0 in
    record {
      seats = refl;
      free = refl;
      place = refl;
      count = refl;
      lanes = λ events h. same_lanes kept client (λ m l lane_at among.
          let there = (h.filed.noted k m seat l at lane_at).0 (subst (λ (c : ℕ). Contains l.turns c) (sym its) among) in
          let same : lane ≡ m = ap (λ (r : Route). r.lane) (some_is (sym turn ∙ there)) in
          absurd (omega (arith, past, same, slice_get_within kept.lanes m l lane_at)));
    }

pub left_turns : (kept : Kept) (client k lane : ℕ) (seat : Seat) (l : Queues) → k ≡ client % length kept.seats → slice_get kept.seats k ≡ Some seat → MayLeave kept client →
    HasTurn lane seat → slice_get kept.lanes lane ≡ Some l →
    HasLeftTurns client kept (record kept { lanes = set kept.lanes lane (record l { turns = filter (λ c. not (c == client)) l.turns }) })
left_turns kept client k lane seat l place at may turn lane_at =
    let its = (leaving kept client k seat place at may).0 in
    let queues : Queues = record l { turns = filter (λ c. not (c == client)) l.turns } in
    record {
      seats = refl;
      free = refl;
      place = refl;
      count = length-set kept.lanes lane queues;
      lanes = λ events h. record {
        count = length-set kept.lanes lane queues;
        each = lane_cases {P = λ m q. (old : Queues) × (slice_get kept.lanes m ≡ Some old) × (q.waiting ≡ old.waiting) × (q.room ≡ old.room)
            × ((q.turns ≡ old.turns) ⊎ (q.turns ≡ filter (λ c. not (c == client)) old.turns)) × (Contains q.turns client → ⊥)} kept.lanes lane queues
            (l, lane_at, refl, refl, inr refl, λ among. (member_filter client l.turns client among).1 refl)
            (λ m q differ found. (
              q,
              found,
              refl,
              refl,
              inl refl,
              λ among.
                  let there = (h.filed.noted k m seat q at found).0 (subst (λ (c : ℕ). Contains q.turns c) (sym its) among) in
                  differ (ap (λ (r : Route). r.lane) (some_is (sym there ∙ turn))),
            ));
      };
    }

-- there is room for one more free place
free_room : (events : List Event) (kept : Kept) (k : ℕ) (seat : Seat) → slice_get kept.seats k ≡ Some seat → IsTaken seat.standing → IsFiled events kept → length kept.free < length kept.seats
free_room events kept k seat at taken filed =
    let is_free : (j : ℕ) → Contains kept.free j → j < length kept.seats = λ j among. place_of (slice_get kept.seats j) j refl (filed.free j among) in
    let absent : Contains kept.free k → ⊥ = λ among.
    not_free seat.standing taken (subst (λ (o : Option Seat). MatchOption o ⊥ (λ s. s.standing ≡ Free)) at (filed.free k among)) in
    let few = few_below (length kept.seats) (kept.free ++ k ∷ [])
    (all_pairs_push (λ a b. a ≢ b) kept.free k filed.apart (λ i d lt same. absent (subst (λ (z : ℕ). Contains kept.free z) same (Contains-get_or kept.free i d lt))))
    (λ x among. elim (Contains-push_cases kept.free k x among) [
      | inl before ↦ is_free x before
      | inr is ↦ subst (λ (z : ℕ). z < length kept.seats) is (slice_get_within kept.seats k seat at)
    ]) in
    omega (arith, few, length_push kept.free k)
  where
    place_of : (o : Option Seat) (j : ℕ) → slice_get kept.seats j ≡ o → MatchOption o ⊥ (λ s. s.standing ≡ Free) → j < length kept.seats
    place_of None j e h = absurd h
    place_of (Some s) j e h = slice_get_within kept.seats j s e

closed_size : (kept mid : Kept) (client k : ℕ) (seat : Seat) (free : List ℕ) → HasLeftTurns client kept mid →
    HasSize (length kept.seats) (length kept.lanes) kept.place (record mid { seats = set mid.seats k seat; free = free })
closed_size kept mid client k seat free left = record {
  seats = length-set mid.seats k seat ∙ ap (λ (l : List Seat). length l) left.seats;
  lanes = left.count;
  place = left.place;
}

closed_kept : (events : List Event) (kept mid : Kept) (client k : ℕ) (seat : Seat) (free : List ℕ) → HasLeftTurns client kept mid →
    IsKeptOf events (record kept { seats = set kept.seats k seat; lanes = mid.lanes; free = free }) → IsKeptOf events (record mid { seats = set mid.seats k seat; free = free })
closed_kept events kept mid client k seat free left h =
    subst (λ (p : ℕ). IsKeptOf events (record { seats = set mid.seats k seat; lanes = mid.lanes; free = free; place = p })) (sym left.place)
    (subst (λ (s : List Seat). IsKeptOf events (record { seats = set s k seat; lanes = mid.lanes; free = free; place = kept.place })) (sym left.seats) h)

-- its seat has the number of its next client
pub closed_follows : (kept mid : Kept) (client k next : ℕ) (seat : Seat) (free : List ℕ) → k ≡ client % length kept.seats → slice_get kept.seats k ≡ Some seat → MayLeave kept client →
    HasLeftTurns client kept mid → 0 < length kept.seats → next ≡ client + length kept.seats →
    (free ≡ kept.free ++ k ∷ []) ⊎ ((free ≡ kept.free) × (length kept.seats ≤ length kept.free)) →
    Follows kept (record mid { seats = set mid.seats k (blank next Free); free = free }) (Closed client ∷ [])
closed_follows kept mid client k next seat free place at may left some later freed =
    let has = leaving kept client k seat place at may in
    let number : next % length kept.seats ≡ k = ap (λ (m : ℕ). m % length kept.seats) later ∙ add-mod_right client (length kept.seats) ∙ sym place in
    record {
      history = λ events h.
          let one_more : free ≡ kept.free ++ k ∷ [] =
          elim freed [
            | inl more ↦ more
            | inr full ↦ absurd (omega (arith, full.1, free_room events kept k seat at (leaves_taken seat.standing seat has.1) h.filed))
          ] in
          closed_kept (events ++ Closed client ∷ []) kept mid client k (blank next Free) free left
          (kept_closed events kept k client seat mid.lanes next Free free at has.0 has.1 (left.lanes events h) number (omega (arith, later)) (λ is. is) (inl (refl, one_more)) h);
      size = closed_size kept mid client k (blank next Free) free left;
    }

-- its seat is spent
pub spent_follows : (kept mid : Kept) (client k : ℕ) (seat : Seat) → k ≡ client % length kept.seats → slice_get kept.seats k ≡ Some seat → MayLeave kept client →
    HasLeftTurns client kept mid → Follows kept (record mid { seats = set mid.seats k (blank client Spent) }) (Closed client ∷ [])
spent_follows kept mid client k seat place at may left =
    let has = leaving kept client k seat place at may in
    record {
      history = λ events h.
          closed_kept (events ++ Closed client ∷ []) kept mid client k (blank client Spent) mid.free left
          (kept_closed events kept k client seat mid.lanes client Spent mid.free at has.0 has.1 (left.lanes events h) (sym place) (omega arith) (λ is. is) (inr left.free) h);
      size = closed_size kept mid client k (blank client Spent) mid.free left;
    }

-- nothing is kept of the client
pub forgotten : (kept mid : Kept) (client k next : ℕ) (standing : Standing) (free : List ℕ) → k ≡ client % length kept.seats → HasLeftTurns client kept mid →
    k < length kept.seats → IsForgotten (record mid { seats = set mid.seats k (blank next standing); free = free }) client
forgotten kept mid client k next standing free place left within =
    let seats : List Seat = set mid.seats k (blank next standing) in
    let n : length seats ≡ length kept.seats = length-set mid.seats k (blank next standing) ∙ ap (λ (l : List Seat). length l) left.seats in
    let found = has_place mid.seats k (omega (arith, ap (λ (l : List Seat). length l) left.seats)) in
    let at : slice_get seats (client % length seats) ≡ Some (blank next standing) =
    ap (λ (m : ℕ). slice_get seats m) (ap (λ (m : ℕ). client % m) n ∙ sym place) ∙ get_set_same mid.seats k (blank next standing) found.0 found.1 in
    record { inbox = ap (λ (o : Option Seat). inbox_in o) at; outbox = ap (λ (o : Option Seat). outbox_in o) at }

-- a seat that is not queued stands in no turns
pub no_turn_there : (seat : Seat) (route : Route) → seat.route ≡ Some route → route.queued ≡ false → (lane : ℕ) → HasTurn lane seat → ⊥
no_turn_there seat route is free lane turn = absurd (cc (sym free ∙ ap (λ (r : Route). r.queued) (some_is (sym is ∙ turn))))

-- what a push gave
pub pushed : {A E : Type 0} (r : Result A E) (old new : List ℕ) (k : ℕ) (P : Type 0) → new ≡ (if is_ok r then old ++ k ∷ [] else old) → OnErr r P →
    (new ≡ old ++ k ∷ []) ⊎ ((new ≡ old) × P)
pushed (Ok x) old new k P e f = inl e
pushed (Err x) old new k P e f = inr (e, f)
