-- What giving a seat its turn comes to.
use Rattle.std.proofs.Common.{◌≡◌, ◌<◌, ◌≤◌, ◌++◌, ◌∙◌, ◌%◌, ℕ, Bool, true, false, if◌then◌else◌, List, [], ◌∷◌, length, length-set, sym, ap, subst, refl, inl, inr, arith, Option, None, Some, MatchOption}
use Rattle.std.specs.List.{slice_get, Contains}
use Rattle.std.proofs.lemmas.Bool.{lt-ltb}
use Rattle.std.proofs.lemmas.Bool.Decides.{eqb_tells}
use Rattle.frame_link.specs.Frames.{frame}
use Rattle.system_hub.specs.Accounts.{Account, account_of, number_at}
use Rattle.system_hub.specs.Kept.{Kept, Sits, IsKeptOf, MayTurn, HasTurn, IsLaneFor, by_note, by_frame}
use Rattle.system_hub.specs.Calls.{Settles, HasSize, LacksTurn, WantsTurn, WantsNoTurn}
use Rattle.system_hub.specs.Queues.{Queues, lined_up}
use Rattle.system_hub.specs.declared.machine.seat.Route.{Route}
use Rattle.system_hub.specs.declared.machine.seat.Seat.{Seat}
use Rattle.system_hub.proofs.Members.{get_one}
use Rattle.system_hub.proofs.Seats.{well_taken}
use Rattle.system_hub.proofs.Turning.{with_both, filed_joined, has_room, has_no_turn, routed_for}
use Rattle.system_hub.proofs.Calling.{seat_is}

pub settled : (kept : Kept) (k : ℕ) (seat : Seat) → slice_get kept.seats k ≡ Some seat → WantsNoTurn k kept → Settles k kept kept
settled kept k seat at none =
    let own = seat_is (λ s. (size : ℕ) → MayTurn s size → (lane : ℕ) × HasTurn lane s) kept.seats k seat at none in
    record {
      history = λ events filed but. record {
        filed = filed;
        queued = λ j size s found may.
            elim (eqb_tells j k) [
              | inl same ↦
                  let one : seat ≡ s = get_one kept.seats k seat s at (ap (λ (m : ℕ). slice_get kept.seats m) (sym same.1) ∙ found) in
                  let t = own size (subst (λ (x : Seat). MayTurn x size) (sym one) may) in
                  (t.0, subst (λ (x : Seat). HasTurn t.0 x) one t.1)
              | inr away ↦ but j size s found away.1 may
            ];
      };
      size = record { seats = refl; lanes = refl; place = refl };
    }

-- the lane of a seat is one of the lanes
lane_within : (place lanes lane : ℕ) (a : Account) (seat : Seat) → 0 < lanes → IsLaneFor place lanes lane seat → Sits place lanes a seat → lane < lanes
lane_within place lanes lane a seat some for sits =
    let routed = routed_for place lanes lane a seat for sits in
    omega (arith, routed.4)

-- where there is room a turn is behind all others
lines_up : (l : Queues) (client : ℕ) → length l.turns < l.room → lined_up l client ≡ l.turns ++ client ∷ []
lines_up l client lt = ap (λ (b : Bool). if b then l.turns ++ client ∷ [] else l.turns) (lt-ltb (length l.turns) l.room lt)

pub joined_settles : (kept : Kept) (k lane : ℕ) (seat : Seat) (l : Queues) → 0 < length kept.seats → slice_get kept.seats k ≡ Some seat → slice_get kept.lanes lane ≡ Some l →
    WantsTurn k lane kept →
    Settles k kept (with_both kept k (record seat { route = Some (record { lane = lane; queued = true }) }) lane (record l { turns = lined_up l seat.client }))
joined_settles kept k lane seat l some at lane_at wants =
    let new : Seat = record seat { route = Some (record { lane = lane; queued = true }) } in
    let w = seat_is (LacksTurn kept.place (length kept.lanes) lane) kept.seats k seat at wants in
    let taken = well_taken seat.standing w.may.well in
    record {
      history = λ events filed but.
          let absent : Contains l.turns seat.client → ⊥ =
          λ h. has_no_turn kept.place (length kept.lanes) lane seat w.its_lane lane ((filed.noted k lane seat l at lane_at).0 h) in
          let room = has_room events kept lane l k seat some lane_at at taken absent filed in
          subst (λ (t : List ℕ). IsKeptOf events (with_both kept k new lane (record l { turns = t }))) (sym (lines_up l seat.client room))
          (filed_joined events kept lane l k w.size seat lane_at at w.may w.its_lane filed but);
      size = record {
        seats = length-set kept.seats k new;
        lanes = length-set kept.lanes lane (record l { turns = lined_up l seat.client });
        place = refl;
      };
    }

-- that the lane is none of the lanes does not come
pub stray_settles : (kept new : Kept) (k lane : ℕ) (seat : Seat) → 0 < length kept.lanes → slice_get kept.seats k ≡ Some seat → length kept.lanes ≤ lane → WantsTurn k lane kept →
    HasSize (length kept.seats) (length kept.lanes) kept.place new → Settles k kept new
stray_settles kept new k lane seat some at past wants size =
    let w = seat_is (LacksTurn kept.place (length kept.lanes) lane) kept.seats k seat at wants in
    record {
      history = λ events filed but.
          let sits = (filed.seats k seat at).sits (well_taken seat.standing w.may.well) in
          absurd (omega (arith, past, lane_within kept.place (length kept.lanes) lane (account_of seat.client events) seat some w.its_lane sits));
      size = size;
    }

-- the lane whose turns a seat wants
pub wants_none : (kept : Kept) (k : ℕ) (seat : Seat) → slice_get kept.seats k ≡ Some seat → ((size : ℕ) → MayTurn seat size → ⊥) → WantsNoTurn k kept
wants_none kept k seat at unready =
    subst (λ (o : Option Seat). MatchOption o ⊥ (λ s. (size : ℕ) → MayTurn s size → (lane : ℕ) × HasTurn lane s)) (sym at) (λ size may. absurd (unready size may))

pub wants_no_more : (kept : Kept) (k : ℕ) (seat : Seat) (route : Route) → slice_get kept.seats k ≡ Some seat → seat.route ≡ Some route → route.queued ≡ true → WantsNoTurn k kept
wants_no_more kept k seat route at is queued =
    subst (λ (o : Option Seat). MatchOption o ⊥ (λ s. (size : ℕ) → MayTurn s size → (lane : ℕ) × HasTurn lane s)) (sym at)
    (λ size may. (route.lane, is ∙ ap (λ (b : Bool). Some (record route { queued = b })) queued))

pub wants_noted : (kept : Kept) (k size : ℕ) (seat : Seat) (route : Route) → slice_get kept.seats k ≡ Some seat → MayTurn seat size → seat.route ≡ Some route → route.queued ≡ false →
    WantsTurn k route.lane kept
wants_noted kept k size seat route at may is free =
    subst (λ (o : Option Seat). MatchOption o ⊥ (LacksTurn kept.place (length kept.lanes) route.lane)) (sym at)
    (record { size = size; may = may; its_lane = by_note (is ∙ ap (λ (b : Bool). Some (record route { queued = b })) free) })

pub wants_first : (kept : Kept) (k lane size : ℕ) (seat : Seat) (payload rest : List ℕ) → slice_get kept.seats k ≡ Some seat → MayTurn seat size → seat.route ≡ None →
    seat.inbox ≡ frame payload ++ rest → length payload ≡ size → lane ≡ number_at kept.place payload % length kept.lanes → WantsTurn k lane kept
wants_first kept k lane size seat payload rest at may is split len by =
    subst (λ (o : Option Seat). MatchOption o ⊥ (LacksTurn kept.place (length kept.lanes) lane)) (sym at)
    (record { size = size; may = may; its_lane = by_frame payload rest is split (omega (arith, len, may.whole.4)) by })
