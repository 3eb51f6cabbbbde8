-- Who has a seat, as one seat changes.
use Rattle.std.proofs.Common.{◌≡◌, ◌≢◌, ◌↔◌, ◌<◌, ◌≤◌, ◌++◌, ◌∙◌, ◌+◌, ◌-◌, ◌%◌, ◌⊎◌, ℕ, List, [], ◌∷◌, length, length-set, length-append, set, sym, ap, subst, refl, inl, inr, arith, append_assoc, Bool, true, false, Option, None, Some, MatchOption}
use Rattle.std.specs.List.{slice_get, Contains}
use Rattle.std.specs.Int.{w32, to_be_bytes}
use Rattle.std.proofs.lemmas.Bool.Decides.{eqb_tells}
use Rattle.std.proofs.lemmas.List.{append-nil, append_cancel_left}
use Rattle.std.proofs.lemmas.List.Elements.{Contains-push}
use Rattle.frame_link.specs.Frames.{framed, IsPart, IsTooLong}
use Rattle.frame_link.specs.declared.service.TheConstants.{MAX_PAYLOAD}
use Rattle.system_hub.specs.Events.{Event, Closed}
use Rattle.system_hub.specs.Accounts.{Account, account_of, IsPresent}
use Rattle.system_hub.specs.Lawful.{IsThrough}
use Rattle.system_hub.specs.Kept.{Kept, IsTaken, IsWellStanding, StandsBy, Sits, IsKeptOf, HasSeat, IsHere, blank}
use Rattle.system_hub.specs.Calls.{Follows, MayLeave, LeavesAs, IsIdle, IsWell, HasLeftTurns}
use Rattle.system_hub.specs.Seating.{IsInService, AreSettled, IsEmpty, HasLeft, LeavesOthers, LeavesAll, Keeps, Seats, but_turn, but_turn_in, KeepsSeats, IsAbout, IsAboutNobody, IsLetGo}
use Rattle.system_hub.specs.declared.machine.seat.Route.{Route}
use Rattle.system_hub.specs.declared.machine.seat.Seat.{Seat}
use Rattle.system_hub.specs.declared.machine.seat.Standing.{Standing}
use Rattle.system_hub.specs.declared.machine.seat.Standing.TheVariants.{Free, Open, Ended, Lost, Spent}
use Rattle.system_hub.proofs.Members.{get_set_same, get_set_other}
use Rattle.system_hub.proofs.Waiting.{has_place}
use Rattle.system_hub.proofs.Filing.{with_seat}
use Rattle.system_hub.proofs.Leaving.{leaving}
use Rattle.system_hub.proofs.Calling.{seat_is, at_place, settled_size}

-- whose seat it is, whatever its turn
to_bare : (c : ℕ) (o : Option Seat) → MatchOption o ⊥ (HasSeat c) → MatchOption (but_turn_in o) ⊥ (HasSeat c)
to_bare c None h = h
to_bare c (Some s) h = record { its = h.its; taken = h.taken }

from_bare : (c : ℕ) (o : Option Seat) → MatchOption (but_turn_in o) ⊥ (HasSeat c) → MatchOption o ⊥ (HasSeat c)
from_bare c None h = h
from_bare c (Some s) h = record { its = h.its; taken = h.taken }

here_same : (a b : Kept) (c : ℕ) → but_turn_in (slice_get a.seats (c % length a.seats)) ≡ but_turn_in (slice_get b.seats (c % length b.seats)) → IsHere a c → IsHere b c
here_same a b c e h =
    from_bare c (slice_get b.seats (c % length b.seats))
    (subst (λ (o : Option Seat). MatchOption o ⊥ (HasSeat c)) e (to_bare c (slice_get a.seats (c % length a.seats)) h))

-- and whether it may leave
abbrev LeavesBy : ℕ → Seat → Type 0
LeavesBy c s = (s.client ≡ c) × LeavesAs s.standing s

bare_leaves : (st : Standing) (s : Seat) → LeavesAs st s → LeavesAs st (but_turn s)
bare_leaves Free s h = h
bare_leaves Open s h = (record { answered = h.0.answered; written = h.0.written }, h.1)
bare_leaves Ended s h = (record { answered = h.0.answered; written = h.0.written }, h.1)
bare_leaves Lost s h = h
bare_leaves Spent s h = h

leaves_bare : (st : Standing) (s : Seat) → LeavesAs st (but_turn s) → LeavesAs st s
leaves_bare Free s h = h
leaves_bare Open s h = (record { answered = h.0.answered; written = h.0.written }, h.1)
leaves_bare Ended s h = (record { answered = h.0.answered; written = h.0.written }, h.1)
leaves_bare Lost s h = h
leaves_bare Spent s h = h

may_to_bare : (c : ℕ) (o : Option Seat) → MatchOption o ⊥ (LeavesBy c) → MatchOption (but_turn_in o) ⊥ (LeavesBy c)
may_to_bare c None h = h
may_to_bare c (Some s) h = (h.0, bare_leaves s.standing s h.1)

may_from_bare : (c : ℕ) (o : Option Seat) → MatchOption (but_turn_in o) ⊥ (LeavesBy c) → MatchOption o ⊥ (LeavesBy c)
may_from_bare c None h = h
may_from_bare c (Some s) h = (h.0, leaves_bare s.standing s h.1)

leave_same : (a b : Kept) (c : ℕ) → but_turn_in (slice_get a.seats (c % length a.seats)) ≡ but_turn_in (slice_get b.seats (c % length b.seats)) → MayLeave a c → MayLeave b c
leave_same a b c e h =
    may_from_bare c (slice_get b.seats (c % length b.seats))
    (subst (λ (o : Option Seat). MatchOption o ⊥ (LeavesBy c)) e (may_to_bare c (slice_get a.seats (c % length a.seats)) h))

-- a seat that is nobody's but this client's
pub record IsNoOthers (client : ℕ) (seat : Seat) : Type 0 where
  pub has : (c : ℕ) → c ≢ client → HasSeat c seat → ⊥
  pub leaves : (c : ℕ) → c ≢ client → LeavesBy c seat → ⊥

pub its_own : (client : ℕ) (seat : Seat) → seat.client ≡ client → IsNoOthers client seat
its_own client seat its = record {
  has = λ c differ h. differ (sym h.its ∙ its);
  leaves = λ c differ h. differ (sym h.0 ∙ its);
}

pub nobodys : (client next : ℕ) (s : Standing) → (IsTaken s → ⊥) → IsNoOthers client (blank next s)
nobodys client next Free none = record { has = λ c differ h. h.taken; leaves = λ c differ h. h.1 }
nobodys client next Open none = absurd (none tt)
nobodys client next Ended none = absurd (none tt)
nobodys client next Lost none = absurd (none tt)
nobodys client next Spent none = record { has = λ c differ h. h.taken; leaves = λ c differ h. h.1 }

no_has_at : (client c : ℕ) (o : Option Seat) (seat : Seat) → IsNoOthers client seat → c ≢ client → but_turn_in o ≡ Some (but_turn seat) → MatchOption o ⊥ (HasSeat c) → ⊥
no_has_at client c o seat alone differ e h =
    alone.has c differ (from_bare c (Some seat) (subst (λ (p : Option Seat). MatchOption p ⊥ (HasSeat c)) e (to_bare c o h)))

no_leave_at : (client c : ℕ) (o : Option Seat) (seat : Seat) → IsNoOthers client seat → c ≢ client → but_turn_in o ≡ Some (but_turn seat) → MatchOption o ⊥ (LeavesBy c) → ⊥
no_leave_at client c o seat alone differ e h =
    alone.leaves c differ (may_from_bare c (Some seat) (subst (λ (p : Option Seat). MatchOption p ⊥ (LeavesBy c)) e (may_to_bare c o h)))

-- where one seat is set, nothing becomes of others
pub about_set : (kept new : Kept) (client k : ℕ) (seat mid : Seat) → k ≡ client % length kept.seats → slice_get kept.seats k ≡ Some seat →
    IsNoOthers client seat → IsNoOthers client mid → length new.seats ≡ length kept.seats →
    ((j : ℕ) → but_turn_in (slice_get new.seats j) ≡ but_turn_in (slice_get (set kept.seats k mid) j)) → IsAbout client kept new
about_set kept new client k seat mid place at old_no new_no n same = λ c differ.
    let its : c % length new.seats ≡ c % length kept.seats = ap (λ (m : ℕ). c % m) n in
    elim (eqb_tells (c % length kept.seats) k) [
      | inl here ↦
          let old_is : but_turn_in (slice_get kept.seats (c % length kept.seats)) ≡ Some (but_turn seat) =
          ap (λ (m : ℕ). but_turn_in (slice_get kept.seats m)) here.1 ∙ ap (λ (o : Option Seat). but_turn_in o) at in
          let new_is : but_turn_in (slice_get new.seats (c % length new.seats)) ≡ Some (but_turn mid) =
          ap (λ (m : ℕ). but_turn_in (slice_get new.seats m)) (its ∙ here.1) ∙ same k ∙ ap (λ (o : Option Seat). but_turn_in o) (get_set_same kept.seats k mid seat at) in (
            (
              λ h. absurd (no_has_at client c (slice_get kept.seats (c % length kept.seats)) seat old_no differ old_is h),
              λ h. absurd (no_has_at client c (slice_get new.seats (c % length new.seats)) mid new_no differ new_is h),
            ),
            λ h. absurd (no_leave_at client c (slice_get new.seats (c % length new.seats)) mid new_no differ new_is h),
          )
      | inr away ↦
          let is : but_turn_in (slice_get new.seats (c % length new.seats)) ≡ but_turn_in (slice_get kept.seats (c % length kept.seats)) =
          ap (λ (m : ℕ). but_turn_in (slice_get new.seats m)) its ∙ same (c % length kept.seats)
          ∙ ap (λ (o : Option Seat). but_turn_in o) (get_set_other kept.seats k (c % length kept.seats) mid away.1) in
          ((here_same kept new c (sym is), here_same new kept c is), leave_same new kept c is)
    ]

-- whose seat was set has it, or not
pub here_set : (kept new : Kept) (client k : ℕ) (seat mid : Seat) → k ≡ client % length kept.seats → slice_get kept.seats k ≡ Some seat →
    length new.seats ≡ length kept.seats →
    ((j : ℕ) → but_turn_in (slice_get new.seats j) ≡ but_turn_in (slice_get (set kept.seats k mid) j)) →
    but_turn_in (slice_get new.seats (client % length new.seats)) ≡ Some (but_turn mid)
here_set kept new client k seat mid place at n same =
    ap (λ (m : ℕ). but_turn_in (slice_get new.seats (client % m))) n ∙ ap (λ (m : ℕ). but_turn_in (slice_get new.seats m)) (sym place)
    ∙ same k ∙ ap (λ (o : Option Seat). but_turn_in o) (get_set_same kept.seats k mid seat at)

pub is_here_by : (new : Kept) (client : ℕ) (mid : Seat) → but_turn_in (slice_get new.seats (client % length new.seats)) ≡ Some (but_turn mid) → HasSeat client mid → IsHere new client
is_here_by new client mid is has =
    from_bare client (slice_get new.seats (client % length new.seats))
    (subst (λ (o : Option Seat). MatchOption o ⊥ (HasSeat client)) (sym is) (record { its = has.its; taken = has.taken }))

pub was_here_by : (new : Kept) (client : ℕ) (mid : Seat) → but_turn_in (slice_get new.seats (client % length new.seats)) ≡ Some (but_turn mid) → IsHere new client → HasSeat client mid
was_here_by new client mid is h =
    from_bare client (Some mid)
    (subst (λ (o : Option Seat). MatchOption o ⊥ (HasSeat client)) is (to_bare client (slice_get new.seats (client % length new.seats)) h))

pub may_by : (new : Kept) (client : ℕ) (mid : Seat) → but_turn_in (slice_get new.seats (client % length new.seats)) ≡ Some (but_turn mid) → (mid.client ≡ client) × LeavesAs mid.standing mid → MayLeave new client
may_by new client mid is has =
    may_from_bare client (slice_get new.seats (client % length new.seats))
    (subst (λ (o : Option Seat). MatchOption o ⊥ (LeavesBy client)) (sym is) (may_to_bare client (Some mid) has))

pub may_was_by : (new : Kept) (client : ℕ) (mid : Seat) → but_turn_in (slice_get new.seats (client % length new.seats)) ≡ Some (but_turn mid) → MayLeave new client → (mid.client ≡ client) × LeavesAs mid.standing mid
may_was_by new client mid is h =
    may_from_bare client (Some mid)
    (subst (λ (o : Option Seat). MatchOption o ⊥ (LeavesBy client)) is (may_to_bare client (slice_get new.seats (client % length new.seats)) h))

-- what becomes of who has a seat that is set to one of its own
pub set_about : (kept new : Kept) (client k : ℕ) (seat mid : Seat) → k ≡ client % length kept.seats → slice_get kept.seats k ≡ Some seat → IsHere kept client →
    mid.client ≡ seat.client → length new.seats ≡ length (set kept.seats k mid) → KeepsSeats (with_seat kept k mid) new → IsAbout client kept new
set_about kept new client k seat mid place at here same n keeps =
    let has = seat_is (HasSeat client) kept.seats (client % length kept.seats) seat (at_place kept client k seat place at) here in
    about_set kept new client k seat mid place at (its_own client seat has.its) (its_own client mid (same ∙ has.its)) (n ∙ length-set kept.seats k mid) keeps

pub set_here : (kept new : Kept) (client k : ℕ) (seat mid : Seat) → k ≡ client % length kept.seats → slice_get kept.seats k ≡ Some seat → IsHere kept client →
    mid.client ≡ seat.client → length new.seats ≡ length (set kept.seats k mid) → KeepsSeats (with_seat kept k mid) new → IsTaken mid.standing → IsHere new client
set_here kept new client k seat mid place at here same n keeps taken =
    let has = seat_is (HasSeat client) kept.seats (client % length kept.seats) seat (at_place kept client k seat place at) here in
    is_here_by new client mid (here_set kept new client k seat mid place at (n ∙ length-set kept.seats k mid) keeps) (record { its = same ∙ has.its; taken = taken })

pub set_may : (kept new : Kept) (client k : ℕ) (seat mid : Seat) → k ≡ client % length kept.seats → slice_get kept.seats k ≡ Some seat → IsHere kept client →
    mid.client ≡ seat.client → length new.seats ≡ length (set kept.seats k mid) → KeepsSeats (with_seat kept k mid) new → LeavesAs mid.standing mid → MayLeave new client
set_may kept new client k seat mid place at here same n keeps leaves =
    let has = seat_is (HasSeat client) kept.seats (client % length kept.seats) seat (at_place kept client k seat place at) here in
    may_by new client mid (here_set kept new client k seat mid place at (n ∙ length-set kept.seats k mid) keeps) (same ∙ has.its, leaves)

pub set_may_was : (kept new : Kept) (client k : ℕ) (seat mid : Seat) → k ≡ client % length kept.seats → slice_get kept.seats k ≡ Some seat →
    length new.seats ≡ length (set kept.seats k mid) → KeepsSeats (with_seat kept k mid) new → MayLeave new client → LeavesAs mid.standing mid
set_may_was kept new client k seat mid place at n keeps may =
    (may_was_by new client mid (here_set kept new client k seat mid place at (n ∙ length-set kept.seats k mid) keeps) may).1

-- who has frames under way or bytes left to write does not leave, unless it failed
not_idle : (st : Standing) (s : Seat) → IsWellStanding st → LeavesAs st s → IsIdle s
not_idle Free s well h = absurd well
not_idle Open s well h = h.0
not_idle Ended s well h = h.0
not_idle Lost s well h = absurd well
not_idle Spent s well h = absurd well

pub busy_stays : (s : Seat) → IsWellStanding s.standing → (IsIdle s → ⊥) → LeavesAs s.standing s → ⊥
busy_stays s well busy h = busy (not_idle s.standing s well h)

-- who sits and is not well may leave
pub lost_leaves : (st : Standing) (s : Seat) → IsTaken st → (IsWellStanding st → ⊥) → LeavesAs st s
lost_leaves Free s taken unwell = taken
lost_leaves Open s taken unwell = absurd (unwell tt)
lost_leaves Ended s taken unwell = absurd (unwell tt)
lost_leaves Lost s taken unwell = tt
lost_leaves Spent s taken unwell = taken

-- A seat is set to one of the same client that stands as it did, and leaves only where it left: so nobody comes or goes.
pub nobody_moves : (kept new : Kept) (k : ℕ) (seat mid : Seat) → slice_get kept.seats k ≡ Some seat → mid.client ≡ seat.client → mid.standing ≡ seat.standing →
    (LeavesAs mid.standing mid → LeavesAs seat.standing seat) → length new.seats ≡ length (set kept.seats k mid) → KeepsSeats (with_seat kept k mid) new → IsAboutNobody kept new
nobody_moves kept new k seat mid at same stands leaves size keeps = λ c.
    let n : length new.seats ≡ length kept.seats = size ∙ length-set kept.seats k mid in
    let its : c % length new.seats ≡ c % length kept.seats = ap (λ (m : ℕ). c % m) n in
    elim (eqb_tells (c % length kept.seats) k) [
      | inl here ↦
          let old_is : slice_get kept.seats (c % length kept.seats) ≡ Some seat = ap (λ (m : ℕ). slice_get kept.seats m) here.1 ∙ at in
          let new_is : but_turn_in (slice_get new.seats (c % length new.seats)) ≡ Some (but_turn mid) =
          ap (λ (m : ℕ). but_turn_in (slice_get new.seats m)) (its ∙ here.1) ∙ keeps k ∙ ap (λ (o : Option Seat). but_turn_in o) (get_set_same kept.seats k mid seat at) in
          let old_has : (HasSeat c seat → IsHere kept c) × (IsHere kept c → HasSeat c seat) = (
            λ h. subst (λ (o : Option Seat). MatchOption o ⊥ (HasSeat c)) (sym old_is) h,
            λ h. subst (λ (o : Option Seat). MatchOption o ⊥ (HasSeat c)) old_is h,
          ) in (
            (
              λ h.
                  let has = old_has.1 h in
                  from_bare c (slice_get new.seats (c % length new.seats)) (subst (λ (o : Option Seat). MatchOption o ⊥ (HasSeat c)) (sym new_is)
                  (record { its = same ∙ has.its; taken = subst (λ (s : Standing). IsTaken s) (sym stands) has.taken })),
              λ h.
                  let has = subst (λ (o : Option Seat). MatchOption o ⊥ (HasSeat c)) new_is (to_bare c (slice_get new.seats (c % length new.seats)) h) in
                  old_has.0 (record { its = sym same ∙ has.its; taken = subst (λ (s : Standing). IsTaken s) stands has.taken }),
            ),
            λ may.
                let left = may_from_bare c (Some mid) (subst (λ (o : Option Seat). MatchOption o ⊥ (LeavesBy c)) new_is (may_to_bare c (slice_get new.seats (c % length new.seats)) may)) in
                subst (λ (o : Option Seat). MatchOption o ⊥ (LeavesBy c)) (sym old_is) (sym same ∙ left.0, leaves left.1),
          )
      | inr away ↦
          let is : but_turn_in (slice_get new.seats (c % length new.seats)) ≡ but_turn_in (slice_get kept.seats (c % length kept.seats)) =
          ap (λ (m : ℕ). but_turn_in (slice_get new.seats m)) its ∙ keeps (c % length kept.seats)
          ∙ ap (λ (o : Option Seat). but_turn_in o) (get_set_other kept.seats k (c % length kept.seats) mid away.1) in
          ((here_same kept new c (sym is), here_same new kept c is), leave_same new kept c is)
    ]

pub nobody_then : (old mid new : Kept) → IsAboutNobody old mid → IsAboutNobody mid new → IsAboutNobody old new
nobody_then old mid new a b = λ c. let one = a c in let two = b c in ((λ h. two.0.0 (one.0.0 h), λ h. one.0.1 (two.0.1 h)), λ h. one.1 (two.1 h))

pub leaves_all : (old new : Kept) → IsAboutNobody old new → LeavesAll old new
leaves_all old new a = record { all = λ c. (a c).0; settled = λ settled c may. settled c ((a c).1 may) }

-- a seat with another turn
pub turned : (xs : List Seat) (k : ℕ) (seat : Seat) (route : Option Route) → slice_get xs k ≡ Some seat →
    (j : ℕ) → but_turn_in (slice_get (set xs k (record seat { route = route })) j) ≡ but_turn_in (slice_get xs j)
turned xs k seat route at j =
    elim (eqb_tells j k) [
      | inl same ↦
          ap (λ (m : ℕ). but_turn_in (slice_get (set xs k (record seat { route = route })) m)) same.1
          ∙ ap (λ (o : Option Seat). but_turn_in o) (get_set_same xs k (record seat { route = route }) seat at ∙ sym (ap (λ (o : Option Seat). o) refl))
          ∙ sym (ap (λ (o : Option Seat). but_turn_in o) at)
          ∙ ap (λ (m : ℕ). but_turn_in (slice_get xs m)) (sym same.1)
      | inr away ↦ ap (λ (o : Option Seat). but_turn_in o) (get_set_other xs k j (record seat { route = route }) away.1)
    ]

pub all_here : (old new : Kept) → length new.seats ≡ length old.seats → KeepsSeats old new → (c : ℕ) → (IsHere old c ↔ IsHere new c) × (MayLeave new c → MayLeave old c)
all_here old new n same = λ c.
    let is : but_turn_in (slice_get new.seats (c % length new.seats)) ≡ but_turn_in (slice_get old.seats (c % length old.seats)) =
    ap (λ (m : ℕ). but_turn_in (slice_get new.seats (c % m))) n ∙ same (c % length old.seats) in
    ((here_same old new c (sym is), here_same new old c is), leave_same new old c is)

-- whose seat it is has taken it
pub taken_at : (kept : Kept) (client k : ℕ) (seat : Seat) → k ≡ client % length kept.seats → slice_get kept.seats k ≡ Some seat → IsHere kept client → IsTaken seat.standing
taken_at kept client k seat place at here =
    (seat_is (HasSeat client) kept.seats (client % length kept.seats) seat (at_place kept client k seat place at) here).taken

-- one after the other
pub about_then : (client : ℕ) (old mid new : Kept) → IsAbout client old mid → IsAbout client mid new → IsAbout client old new
about_then client old mid new a b = λ c differ.
    let one = a c differ in
    let two = b c differ in
    ((λ h. two.0.0 (one.0.0 h), λ h. one.0.1 (two.0.1 h)), λ h. one.1 (two.1 h))

leaves_taken_as : (st : Standing) (s : Seat) → LeavesAs st s → IsTaken st
leaves_taken_as Free s h = h
leaves_taken_as Open s h = tt
leaves_taken_as Ended s h = tt
leaves_taken_as Lost s h = tt
leaves_taken_as Spent s h = h

-- who may leave has a seat
pub may_here : (kept : Kept) (client : ℕ) → MayLeave kept client → IsHere kept client
may_here kept client h = go (slice_get kept.seats (client % length kept.seats)) h
  where
    go : (o : Option Seat) → MatchOption o ⊥ (LeavesBy client) → MatchOption o ⊥ (HasSeat client)
    go None h = h
    go (Some s) h = record { its = h.0; taken = leaves_taken_as s.standing s h.1 }

-- where this client may not leave, nobody may
pub leaves_others : (client : ℕ) (old new : Kept) → IsAbout client old new → (MayLeave new client → ⊥) → LeavesOthers client old new
leaves_others client old new about none = record {
  others = λ c differ. (about c differ).0;
  settled = λ settled c may.
      elim (eqb_tells c client) [
        | inl same ↦ none (subst (λ (x : ℕ). MayLeave new x) same.1 may)
        | inr away ↦ settled c ((about c away.1).1 may)
      ];
}

pub gone_others : (client : ℕ) (old new : Kept) → IsAbout client old new → HasLeft client new → LeavesOthers client old new
gone_others client old new about left = leaves_others client old new about (λ may. left (may_here new client may))

-- a reply for a client that keeps its seat
pub for_all : (client : ℕ) (old new : Kept) → IsAbout client old new → IsHere old client → IsHere new client → (MayLeave new client → ⊥) → LeavesAll old new
for_all client old new about was is none = record {
  all = λ c.
      elim (eqb_tells c client) [
        | inl same ↦ subst (λ (x : ℕ). IsHere old x ↔ IsHere new x) (sym same.1) (λ h. is, λ h. was)
        | inr away ↦ (about c away.1).0
      ];
  settled = (leaves_others client old new about none).settled;
}

-- who is let go
pub closed_about : (kept mid : Kept) (client k next : ℕ) (standing : Standing) (seat : Seat) (free : List ℕ) → k ≡ client % length kept.seats → slice_get kept.seats k ≡ Some seat → MayLeave kept client →
    HasLeftTurns client kept mid → (IsTaken standing → ⊥) → IsAbout client kept (record mid { seats = set mid.seats k (blank next standing); free = free })
closed_about kept mid client k next standing seat free place at may left none =
    let b : Seat = blank next standing in
    about_set kept (record mid { seats = set mid.seats k b; free = free }) client k seat b place at (its_own client seat (leaving kept client k seat place at may).0)
    (nobodys client next standing none) (length-set mid.seats k b ∙ ap (λ (l : List Seat). length l) left.seats)
    (λ j. ap (λ (l : List Seat). but_turn_in (slice_get (set l k b) j)) left.seats)

pub closed_left : (kept mid : Kept) (client k next : ℕ) (standing : Standing) (seat : Seat) (free : List ℕ) → k ≡ client % length kept.seats → slice_get kept.seats k ≡ Some seat →
    HasLeftTurns client kept mid → (IsTaken standing → ⊥) → HasLeft client (record mid { seats = set mid.seats k (blank next standing); free = free })
closed_left kept mid client k next standing seat free place at left none = λ h.
    let b : Seat = blank next standing in
    let new : Kept = record mid { seats = set mid.seats k b; free = free } in
    none (was_here_by new client b (here_set kept new client k seat b place at (length-set mid.seats k b ∙ ap (λ (l : List Seat). length l) left.seats)
    (λ j. ap (λ (l : List Seat). but_turn_in (slice_get (set l k b) j)) left.seats)) h).taken

no_word : IsTooLong MAX_PAYLOAD [] → ⊥
no_word long = absurd (omega (arith, ap (λ (l : List ℕ). length l) long.text, length-append (to_be_bytes w32 long.length_word) long.behind))

-- who comes has an empty seat
pub opened_seats : (kept : Kept) (free : List ℕ) (k : ℕ) (seat : Seat) → kept.free ≡ free ++ k ∷ [] → slice_get kept.seats k ≡ Some seat →
    Seats kept (record kept { seats = set kept.seats k (record seat { standing = Open }); free = free }) seat.client
opened_seats kept free k seat split at =
    let mid : Seat = record seat { standing = Open } in
    let new : Kept = record kept { seats = set kept.seats k mid; free = free } in
    let place_of : (events : List Event) → IsKeptOf events kept → k ≡ seat.client % length kept.seats = λ events h. sym (h.filed.seats k seat at).number in
    record {
      here = λ events h. is_here_by new seat.client mid (here_set kept new seat.client k seat mid (place_of events h) at (length-set kept.seats k mid) (λ j. refl)) (record { its = refl; taken = tt });
      others = λ events h.
          let is_free : seat.standing ≡ Free =
          subst (λ (o : Option Seat). MatchOption o ⊥ (λ s. s.standing ≡ Free)) at (h.filed.free k (subst (λ (l : List ℕ). Contains l k) (sym split) (Contains-push free k))) in
          let empty : seat.inbox ≡ [] = ap (λ (s : Seat). s.inbox) ((h.filed.seats k seat at).empty (λ taken. subst (λ (s : Standing). IsTaken s) is_free taken)) in
          leaves_others seat.client kept new
          (about_set kept new seat.client k seat mid (place_of events h) at (its_own seat.client seat refl) (its_own seat.client mid refl) (length-set kept.seats k mid) (λ j. refl))
          (λ may.
          let long = (may_was_by new seat.client mid (here_set kept new seat.client k seat mid (place_of events h) at (length-set kept.seats k mid) (λ j. refl)) may).1.1 in
          no_word (subst (λ (l : List ℕ). IsTooLong MAX_PAYLOAD l) empty long));
    }

-- some events, and then others
pub follows_on : (a b c : Kept) (first then : List Event) → Follows a b first → Follows b c then → Follows a c (first ++ then)
follows_on a b c first then f g = record {
  history = λ events h. subst (λ (l : List Event). IsKeptOf l c) (append_assoc events first then) (g.history (events ++ first) (f.history events h));
  size = settled_size a b c f.size g.size;
}

-- what letting go comes to
pub let_others : (client : ℕ) (old mid new : Kept) (b : Bool) → IsAbout client old mid → IsLetGo client mid new b → LeavesOthers client old new
let_others client old mid new true about go =
    leaves_others client old new (subst (λ (k : Kept). IsAbout client old k) (sym go.0) about) (subst (λ (k : Kept). MayLeave k client → ⊥) (sym go.0) go.1)
let_others client old mid new false about go = gone_others client old new (about_then client old mid new about go.2) go.3

pub let_keeps : (client : ℕ) (since : List Event) (old mid new : Kept) (b : Bool) → Follows old mid since → IsHere mid client → IsLetGo client mid new b → Keeps client since old new b
let_keeps client since old mid new true follows here go =
    subst (λ (k : Kept). Follows old k since × IsHere k client) (sym go.0) (follows, here)
let_keeps client since old mid new false follows here go = (follows_on old mid new since (Closed client ∷ []) follows go.0, go.3)

-- a seat whose client is through is idle, and has left what its frames leave
idle_by : (place lanes : ℕ) (a : Account) (seat : Seat) → Sits place lanes a seat → IsWellStanding seat.standing → IsThrough a → IsIdle seat
idle_by place lanes a seat sits well through = record {
  answered = omega (arith, sits.under_way, through.answered);
  written = append_cancel_left a.written seat.outbox [] (sym (sits.left well) ∙ sym through.written ∙ sym (append-nil a.written));
}

left_by : (place lanes : ℕ) (a : Account) (seat : Seat) → Sits place lanes a seat → (through : IsThrough a) → through.rest ≡ seat.inbox
left_by place lanes a seat sits through = append_cancel_left (framed a.taken) through.rest seat.inbox (sym through.bytes ∙ sits.bytes)

open_long : (a : Account) (seat : Seat) → a.ends ≡ 0 → {rest : List ℕ} → rest ≡ seat.inbox → (0 < a.ends) × IsPart MAX_PAYLOAD rest ⊎ IsTooLong MAX_PAYLOAD rest → IsTooLong MAX_PAYLOAD seat.inbox
open_long a seat none e (inl h) = absurd (omega (arith, h.0, none))
open_long a seat none e (inr h) = subst (λ (l : List ℕ). IsTooLong MAX_PAYLOAD l) e h

ended_part : (a : Account) (seat : Seat) → {rest : List ℕ} → rest ≡ seat.inbox → (0 < a.ends) × IsPart MAX_PAYLOAD rest ⊎ IsTooLong MAX_PAYLOAD rest →
    IsPart MAX_PAYLOAD seat.inbox ⊎ IsTooLong MAX_PAYLOAD seat.inbox
ended_part a seat e (inl h) = inl (subst (λ (l : List ℕ). IsPart MAX_PAYLOAD l) e h.1)
ended_part a seat e (inr h) = inr (subst (λ (l : List ℕ). IsTooLong MAX_PAYLOAD l) e h)

-- who is here and may not leave is in service
in_service_as : (place lanes : ℕ) (a : Account) (st : Standing) (seat : Seat) → seat.standing ≡ st → Sits place lanes a seat → (LeavesAs st seat → ⊥) → IsInService a
in_service_as place lanes a Free seat is sits stays = absurd (subst (λ (s : Standing). StandsBy a s) is sits.stands)
in_service_as place lanes a Open seat is sits stays =
    let is_open = subst (λ (s : Standing). StandsBy a s) is sits.stands in
    record {
      sound = is_open.sound;
      goes_on = λ through. stays (idle_by place lanes a seat sits (subst (λ (s : Standing). IsWellStanding s) (sym is) tt) through, open_long a seat is_open.goes_on (left_by place lanes a seat sits through) through.no_more);
    }
in_service_as place lanes a Ended seat is sits stays =
    let ended = subst (λ (s : Standing). StandsBy a s) is sits.stands in
    record {
      sound = ended.0;
      goes_on = λ through. stays (idle_by place lanes a seat sits (subst (λ (s : Standing). IsWellStanding s) (sym is) tt) through, ended_part a seat (left_by place lanes a seat sits through) through.no_more);
    }
in_service_as place lanes a Lost seat is sits stays = absurd (stays tt)
in_service_as place lanes a Spent seat is sits stays = absurd (subst (λ (s : Standing). StandsBy a s) is sits.stands)

pub in_service : (events : List Event) (kept : Kept) (client : ℕ) → 0 < length kept.seats → IsKeptOf events kept → AreSettled kept → IsPresent (account_of client events) → IsInService (account_of client events)
in_service events kept client some h settled present =
    let k : ℕ = client % length kept.seats in
    let found = has_place kept.seats k (omega (arith, some)) in
    let seat : Seat = found.0 in
    let at : slice_get kept.seats k ≡ Some seat = found.1 in
    let one = h.filed.seats k seat at in
    let its = one.only client refl present in
    let sits = subst (λ (c : ℕ). Sits kept.place (length kept.lanes) (account_of c events) seat) (sym its.0) (one.sits its.1) in
    in_service_as kept.place (length kept.lanes) (account_of client events) seat.standing seat refl sits
    (λ leaves. settled client (subst (λ (o : Option Seat). MatchOption o ⊥ (LeavesBy client)) (sym at) (sym its.0, leaves)))

-- whose seat is taken is well, or may leave
well_or_leaves : (st : Standing) (s : Seat) → IsTaken st → IsWellStanding st ⊎ LeavesAs st s
well_or_leaves Free s taken = inr taken
well_or_leaves Open s taken = inl tt
well_or_leaves Ended s taken = inl tt
well_or_leaves Lost s taken = inr tt
well_or_leaves Spent s taken = inr taken

pub nobody_sits : (events : List Event) (kept : Kept) → IsKeptOf events kept → AreSettled kept → ((client : ℕ) → IsWell kept client → ⊥) → IsEmpty kept
nobody_sits events kept h settled nobody = λ k seat at taken.
    let there : slice_get kept.seats (seat.client % length kept.seats) ≡ Some seat = ap (λ (m : ℕ). slice_get kept.seats m) (h.filed.seats k seat at).number ∙ at in
    elim (well_or_leaves seat.standing seat taken) [
      | inl well ↦ nobody seat.client (subst (λ (o : Option Seat). MatchOption o ⊥ (λ s. (s.client ≡ seat.client) × IsWellStanding s.standing)) (sym there) (refl, well))
      | inr leaves ↦ settled seat.client (subst (λ (o : Option Seat). MatchOption o ⊥ (LeavesBy seat.client)) (sym there) (refl, leaves))
    ]

-- one call after another
pub others_then : (client : ℕ) (old mid new : Kept) → LeavesOthers client old mid → LeavesOthers client mid new → LeavesOthers client old new
others_then client old mid new a b = record {
  others = λ c differ. (λ h. (b.others c differ).0 ((a.others c differ).0 h), λ h. (a.others c differ).1 ((b.others c differ).1 h));
  settled = λ settled. b.settled (a.settled settled);
}

pub others_none : (client : ℕ) (kept : Kept) → LeavesOthers client kept kept
others_none client kept = record { others = λ c differ. (λ h. h, λ h. h); settled = λ settled. settled }
