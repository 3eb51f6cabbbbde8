-- What comes of the first in the turns of a lane.
use Rattle.std.proofs.Common.{◌≡◌, ◌<◌, ◌++◌, ◌∙◌, ◌+◌, ◌%◌, ℕ, false, List, [], ◌∷◌, length, length-set, drop, sym, ap, subst, refl, arith, Option, None, Some, MatchOption}
use Rattle.std.specs.List.{slice_get, Contains}
use Rattle.std.proofs.lemmas.List.{append-nil}
use Rattle.std.proofs.lemmas.Option.{slice_get_within}
use Rattle.frame_link.specs.Frames.{frame}
use Rattle.system_hub.specs.Events.{Event, Took}
use Rattle.system_hub.specs.Accounts.{account_of}
use Rattle.system_hub.specs.Fair.{Waits}
use Rattle.system_hub.specs.Kept.{Kept, IsFiled, IsKeptOf, MayTurn}
use Rattle.system_hub.specs.Calls.{Follows, Settles, HasRoom, NobodyWaits, turns_at, turns_in, IsFirstTurn, HasFirstTurn, IsFirstUnready}
use Rattle.system_hub.specs.Queues.{Queues}
use Rattle.system_hub.specs.declared.machine.limits.TheConstants.{MAX_AT_LANE}
use Rattle.system_hub.specs.declared.machine.seat.Seat.{Seat}
use Rattle.system_hub.proofs.Members.{some_is, no_member, get_one, get_set_same}
use Rattle.system_hub.proofs.Waiting.{waits_among, has_place}
use Rattle.system_hub.proofs.Filing.{queued_but}
use Rattle.system_hub.proofs.Turning.{with_both, first_of, filed_passed, filed_took}
use Rattle.system_hub.proofs.Calling.{settled_size}

-- nothing happened
pub follows_none : (kept : Kept) → Follows kept kept []
follows_none kept = record {
  history = λ events h. subst (λ (l : List Event). IsKeptOf l kept) (sym (append-nil events)) h;
  size = record { seats = refl; lanes = refl; place = refl };
}

-- first nothing, then some events
pub follows_then : (a b c : Kept) (since : List Event) → Follows a b [] → Follows b c since → Follows a c since
follows_then a b c since f g = record {
  history = λ events h. g.history events (subst (λ (l : List Event). IsKeptOf l b) (append-nil events) (f.history events h));
  size = settled_size a b c f.size g.size;
}

-- one event, and then nothing
pub follows_after : (a b c : Kept) (since : List Event) → Follows a b since → Follows b c [] → Follows a c since
follows_after a b c since f g = record {
  history = λ events h. subst (λ (l : List Event). IsKeptOf l c) (append-nil (events ++ since)) (g.history (events ++ since) (f.history events h));
  size = settled_size a b c f.size g.size;
}

-- the first in the turns passes
pub passed_follows : (kept : Kept) (lane k : ℕ) (seat : Seat) (l : Queues) → slice_get kept.seats k ≡ Some seat → slice_get kept.lanes lane ≡ Some l → IsFirstUnready lane kept k →
    Follows kept (with_both kept k (record seat { route = Some (record { lane = lane; queued = false }) }) lane (record l { turns = drop 1 l.turns })) []
passed_follows kept lane k seat l at lane_at unready =
    let t = unready.0 in
    let new : Seat = record seat { route = Some (record { lane = lane; queued = false }) } in
    let same_lane : t.l ≡ l = get_one kept.lanes lane t.l l t.lane_is lane_at in
    let same_seat : t.seat ≡ seat = get_one kept.seats k t.seat seat t.seat_is at in
    let is_first : l.turns ≡ t.client ∷ t.others = ap (λ (q : Queues). q.turns) (sym same_lane) ∙ t.first in
    let rest : drop 1 l.turns ≡ t.others = ap (λ (x : List ℕ). drop 1 x) is_first in
    record {
      history = λ events h.
          subst (λ (x : List Event). IsKeptOf x (with_both kept k new lane (record l { turns = drop 1 l.turns }))) (sym (append-nil events))
          (subst (λ (x : List ℕ). IsKeptOf events (with_both kept k new lane (record l { turns = x }))) (sym rest)
          (filed_passed events kept lane l t.client t.others k seat
          (first_of events kept lane l t.client t.others k seat lane_at is_first t.place_is at h.filed)
          (λ size may. unready.1 size (subst (λ (s : Seat). MayTurn s size) (sym same_seat) may)) h));
      size = record { seats = length-set kept.seats k new; lanes = length-set kept.lanes lane (record l { turns = drop 1 l.turns }); place = refl };
    }

-- a lane that was set has these turns, and waits for as many replies
pub set_turns : (kept : Kept) (k lane : ℕ) (new : Seat) (l queues : Queues) → slice_get kept.lanes lane ≡ Some l → turns_at lane (with_both kept k new lane queues) ≡ queues.turns
set_turns kept k lane new l queues at = ap (λ (o : Option Queues). turns_in o) (get_set_same kept.lanes lane queues l at)

pub fewer_turns : (kept : Kept) (k lane : ℕ) (new : Seat) (l : Queues) → slice_get kept.lanes lane ≡ Some l → IsFirstUnready lane kept k →
    length (turns_at lane (with_both kept k new lane (record l { turns = drop 1 l.turns }))) < length (turns_at lane kept)
fewer_turns kept k lane new l at unready =
    let t = unready.0 in
    let same_lane : t.l ≡ l = get_one kept.lanes lane t.l l t.lane_is at in
    let is_first : l.turns ≡ t.client ∷ t.others = ap (λ (q : Queues). q.turns) (sym same_lane) ∙ t.first in
    omega (
      arith,
      ap (λ (x : List ℕ). length x) (set_turns kept k lane new l (record l { turns = drop 1 l.turns }) at),
      ap (λ (o : Option Queues). length (turns_in o)) at,
      ap (λ (x : List ℕ). length (drop 1 x)) is_first,
      ap (λ (x : List ℕ). length x) is_first,
    )

pub room_kept : (kept : Kept) (k lane : ℕ) (new : Seat) (l : Queues) (turns : List ℕ) → slice_get kept.lanes lane ≡ Some l → HasRoom lane kept →
    HasRoom lane (with_both kept k new lane (record l { turns = turns }))
room_kept kept k lane new l turns at room =
    subst (λ (o : Option Queues). MatchOption o ⊥ (λ q. length q.waiting < MAX_AT_LANE)) (sym (get_set_same kept.lanes lane (record l { turns = turns }) l at))
    (subst (λ (o : Option Queues). MatchOption o ⊥ (λ q. length q.waiting < MAX_AT_LANE)) at room)

-- a list with something at its front, and one without
pub head_of : (xs : List ℕ) (x : ℕ) → slice_get xs 0 ≡ Some x → (rest : List ℕ) × (xs ≡ x ∷ rest)
head_of [] x e = absurd (cc e)
head_of (y ∷ ys) x e = (ys, ap (λ (z : ℕ). z ∷ ys) (some_is e))

pub no_head : (xs : List ℕ) → slice_get xs 0 ≡ None → xs ≡ []
no_head [] e = refl
no_head (y ∷ ys) e = absurd (cc e)

-- the first in the turns, and its seat
abbrev pub first_at : (kept : Kept) (lane k client : ℕ) (seat : Seat) (l : Queues) → slice_get kept.lanes lane ≡ Some l → slice_get l.turns 0 ≡ Some client →
    k ≡ client % length kept.seats → slice_get kept.seats k ≡ Some seat → IsFirstTurn lane kept k
first_at kept lane k client seat l lane_at head place at = record {
  l = l;
  client = client;
  others = (head_of l.turns client head).0;
  seat = seat;
  lane_is = lane_at;
  first = (head_of l.turns client head).1;
  place_is = place;
  seat_is = at;
}

-- with no turns nobody waits
pub nobody_waits : (kept new : Kept) (lane : ℕ) → 0 < length kept.seats → lane < length kept.lanes → Follows kept new [] → turns_at lane new ≡ [] → NobodyWaits lane kept
nobody_waits kept new lane some within follows none = λ events h client waits.
    let now : IsKeptOf events new = subst (λ (l : List Event). IsKeptOf l new) (append-nil events) (follows.history events h) in
    let found = has_place new.lanes lane (omega (arith, follows.size.lanes)) in
    let empty : found.0.turns ≡ [] = sym (ap (λ (o : Option Queues). turns_in o) found.1) ∙ none in
    let w : Waits new.place (length new.lanes) lane (account_of client events) =
    subst (λ (p : ℕ). Waits p (length new.lanes) lane (account_of client events)) (sym follows.size.place)
    (subst (λ (n : ℕ). Waits kept.place n lane (account_of client events)) (sym follows.size.lanes) waits) in
    no_member client (subst (λ (t : List ℕ). Contains t client) empty
    (waits_among events new (omega (arith, follows.size.seats)) now.filed now.queued lane client found.0 found.1 w))

-- the frame of the first is taken
pub took_follows : (kept new : Kept) (lane k size : ℕ) (seat : Seat) (l : Queues) (payload inbox : List ℕ) → 0 < length kept.seats → slice_get kept.seats k ≡ Some seat → slice_get kept.lanes lane ≡ Some l →
    HasFirstTurn lane kept k size → seat.inbox ≡ frame payload ++ inbox → length payload ≡ size →
    Settles k (with_both kept k (record seat { inbox = inbox; under_way = seat.under_way + 1; route = Some (record { lane = lane; queued = false }) })
    lane (record l { turns = drop 1 l.turns; waiting = l.waiting ++ seat.client ∷ [] })) new →
    Follows kept new (Took lane seat.client payload ∷ [])
took_follows kept new lane k size seat l payload inbox some at lane_at ready split len settles =
    let t = ready.0 in
    let mid : Seat = record seat { inbox = inbox; under_way = seat.under_way + 1; route = Some (record { lane = lane; queued = false }) } in
    let queues : Queues = record l { turns = drop 1 l.turns; waiting = l.waiting ++ seat.client ∷ [] } in
    let same_lane : t.l ≡ l = get_one kept.lanes lane t.l l t.lane_is lane_at in
    let same_seat : t.seat ≡ seat = get_one kept.seats k t.seat seat t.seat_is at in
    let may : MayTurn seat size = subst (λ (s : Seat). MayTurn s size) same_seat ready.1 in
    let is_first : l.turns ≡ t.client ∷ t.others = ap (λ (q : Queues). q.turns) (sym same_lane) ∙ t.first in
    let rest : drop 1 l.turns ≡ t.others = ap (λ (x : List ℕ). drop 1 x) is_first in
    record {
      history = λ events h.
          settles.history (events ++ Took lane seat.client payload ∷ [])
          (subst (λ (x : List ℕ). IsFiled (events ++ Took lane seat.client payload ∷ []) (with_both kept k mid lane (record l { turns = x; waiting = l.waiting ++ seat.client ∷ [] }))) (sym rest)
          (filed_took events kept lane l t.client t.others k size seat payload inbox some
          (first_of events kept lane l t.client t.others k seat lane_at is_first t.place_is at h.filed) may split (omega (arith, len, may.whole.4)) h))
          (queued_but kept k mid h.queued);
      size = settled_size kept (with_both kept k mid lane queues) new
          (record { seats = length-set kept.seats k mid; lanes = length-set kept.lanes lane queues; place = refl }) settles.size;
    }

-- the seat of the first that is ready
pub ready_seat : (kept : Kept) (lane k size : ℕ) (seat : Seat) → slice_get kept.seats k ≡ Some seat → HasFirstTurn lane kept k size → MayTurn seat size
ready_seat kept lane k size seat at ready =
    subst (λ (s : Seat). MayTurn s size) (get_one kept.seats k ready.0.seat seat ready.0.seat_is at) ready.1

pub ready_place : (kept : Kept) (lane k size : ℕ) → HasFirstTurn lane kept k size → (k < length kept.seats) × (lane < length kept.lanes)
ready_place kept lane k size ready = (slice_get_within kept.seats k ready.0.seat ready.0.seat_is, slice_get_within kept.lanes lane ready.0.l ready.0.lane_is)

-- the lane has room for its frame
pub ready_room : (kept : Kept) (lane : ℕ) (l : Queues) → slice_get kept.lanes lane ≡ Some l → HasRoom lane kept → length l.waiting < MAX_AT_LANE
ready_room kept lane l at room = subst (λ (o : Option Queues). MatchOption o ⊥ (λ q. length q.waiting < MAX_AT_LANE)) at room
