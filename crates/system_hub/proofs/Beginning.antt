-- A hub at its begin.
use Rattle.std.proofs.Common.{◌≡◌, ◌≢◌, ◌<◌, ◌++◌, ◌∙◌, ◌+◌, ◌%◌, ℕ, zero, suc, List, [], ◌∷◌, length, replicate, sym, ap, subst, refl, arith, Option, Some, MatchOption, All}
use Rattle.std.specs.List.{slice_get, Contains, AllPairs, range_with_len}
use Rattle.std.proofs.Math.Nat.{mod-eq_of_lt}
use Rattle.std.proofs.lemmas.List.{length-replicate}
use Rattle.std.proofs.lemmas.Option.{slice_get_within}
use Rattle.std.proofs.lemmas.List.FromFn.{length-range_with_len, get_or-range_with_len}
use Rattle.system_hub.specs.Events.{Event}
use Rattle.system_hub.specs.Accounts.{Account}
use Rattle.system_hub.specs.Lanes.{turns_of}
use Rattle.system_hub.specs.Lawful.{IsServed, IsLawfulNow}
use Rattle.system_hub.specs.Kept.{IsTaken, blank, AreTurns, IsLaneAt, IsKeptOf, IsWellStanding, MayTurn}
use Rattle.system_hub.specs.Calls.{HasSize}
use Rattle.system_hub.specs.Queues.{Queues}
use Rattle.system_hub.specs.declared.machine.seat.Seat.{Seat}
use Rattle.system_hub.specs.declared.machine.seat.Standing.{Standing}
use Rattle.system_hub.specs.declared.machine.seat.Standing.TheVariants.{Free}
use Rattle.system_hub.proofs.Answered.{account_none}
use Rattle.system_hub.proofs.Members.{some_is, no_member}
use Rattle.system_hub.proofs.Serving.{served_nothing}
use Rattle.system_hub.proofs.Waiting.{has_place}

-- no events end with an event, and their parts are none
nothing_before : (before : List Event) (event : Event) → [] ≡ before ++ event ∷ [] → ⊥
nothing_before [] event e = absurd (cc e)
nothing_before (b ∷ before) event e = absurd (cc e)

no_parts : (before during : List Event) → [] ≡ before ++ during → (before ≡ []) × (during ≡ [])
no_parts [] during e = (refl, sym e)
no_parts (b ∷ before) during e = absurd (cc e)

each_same : {X : Type 0} (n : ℕ) (x y : X) (k : ℕ) → slice_get (replicate n x) k ≡ Some y → y ≡ x
each_same zero x y k e = absurd (cc e)
each_same (suc n) x y zero e = sym (some_is e)
each_same (suc n) x y (suc k) e = each_same n x y k e

no_split : (front behind : List ℕ) (client : ℕ) → [] ≡ front ++ client ∷ behind → ⊥
no_split [] behind client e = absurd (cc e)
no_split (f ∷ front) behind client e = absurd (cc e)

no_turns_yet : (place lanes lane : ℕ) → AreTurns place lanes lane [] []
no_turns_yet place lanes lane = record {
  apart = λ i j d lt le. absurd (omega arith);
  ahead = λ before during front behind client other eq waits split front_of. absurd (no_split front behind client split);
  out = λ before during client other eq waits absent. ap (λ (l : List Event). turns_of other lane l) (no_parts before during eq).1;
}

lawful_yet : (place lanes : ℕ) → IsLawfulNow place lanes []
lawful_yet place lanes = record {
  served = λ client. subst (λ (a : Account). IsServed place lanes a) (sym (account_none client)) (served_nothing place lanes);
  answered = λ lane. omega arith;
  fair = λ before during lane client other eq waits. omega (arith, ap (λ (l : List Event). turns_of other lane l) (no_parts before during eq).1);
  latest = λ before event eq. absurd (nothing_before before event eq);
}

no_frame_in : (seat : Seat) (k size : ℕ) → seat ≡ blank k Free → MayTurn seat size → ⊥
no_frame_in seat k size is may = absurd (subst (λ (s : Seat). IsWellStanding s.standing) is may.well)

free_place : (n k : ℕ) → Contains (range_with_len 0 n) k → k < n
free_place n k h =
    let lt : h.0 < n = omega (arith, h.1, length-range_with_len 0 n) in
    omega (arith, lt, get_or-range_with_len 0 n h.0 k lt, h.2)

free_apart_yet : (n : ℕ) → AllPairs (λ a b. a ≢ b) (range_with_len 0 n)
free_apart_yet n = λ i j d lt le.
    let more : j < n = omega (arith, le, length-range_with_len 0 n) in
    λ e. absurd (omega (arith, lt, e, get_or-range_with_len 0 n i d (omega arith), get_or-range_with_len 0 n j d more))

pub kept_new : (seats : List Seat) (lanes place : ℕ) → ((k : ℕ) (seat : Seat) → slice_get seats k ≡ Some seat → seat ≡ blank k Free) →
    IsKeptOf [] (record {
      seats = seats;
      lanes = replicate lanes (record { waiting = []; turns = []; room = length seats });
      free = range_with_len 0 (length seats);
      place = place;
    })
kept_new seats lanes place each =
    let empty : Queues = record { waiting = []; turns = []; room = length seats } in
    let count = length (replicate lanes empty) in
    record {
      filed = record {
        seats = λ k seat at.
            let is = each k seat at in
            let is_free : seat.standing ≡ Free = ap (λ (s : Seat). s.standing) is in
            record {
              number = ap (λ (s : Seat). s.client % length seats) is ∙ mod-eq_of_lt (slice_get_within seats k seat at);
              to_come = λ client its le. account_none client;
              only = λ client its present. absurd (omega (arith, present.came, ap (λ (a : Account). a.comings) (account_none client)));
              sits = λ taken. absurd (subst (λ (s : Standing). IsTaken s) is_free taken);
              empty = λ no_one. is ∙ (λ i. blank (sym (ap (λ (s : Seat). s.client) is) i) (sym is_free i));
            };
        lanes = λ lane l at.
            let is = each_same lanes empty l lane at in
            subst (λ (q : Queues). IsLaneAt place count lane [] q) (sym is) (record {
              waiting = refl;
              turns = no_turns_yet place count lane;
            });
        rooms = λ lane l at. ap (λ (q : Queues). q.room) (each_same lanes empty l lane at);
        noted = λ k lane seat l at lane_at. (
          λ h. absurd (no_member seat.client (subst (λ (q : Queues). Contains q.turns seat.client) (each_same lanes empty l lane lane_at) h)),
          λ turn. absurd (cc (sym (ap (λ (s : Seat). s.route) (each k seat at)) ∙ turn)),
        );
        seated = λ lane client l at h. absurd (no_member client (subst (λ (q : Queues). Contains q.turns client) (each_same lanes empty l lane at) h));
        free = λ k h.
            let found = has_place seats k (free_place (length seats) k h) in
            subst (λ (o : Option Seat). MatchOption o ⊥ (λ s. s.standing ≡ Free)) (sym found.1)
            (ap (λ (s : Seat). s.standing) (each k found.0 found.1));
        apart = free_apart_yet (length seats);
        lawful = λ before after eq. subst (λ (l : List Event). IsLawfulNow place count l) (sym (no_parts before after eq).0) (lawful_yet place count);
      };
      queued = λ k size seat at may. absurd (no_frame_in seat k size (each k seat at) may);
    }

-- one more number
pub range_more : (a n : ℕ) → range_with_len a (suc n) ≡ range_with_len a n ++ (a + n) ∷ []
range_more a zero = ap (λ (x : ℕ). x ∷ []) (omega arith)
range_more a (suc n) =
    ap (λ (l : List ℕ). a ∷ l) (range_more (a + 1) n)
    ∙ ap (λ (x : ℕ). a ∷ (range_with_len (a + 1) n ++ x ∷ [])) (omega arith)

-- each place is one of the seats
pub all_places : (n m : ℕ) → n ≡ m → All (λ p. p < m) (range_with_len 0 n)
all_places n m same = λ k d lt.
    let less : k < n = omega (arith, lt, length-range_with_len 0 n) in
    omega (arith, less, same, get_or-range_with_len 0 n k d less)

-- a hub as it is made
pub kept_made : (seats : List Seat) (lanes : List Queues) (free : List ℕ) (clients count place : ℕ) → length seats ≡ clients →
    ((k : ℕ) (seat : Seat) → slice_get seats k ≡ Some seat → seat ≡ blank k Free) →
    lanes ≡ replicate count (record { waiting = []; turns = []; room = clients }) → free ≡ range_with_len 0 clients →
    IsKeptOf [] (record { seats = seats; lanes = lanes; free = free; place = place })
kept_made seats lanes free clients count place same each all places =
    let made : lanes ≡ replicate count (record { waiting = []; turns = []; room = length seats }) =
    all ∙ ap (λ (n : ℕ). replicate {A = Queues} count (record { waiting = []; turns = []; room = n })) (sym same) in
    let ranged : free ≡ range_with_len 0 (length seats) = places ∙ ap (λ (n : ℕ). range_with_len 0 n) (sym same) in
    subst (λ (l : List Queues). IsKeptOf [] (record { seats = seats; lanes = l; free = free; place = place })) (sym made)
    (subst (λ (f : List ℕ). IsKeptOf [] (record { seats = seats; lanes = replicate count (record { waiting = []; turns = []; room = length seats }); free = f; place = place })) (sym ranged)
    (kept_new seats count place each))

pub size_made : (seats : List Seat) (lanes : List Queues) (free : List ℕ) (clients count place : ℕ) → length seats ≡ clients →
    lanes ≡ replicate count (record { waiting = []; turns = []; room = clients }) → HasSize clients count place (record { seats = seats; lanes = lanes; free = free; place = place })
size_made seats lanes free clients count place same all = record {
  seats = same;
  lanes = ap (λ (l : List Queues). length l) all ∙ length-replicate count (record { waiting = []; turns = []; room = clients });
  place = refl;
}

pub range_next : (n : ℕ) → range_with_len 0 n ++ n ∷ [] ≡ range_with_len 0 (n + 1)
range_next n =
    let last : n ≡ 0 + n = omega arith in
    let next : suc n ≡ n + 1 = omega arith in
    ap (λ (x : ℕ). range_with_len 0 n ++ x ∷ []) last ∙ sym (range_more 0 n) ∙ ap (λ (m : ℕ). range_with_len 0 m) next
