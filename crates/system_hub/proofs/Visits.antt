-- What is kept, as clients come and go.
use Rattle.std.proofs.Common.{◌≡◌, ◌≢◌, ◌↔◌, ◌==◌, ◌<◌, ◌++◌, ◌∙◌, ◌⊎◌, ◌+◌, ◌%◌, ℕ, not, List, [], ◌∷◌, length, length-set, length-append, set, sym, ap, subst, refl, inl, inr, arith, Option, Some, MatchOption, get_or}
use Rattle.std.specs.Int.{w32, to_be_bytes}
use Rattle.std.specs.List.{slice_get, Contains, AllPairs, filter}
use Rattle.std.proofs.lemmas.Bool.Decides.{eqb_tells}
use Rattle.std.proofs.lemmas.List.{append-nil, get_or_append_left}
use Rattle.std.proofs.lemmas.List.Elements.{Contains-append_left, Contains-get_or, Contains-push, Contains-push_cases}
use Rattle.std.proofs.lemmas.List.Quantifiers.{all_pairs_push}
use Rattle.frame_link.specs.Frames.{frame}
use Rattle.system_hub.specs.Events.{Event, Opened, Closed}
use Rattle.system_hub.specs.Accounts.{Account, account_of, nothing, IsPresent}
use Rattle.system_hub.specs.Lawful.{IsServed, IsThrough, IsLawful}
use Rattle.system_hub.specs.Kept.{Kept, IsTaken, IsWellStanding, StandsBy, blank, IsRouted, Sits, IsSeatAt, IsLaneAt, AreTurns, IsKeptOf, MayTurn, HasTurn, IsHere, next_number}
use Rattle.system_hub.specs.Calls.{LeavesAs, AreWithout}
use Rattle.system_hub.specs.Queues.{Queues}
use Rattle.system_hub.specs.declared.machine.seat.Route.{Route}
use Rattle.system_hub.specs.declared.machine.seat.Seat.{Seat}
use Rattle.system_hub.specs.declared.machine.seat.Standing.{Standing}
use Rattle.system_hub.specs.declared.machine.seat.Standing.TheVariants.{Free, Open, Ended, Lost, Spent}
use Rattle.system_hub.proofs.Growing.{IsQuiet, IsOf, account_quiet, account_opened, account_closed}
use Rattle.system_hub.proofs.Members.{no_member, get_set_same, get_set_other, get_one, member_cases, apart_head, apart_tail, member_filter, filter_member}
use Rattle.system_hub.proofs.Serving.{served_opened, served_closed, served_nothing}
use Rattle.system_hub.proofs.Seats.{seat_stays, next_taken, stands_present}
use Rattle.system_hub.proofs.Stretches.{lawful_now, turns_without}
use Rattle.system_hub.proofs.Filing.{not_free, here_at, here_from, seat_cases, with_seat, lane_stays, lawful_quiet, queued_all}

-- an empty inbox has no frame
no_whole : (seat : Seat) (size : ℕ) → seat.inbox ≡ [] → MayTurn seat size → ⊥
no_whole seat size none may =
    omega (arith, ap (λ (x : List ℕ). length x) (sym none ∙ may.whole.2), length-append (frame may.whole.0) may.whole.1, length-append (to_be_bytes w32 (length may.whole.0)) may.whole.0)

-- who is new has the first turn of its seat
sits_opened : (place lanes : ℕ) (seat : Seat) → seat ≡ blank seat.client seat.standing →
    Sits place lanes (record nothing { comings = 1 }) (record seat { standing = Open })
sits_opened place lanes seat is = record {
  stands = record { sound = record { present = record { came = refl; stays = refl }; sound = refl }; goes_on = refl };
  bytes = sym (ap (λ (s : Seat). s.inbox) is);
  under_way = omega (arith, ap (λ (s : Seat). s.under_way) is);
  left = λ well. sym (ap (λ (s : Seat). s.outbox) is);
  routed = subst (λ (r : Option Route). IsRouted place lanes (record nothing { comings = 1 }) r) (sym (ap (λ (s : Seat). s.route) is)) refl;
}

free_not_taken : (seat : Seat) → seat.standing ≡ Free → IsTaken seat.standing → ⊥
free_not_taken seat is taken = not_free seat.standing taken is

-- the last of some numbers that are apart
apart_last : (xs : List ℕ) (x : ℕ) → AllPairs (λ a b. a ≢ b) (xs ++ x ∷ []) → Contains xs x → ⊥
apart_last [] x apart h = no_member x h
apart_last (y ∷ xs) x apart h =
    elim (member_cases y xs x h) [
      | inl is ↦ apart_head y (xs ++ x ∷ []) apart (subst (λ (z : ℕ). Contains (xs ++ x ∷ []) z) (sym is) (Contains-push xs x))
      | inr later ↦ apart_last xs x (apart_tail y (xs ++ x ∷ []) apart) later
    ]

apart_front : (xs : List ℕ) (x : ℕ) → AllPairs (λ a b. a ≢ b) (xs ++ x ∷ []) → AllPairs (λ a b. a ≢ b) xs
apart_front xs x apart = λ i j d lt le.
    let more : j < length (xs ++ x ∷ []) = omega (arith, le, length-append xs (x ∷ [])) in
    let same : (m : ℕ) → m < length xs → get_or (xs ++ x ∷ []) m d ≡ get_or xs m d = λ m less. get_or_append_left xs (x ∷ []) d m less in
    λ e. apart i j d lt more (same i (omega arith) ∙ e ∙ sym (same j le))

-- a client gets a free seat
pub kept_opened : (events : List Event) (kept : Kept) (free : List ℕ) (k : ℕ) (seat : Seat) →
    kept.free ≡ free ++ k ∷ [] → slice_get kept.seats k ≡ Some seat → IsKeptOf events kept →
    IsKeptOf (events ++ Opened seat.client ∷ []) (record kept { seats = set kept.seats k (record seat { standing = Open }); free = free })
kept_opened events kept free k seat split at h =
    let filed = h.filed in
    let e : Event = Opened seat.client in
    let new : Seat = record seat { standing = Open } in
    let place = kept.place in
    let lanes = length kept.lanes in
    let n : length (set kept.seats k new) ≡ length kept.seats = length-set kept.seats k new in
    let old = filed.seats k seat at in
    let is_free : seat.standing ≡ Free =
    subst (λ (o : Option Seat). MatchOption o ⊥ (λ s. s.standing ≡ Free)) at
    (filed.free k (subst (λ (l : List ℕ). Contains l k) (sym split) (Contains-push free k))) in
    let no_one : IsTaken seat.standing → ⊥ = free_not_taken seat is_free in
    let is_blank : seat ≡ blank seat.client seat.standing = old.empty no_one in
    let none : account_of seat.client events ≡ nothing =
    old.to_come seat.client old.number (omega (arith, ap {B = ℕ} (λ (s : Standing). next_number s seat.client) is_free)) in
    let own : account_of seat.client (events ++ e ∷ []) ≡ record nothing { comings = 1 } =
    account_opened seat.client events ∙ ap (λ (a : Account). record a { comings = a.comings + 1 }) none in
    let quiet : IsQuiet e = record { clients = λ lane. refl; replies = λ lane. refl } in
    let apart : (x : ℕ) → x ≢ seat.client → IsOf x e → ⊥ = λ x differ same. differ (sym same) in
    let others : (x : ℕ) → x ≢ seat.client → account_of x (events ++ e ∷ []) ≡ account_of x events =
    λ x differ. account_quiet x events e quiet (apart x differ) in
    let empty_place : (x : ℕ) → IsHere kept x → x % length kept.seats ≢ k =
    λ x here is.
    let found = here_at kept x here in
    let one = get_one kept.seats k found.0 seat (ap (λ (m : ℕ). slice_get kept.seats m) (sym is) ∙ found.1) at in
    no_one (subst (λ (s : Seat). IsTaken s.standing) one found.2.taken) in
    record {
      filed = record {
        seats = seat_cases {P = λ j s. IsSeatAt place lanes (length (set kept.seats k new)) j (events ++ e ∷ []) s} kept k new
            (subst (λ (m : ℕ). IsSeatAt place lanes m k (events ++ e ∷ []) new) (sym n) (record {
              number = old.number;
              to_come = λ c its le.
                  others c (omega (arith, le))
                  ∙ old.to_come c its (omega (arith, le, ap {B = ℕ} (λ (s : Standing). next_number s seat.client) is_free));
              only = λ c its present.
                  elim (eqb_tells c seat.client) [
                    | inl same ↦ (same.1, tt)
                    | inr differ ↦ absurd (no_one (old.only c its (subst (λ (a : Account). IsPresent a) (others c differ.1) present)).1)
                  ];
              sits = λ taken. subst (λ (a : Account). Sits place lanes a new) (sym own) (sits_opened place lanes seat is_blank);
              empty = λ no_one_there. absurd (no_one_there tt);
            }))
            (λ j s differ found. subst (λ (m : ℕ). IsSeatAt place lanes m j (events ++ e ∷ []) s) (sym n)
            (seat_stays place lanes (length kept.seats) j events e s
            (λ c its. others c (λ same. differ (sym its ∙ ap (λ (x : ℕ). x % length kept.seats) same ∙ old.number)))
            (filed.seats j s found)));
        lanes = λ lane l found. lane_stays place lanes lane events e l refl refl (filed.lanes lane l found);
        rooms = λ lane l found. filed.rooms lane l found ∙ sym n;
        noted = λ j lane s l found found_lane.
            seat_cases {P = λ j s. Contains l.turns s.client ↔ HasTurn lane s} kept k new (
              λ among. absurd (empty_place seat.client (filed.seated lane seat.client l found_lane among) old.number),
              λ turn. absurd (cc (sym (ap (λ (s : Seat). s.route) is_blank) ∙ turn)),
            )
            (λ j s differ found. filed.noted j lane s l found found_lane) j s found;
        seated = λ lane x l found among.
            let here = filed.seated lane x l found among in
            let was = here_at kept x here in
            here_from (with_seat kept k new) x was.0
            (ap (λ (m : ℕ). slice_get (set kept.seats k new) m) (ap (λ (m : ℕ). x % m) n)
            ∙ get_set_other kept.seats k (x % length kept.seats) new (empty_place x here) ∙ was.1)
            was.2;
        free = λ j among.
            let before : Contains kept.free j = subst (λ (l : List ℕ). Contains l j) (sym split) (Contains-append_left free (k ∷ []) j among) in
            subst (λ (o : Option Seat). MatchOption o ⊥ (λ s. s.standing ≡ Free))
            (sym (get_set_other kept.seats k j new (λ same. apart_last free k (subst (λ (l : List ℕ). AllPairs (λ a b. a ≢ b) l) split filed.apart) (subst (λ (x : ℕ). Contains free x) same among))))
            (filed.free j before);
        apart = apart_front free k (subst (λ (l : List ℕ). AllPairs (λ a b. a ≢ b) l) split filed.apart);
        lawful = lawful_quiet place lanes events e seat.client quiet apart
            (subst (λ (a : Account). IsServed place lanes a) (sym own) (served_opened place lanes nothing 1 (served_nothing place lanes)))
            none filed.lawful;
      };
      queued = queued_all kept k new h.queued (λ size may. absurd (no_whole new size (ap (λ (s : Seat). s.inbox) is_blank) may));
    }

-- who may be let go had a cause
cause : (place lanes : ℕ) (a : Account) (seat : Seat) → Sits place lanes a seat → (s : Standing) → seat.standing ≡ s → LeavesAs s seat →
    (0 < a.failures) ⊎ IsThrough a
cause place lanes a seat sits Free is leaves = absurd leaves
cause place lanes a seat sits Open is leaves =
    let idle = leaves.0 in
    inr (record {
      rest = seat.inbox;
      bytes = sits.bytes;
      no_more = inr leaves.1;
      answered = omega (arith, sits.under_way, idle.answered);
      written = sym (sits.left (subst (λ (t : Standing). IsWellStanding t) (sym is) tt) ∙ ap (λ (x : List ℕ). a.written ++ x) idle.written ∙ append-nil a.written);
    })
cause place lanes a seat sits Ended is leaves =
    let idle = leaves.0 in
    let stands : StandsBy a Ended = subst (λ (t : Standing). StandsBy a t) is sits.stands in
    inr (record {
      rest = seat.inbox;
      bytes = sits.bytes;
      no_more = elim leaves.1 [ inl part ↦ inl (stands.1, part) | inr long ↦ inr long ];
      answered = omega (arith, sits.under_way, idle.answered);
      written = sym (sits.left (subst (λ (t : Standing). IsWellStanding t) (sym is) tt) ∙ ap (λ (x : List ℕ). a.written ++ x) idle.written ∙ append-nil a.written);
    })
cause place lanes a seat sits Lost is leaves =
    let stands : StandsBy a Lost = subst (λ (t : Standing). StandsBy a t) is sits.stands in
    inl stands.1
cause place lanes a seat sits Spent is leaves = absurd leaves

pub leaves_taken : (s : Standing) (seat : Seat) → LeavesAs s seat → IsTaken s
leaves_taken Free seat h = h
leaves_taken Open seat h = tt
leaves_taken Ended seat h = tt
leaves_taken Lost seat h = tt
leaves_taken Spent seat h = h

turns_before : (client : ℕ) (turns old : List ℕ) (x : ℕ) → (turns ≡ old) ⊎ (turns ≡ filter (λ c. not (c == client)) old) → Contains turns x → Contains old x
turns_before client turns old x (inl same) h = subst (λ (t : List ℕ). Contains t x) same h
turns_before client turns old x (inr less) h = (member_filter client old x (subst (λ (t : List ℕ). Contains t x) less h)).0

turns_after : (client : ℕ) (turns old : List ℕ) (x : ℕ) → (turns ≡ old) ⊎ (turns ≡ filter (λ c. not (c == client)) old) → x ≢ client → Contains old x → Contains turns x
turns_after client turns old x (inl same) differ h = subst (λ (t : List ℕ). Contains t x) (sym same) h
turns_after client turns old x (inr less) differ h = subst (λ (t : List ℕ). Contains t x) (sym less) (filter_member client old x h differ)

free_cases : (old free : List ℕ) (k : ℕ) (standing : Standing) (j : ℕ) → ((standing ≡ Free) × (free ≡ old ++ k ∷ [])) ⊎ (free ≡ old) → Contains free j →
    Contains old j ⊎ ((j ≡ k) × (standing ≡ Free))
free_cases old free k standing j (inl more) h =
    elim (Contains-push_cases old k j (subst (λ (t : List ℕ). Contains t j) more.1 h)) [
      | inl before ↦ inl before
      | inr is ↦ inr (sym is, more.0)
    ]
free_cases old free k standing j (inr same) h = inl (subst (λ (t : List ℕ). Contains t j) same h)

free_apart : (old free : List ℕ) (k : ℕ) (standing : Standing) → ((standing ≡ Free) × (free ≡ old ++ k ∷ [])) ⊎ (free ≡ old) →
    AllPairs (λ a b. a ≢ b) old → (Contains old k → ⊥) → AllPairs (λ a b. a ≢ b) free
free_apart old free k standing (inl more) apart new =
    subst (λ (t : List ℕ). AllPairs (λ a b. a ≢ b) t) (sym more.1)
    (all_pairs_push (λ a b. a ≢ b) old k apart (λ i d lt same. new (subst (λ (z : ℕ). Contains old z) same (Contains-get_or old i d lt))))
free_apart old free k standing (inr same) apart new = subst (λ (t : List ℕ). AllPairs (λ a b. a ≢ b) t) (sym same) apart

-- a client is let go, and its seat has another number, or is spent
pub kept_closed : (events : List Event) (kept : Kept) (k client : ℕ) (seat : Seat) (lanes : List Queues) (next : ℕ) (standing : Standing) (free : List ℕ) →
    slice_get kept.seats k ≡ Some seat → seat.client ≡ client → LeavesAs seat.standing seat → AreWithout kept client lanes →
    next % length kept.seats ≡ k → client < next_number standing next → (IsTaken standing → ⊥) →
    ((standing ≡ Free) × (free ≡ kept.free ++ k ∷ [])) ⊎ (free ≡ kept.free) → IsKeptOf events kept →
    IsKeptOf (events ++ Closed client ∷ []) (record kept { seats = set kept.seats k (blank next standing); lanes = lanes; free = free })
kept_closed events kept k client seat lanes next standing free at its leaves without number later no_one freed h =
    let filed = h.filed in
    let e : Event = Closed client in
    let new : Seat = blank next standing in
    let place = kept.place in
    let count = length kept.lanes in
    let n : length (set kept.seats k new) ≡ length kept.seats = length-set kept.seats k new in
    let old = filed.seats k seat at in
    let taken : IsTaken seat.standing = leaves_taken seat.standing seat leaves in
    let sits : Sits place count (account_of client events) seat = subst (λ (c : ℕ). Sits place count (account_of c events) seat) its (old.sits taken) in
    let quiet : IsQuiet e = record { clients = λ lane. refl; replies = λ lane. refl } in
    let apart : (x : ℕ) → x ≢ client → IsOf x e → ⊥ = λ x differ same. differ (sym same) in
    let others : (x : ℕ) → x ≢ client → account_of x (events ++ e ∷ []) ≡ account_of x events =
    λ x differ. account_quiet x events e quiet (apart x differ) in
    let own = account_closed client events in
    let present : IsPresent (account_of client events) = stands_present (account_of client events) seat.standing sits.stands in
    let gone : IsPresent (account_of client (events ++ e ∷ [])) → ⊥ =
    λ p. absurd (omega (arith, p.stays, ap (λ (a : Account). a.leavings) own)) in
    let its_place : client % length kept.seats ≡ k = ap (λ (c : ℕ). c % length kept.seats) (sym its) ∙ old.number in
    -- whoever stands in turns has another seat
    let elsewhere : (x : ℕ) → x ≢ client → IsHere kept x → x % length kept.seats ≢ k =
    λ x differ here is.
    let found = here_at kept x here in
    let one = get_one kept.seats k found.0 seat (ap (λ (m : ℕ). slice_get kept.seats m) (sym is) ∙ found.1) at in
    differ (sym found.2.its ∙ ap (λ (s : Seat). s.client) one ∙ its) in
    let among_old : (lane x : ℕ) (l : Queues) → slice_get lanes lane ≡ Some l → Contains l.turns x → (x ≢ client) × IsHere kept x =
    λ lane x l found among.
    let w = without.each lane l found in (
      λ same. w.5 (subst (λ (c : ℕ). Contains l.turns c) same among),
      filed.seated lane x w.0 w.1 (turns_before client l.turns w.0.turns x w.4 among),
    ) in
    record {
      filed = record {
        seats = subst (λ (c : ℕ). (j : ℕ) (s : Seat) → slice_get (set kept.seats k new) j ≡ Some s → IsSeatAt place c (length (set kept.seats k new)) j (events ++ e ∷ []) s) (sym without.count)
            (seat_cases {P = λ j s. IsSeatAt place count (length (set kept.seats k new)) j (events ++ e ∷ []) s} kept k new
            (subst (λ (m : ℕ). IsSeatAt place count m k (events ++ e ∷ []) new) (sym n) (record {
              number = number;
              to_come = λ c is le.
                  others c (omega (arith, le, later))
                  ∙ old.to_come c is (omega (arith, le, later, its, next_taken seat.standing seat.client taken));
              only = λ c is p.
                  elim (eqb_tells c client) [
                    | inl same ↦ absurd (gone (subst (λ (x : ℕ). IsPresent (account_of x (events ++ e ∷ []))) same.1 p))
                    | inr differ ↦ absurd (differ.1 ((old.only c is (subst (λ (a : Account). IsPresent a) (others c differ.1) p)).0 ∙ its))
                  ];
              sits = λ is. absurd (no_one is);
              empty = λ no. refl;
            }))
            (λ j s differ found. subst (λ (m : ℕ). IsSeatAt place count m j (events ++ e ∷ []) s) (sym n)
            (seat_stays place count (length kept.seats) j events e s
            (λ c is. others c (λ same. differ (sym is ∙ ap (λ (x : ℕ). x % length kept.seats) same ∙ its_place)))
            (filed.seats j s found))));
        lanes = λ lane l found.
            let w = without.each lane l found in
            let was = lane_stays place count lane events e w.0 refl refl (filed.lanes lane w.0 w.1) in
            subst (λ (c : ℕ). IsLaneAt place c lane (events ++ e ∷ []) l) (sym without.count) (record {
              waiting = w.2 ∙ was.waiting;
              turns =
                  elim w.4 [
                    | inl same ↦ subst (λ (t : List ℕ). AreTurns place count lane (events ++ e ∷ []) t) (sym same) was.turns
                    | inr less ↦ subst (λ (t : List ℕ). AreTurns place count lane (events ++ e ∷ []) t) (sym less)
                        (turns_without place count lane client (events ++ e ∷ []) w.0.turns (λ waits. gone waits.sound.present) was.turns)
                  ];
            });
        rooms = λ lane l found. let w = without.each lane l found in w.3 ∙ filed.rooms lane w.0 w.1 ∙ sym n;
        noted = λ j lane s l found found_lane.
            let w = without.each lane l found_lane in
            seat_cases {P = λ j s. Contains l.turns s.client ↔ HasTurn lane s} kept k new (
              λ among.
                  let h = among_old lane next l found_lane among in
                  absurd (elsewhere next h.0 h.1 number),
              λ turn. absurd (cc turn),
            )
            (λ j s differ found.
            let away : s.client ≢ client = λ same. differ (sym (filed.seats j s found).number ∙ ap (λ (c : ℕ). c % length kept.seats) same ∙ its_place) in (
              λ among. (filed.noted j lane s w.0 found w.1).0 (turns_before client l.turns w.0.turns s.client w.4 among),
              λ turn. turns_after client l.turns w.0.turns s.client w.4 away ((filed.noted j lane s w.0 found w.1).1 turn),
            ))
            j s found;
        seated = λ lane x l found among.
            let h = among_old lane x l found among in
            let was = here_at kept x h.1 in
            here_from (with_seat kept k new) x was.0
            (ap (λ (m : ℕ). slice_get (set kept.seats k new) m) (ap (λ (m : ℕ). x % m) n)
            ∙ get_set_other kept.seats k (x % length kept.seats) new (elsewhere x h.0 h.1) ∙ was.1)
            was.2;
        free = λ j among.
            elim (free_cases kept.free free k standing j freed among) [
              | inl before ↦
                  subst (λ (o : Option Seat). MatchOption o ⊥ (λ s. s.standing ≡ Free))
                  (sym (get_set_other kept.seats k j new (λ same.
                  not_free seat.standing taken
                  (subst (λ (o : Option Seat). MatchOption o ⊥ (λ s. s.standing ≡ Free)) (ap (λ (m : ℕ). slice_get kept.seats m) same ∙ at) (filed.free j before)))))
                  (filed.free j before)
              | inr here ↦
                  subst (λ (o : Option Seat). MatchOption o ⊥ (λ s. s.standing ≡ Free))
                  (sym (ap (λ (m : ℕ). slice_get (set kept.seats k new) m) here.0 ∙ get_set_same kept.seats k new seat at)) here.1
            ];
        apart = free_apart kept.free free k standing freed filed.apart
            (λ among. not_free seat.standing taken (subst (λ (o : Option Seat). MatchOption o ⊥ (λ s. s.standing ≡ Free)) at (filed.free k among)));
        lawful = subst (λ (c : ℕ). IsLawful place c (events ++ e ∷ [])) (sym without.count)
            (lawful_quiet place count events e client quiet apart
            (subst (λ (a : Account). IsServed place count a) (sym own)
            (served_closed place count (account_of client events) ((account_of client events).leavings + 1) ((lawful_now place count events filed.lawful).served client)))
            (present, cause place count (account_of client events) seat sits seat.standing refl leaves)
            filed.lawful);
      };
      queued = queued_all kept k new h.queued (λ size may. absurd (no_whole new size refl may));
    }
