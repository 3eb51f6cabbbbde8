-- What is kept, as turns are given, passed and taken.
use Rattle.std.proofs.Common.{◌≡◌, ◌≢◌, ◌↔◌, ◌<◌, ◌≤◌, ◌++◌, ◌∙◌, ◌+◌, ◌%◌, ℕ, Bool, true, false, List, [], ◌∷◌, length, length-set, length-append, set, drop, map, All, sym, ap, subst, refl, inl, inr, append_assoc, arith, Option, Some}
use Rattle.std.specs.List.{slice_get, Contains, AllPairs}
use Rattle.std.proofs.lemmas.Bool.Decides.{eqb_tells}
use Rattle.std.proofs.lemmas.List.{drop-append-le, length-map, length_push}
use Rattle.std.proofs.lemmas.List.Elements.{All-head, All-push, Contains-append_left, Contains-get_or, Contains-push, Contains-push_cases}
use Rattle.std.proofs.lemmas.List.Quantifiers.{all_pairs_push}
use Rattle.frame_link.specs.Frames.{frame, framed}
use Rattle.frame_link.specs.declared.service.TheConstants.{MAX_PAYLOAD}
use Rattle.system_hub.specs.Events.{Event, Took, client_in, reply_in}
use Rattle.system_hub.specs.Accounts.{Account, account_of}
use Rattle.system_hub.specs.Lanes.{clients_at, replies_at, unanswered}
use Rattle.system_hub.specs.Fair.{Waits}
use Rattle.system_hub.specs.Lawful.{IsServed, IsLawful}
use Rattle.system_hub.specs.Kept.{Kept, IsTaken, IsRouted, Sits, IsSeatAt, IsLaneAt, AreTurns, IsFiled, AreQueuedBut, IsKeptOf, MayTurn, HasTurn, HasSeat, IsHere, IsLaneFor, by_note, by_frame}
use Rattle.system_hub.specs.Queues.{Queues}
use Rattle.system_hub.specs.declared.machine.seat.Route.{Route}
use Rattle.system_hub.specs.declared.machine.seat.Seat.{Seat}
use Rattle.system_hub.proofs.Growing.{grows, adds, stays, only_same, only_other}
use Rattle.system_hub.proofs.Answered.{account_took, account_took_other, account_lengths}
use Rattle.system_hub.proofs.Members.{some_is, get_set_cases, get_one, member_cases, member_first, member_later, apart_head}
use Rattle.system_hub.proofs.Serving.{framed_more, served_took}
use Rattle.system_hub.proofs.Seats.{seat_stays, seat_moves, sits_took, stands_sound, well_taken}
use Rattle.system_hub.proofs.Stretches.{lawful_now, lawful_more, latest_more, fair_took, turns_took, turns_joined, turns_passed}
use Rattle.system_hub.proofs.Waiting.{waits_among, may_turn, lane_of_first}
use Rattle.system_hub.proofs.Pigeons.{few_below, member_map, apart_map}
use Rattle.system_hub.proofs.Filing.{here_at, here_from, here_kept, free_kept, seat_cases, with_seat, lane_stays, queued_all}

-- what is kept, with another seat at one place, and another lane
abbrev pub with_both : Kept → ℕ → Seat → ℕ → Queues → Kept
with_both kept k seat lane l = record kept { seats = set kept.seats k seat; lanes = set kept.lanes lane l }

pub lane_cases : {P : ℕ → Queues → Type 0} (lanes : List Queues) (lane : ℕ) (new : Queues) → P lane new →
    ((m : ℕ) (l : Queues) → m ≢ lane → slice_get lanes m ≡ Some l → P m l) →
    (m : ℕ) (l : Queues) → slice_get (set lanes lane new) m ≡ Some l → P m l
lane_cases {P} lanes lane new own others m l at =
    elim (get_set_cases lanes lane new m l at) [
      | inl h ↦ subst (λ (x : ℕ). P x l) (sym h.0) (subst (λ (x : Queues). P lane x) (sym h.1) own)
      | inr h ↦ others m l h.0 h.1
    ]

-- a seat and a lane among as many as before
pub sized_seat : (kept : Kept) (k : ℕ) (new : Seat) (lane : ℕ) (queues : Queues) (j : ℕ) (s : Seat) (events : List Event) →
    IsSeatAt kept.place (length kept.lanes) (length kept.seats) j events s →
    IsSeatAt kept.place (length (set kept.lanes lane queues)) (length (set kept.seats k new)) j events s
sized_seat kept k new lane queues j s events h =
    subst (λ (m : ℕ). IsSeatAt kept.place m (length (set kept.seats k new)) j events s) (sym (length-set kept.lanes lane queues))
    (subst (λ (n : ℕ). IsSeatAt kept.place (length kept.lanes) n j events s) (sym (length-set kept.seats k new)) h)

pub sized_lane : (kept : Kept) (lane : ℕ) (queues : Queues) (x : ℕ) (q : Queues) (events : List Event) →
    IsLaneAt kept.place (length kept.lanes) x events q → IsLaneAt kept.place (length (set kept.lanes lane queues)) x events q
sized_lane kept lane queues x q events h =
    subst (λ (m : ℕ). IsLaneAt kept.place m x events q) (sym (length-set kept.lanes lane queues)) h

-- the lane of a turn
route_lane : (m lane : ℕ) (b : Bool) → ◌≡◌ {A = Option Route} (Some (record { lane = lane; queued = b })) (Some (record { lane = m; queued = true })) → m ≡ lane
route_lane m lane b e = sym (ap (λ (r : Route). r.lane) (some_is e))

no_turn : (lane m : ℕ) (route : Route) → route ≡ record { lane = lane; queued = false } → Some route ≡ Some (record { lane = m; queued = true }) → ⊥
no_turn lane m route is e = absurd (cc (ap (λ (r : Route). r.queued) (sym is ∙ some_is e)))

-- Who is first in the turns of a lane: its seat, and that it stands there.
pub record IsFirstOf (events : List Event) (kept : Kept) (lane : ℕ) (l : Queues) (client : ℕ) (rest : List ℕ) (k : ℕ) (seat : Seat) : Type 0 where
  pub lane_at : slice_get kept.lanes lane ≡ Some l
  pub first : l.turns ≡ client ∷ rest
  pub seat_at : slice_get kept.seats k ≡ Some seat
  pub its : seat.client ≡ client
  pub taken : IsTaken seat.standing
  pub turn : HasTurn lane seat

pub first_of : (events : List Event) (kept : Kept) (lane : ℕ) (l : Queues) (client : ℕ) (rest : List ℕ) (k : ℕ) (seat : Seat) →
    slice_get kept.lanes lane ≡ Some l → l.turns ≡ client ∷ rest → k ≡ client % length kept.seats → slice_get kept.seats k ≡ Some seat →
    IsFiled events kept → IsFirstOf events kept lane l client rest k seat
first_of events kept lane l client rest k seat lane_at first place seat_at filed =
    let among : Contains l.turns client = subst (λ (t : List ℕ). Contains t client) (sym first) (member_first client rest) in
    let found = here_at kept client (filed.seated lane client l lane_at among) in
    let same : found.0 ≡ seat = get_one kept.seats k found.0 seat (ap (λ (m : ℕ). slice_get kept.seats m) place ∙ found.1) seat_at in
    let has : HasSeat client seat = subst (λ (s : Seat). HasSeat client s) same found.2 in
    record {
      lane_at = lane_at;
      first = first;
      seat_at = seat_at;
      its = has.its;
      taken = has.taken;
      turn = (filed.noted k lane seat l seat_at lane_at).0 (subst (λ (c : ℕ). Contains l.turns c) (sym has.its) among);
    }

-- the first in the turns goes out of them: who stands in which turns then
noted_out : (events : List Event) (kept : Kept) (lane : ℕ) (l : Queues) (client : ℕ) (rest : List ℕ) (k : ℕ) (seat new : Seat) (waiting : List ℕ) →
    IsFirstOf events kept lane l client rest k seat → IsFiled events kept →
    new.client ≡ seat.client → new.route ≡ Some (record { lane = lane; queued = false }) →
    (j m : ℕ) (s : Seat) (q : Queues) → slice_get (set kept.seats k new) j ≡ Some s →
    slice_get (set kept.lanes lane (record l { turns = rest; waiting = waiting })) m ≡ Some q →
    (Contains q.turns s.client ↔ HasTurn m s)
noted_out events kept lane l client rest k seat new waiting f filed same out j m s q at lane_at =
    let turns = (filed.lanes lane l f.lane_at).turns in
    let alone : Contains rest client → ⊥ = apart_head client rest (subst (λ (t : List ℕ). AllPairs (λ a b. a ≢ b) t) f.first turns.apart) in
    let none : (x : ℕ) → HasTurn x new → ⊥ = λ x h. no_turn lane x (record { lane = lane; queued = false }) refl (sym out ∙ h) in
    seat_cases {P = λ j s. Contains q.turns s.client ↔ HasTurn m s} kept k new
    (lane_cases {P = λ m q. Contains q.turns new.client ↔ HasTurn m new} kept.lanes lane (record l { turns = rest; waiting = waiting })
    (λ h. absurd (alone (subst (λ (c : ℕ). Contains rest c) (same ∙ f.its) h)), λ h. absurd (none lane h))
    (λ m q differ found. (
      λ h. absurd (differ (route_lane m lane true
          (sym f.turn ∙ (filed.noted k m seat q f.seat_at found).0 (subst (λ (c : ℕ). Contains q.turns c) same h)))),
      λ h. absurd (none m h),
    ))
    m q lane_at)
    (λ j s differ found.
    lane_cases {P = λ m q. Contains q.turns s.client ↔ HasTurn m s} kept.lanes lane (record l { turns = rest; waiting = waiting }) (
      λ h. (filed.noted j lane s l found f.lane_at).0
          (subst (λ (t : List ℕ). Contains t s.client) (sym f.first) (member_later client rest s.client h)),
      λ h. elim (member_cases client rest s.client (subst (λ (t : List ℕ). Contains t s.client) f.first ((filed.noted j lane s l found f.lane_at).1 h))) [
        | inl is ↦ absurd (differ (sym (filed.seats j s found).number ∙ ap (λ (c : ℕ). c % length kept.seats) (sym is ∙ sym f.its) ∙ (filed.seats k seat f.seat_at).number))
        | inr later ↦ later
      ],
    )
    (λ m q away found_lane. filed.noted j m s q found found_lane)
    m q lane_at)
    j s at

-- and only those who sit
seated_out : (events : List Event) (kept : Kept) (lane : ℕ) (l : Queues) (client : ℕ) (rest : List ℕ) (k : ℕ) (seat new : Seat) (waiting : List ℕ) →
    IsFirstOf events kept lane l client rest k seat → IsFiled events kept → new.client ≡ seat.client → IsTaken new.standing →
    (m x : ℕ) (q : Queues) → slice_get (set kept.lanes lane (record l { turns = rest; waiting = waiting })) m ≡ Some q → Contains q.turns x →
    IsHere (with_both kept k new lane (record l { turns = rest; waiting = waiting })) x
seated_out events kept lane l client rest k seat new waiting f filed same taken m x q lane_at h =
    here_kept kept k seat new f.seat_at same taken x
    (lane_cases {P = λ m q. Contains q.turns x → IsHere kept x} kept.lanes lane (record l { turns = rest; waiting = waiting })
    (λ among. filed.seated lane x l f.lane_at (subst (λ (t : List ℕ). Contains t x) (sym f.first) (member_later client rest x among)))
    (λ m q differ found. filed.seated m x q found)
    m q lane_at h)

-- who may have no turn does not wait
idle_seat : (place lanes lane : ℕ) (a : Account) (seat : Seat) → Sits place lanes a seat → ((size : ℕ) → MayTurn seat size → ⊥) → Waits place lanes lane a → ⊥
idle_seat place lanes lane a seat sits unready w = unready (length w.next) (may_turn place lanes lane a seat sits w)

-- the first in the turns passes, since it is not ready
pub filed_passed : (events : List Event) (kept : Kept) (lane : ℕ) (l : Queues) (client : ℕ) (rest : List ℕ) (k : ℕ) (seat : Seat) →
    IsFirstOf events kept lane l client rest k seat → ((size : ℕ) → MayTurn seat size → ⊥) → IsKeptOf events kept →
    IsKeptOf events (with_both kept k (record seat { route = Some (record { lane = lane; queued = false }) }) lane (record l { turns = rest }))
filed_passed events kept lane l client rest k seat f unready h =
    let filed = h.filed in
    let new : Seat = record seat { route = Some (record { lane = lane; queued = false }) } in
    let queues : Queues = record l { turns = rest } in
    let n : length (set kept.seats k new) ≡ length kept.seats = length-set kept.seats k new in
    let m : length (set kept.lanes lane queues) ≡ length kept.lanes = length-set kept.lanes lane queues in
    let old = filed.seats k seat f.seat_at in
    let sits = old.sits f.taken in
    let routed : IsRouted kept.place (length kept.lanes) (account_of seat.client events) (Some (record { lane = lane; queued = true })) =
    subst (λ (r : Option Route). IsRouted kept.place (length kept.lanes) (account_of seat.client events) r) f.turn sits.routed in
    let idle : Waits kept.place (length kept.lanes) lane (account_of client events) → ⊥ =
    idle_seat kept.place (length kept.lanes) lane (account_of client events) seat
    (subst (λ (c : ℕ). Sits kept.place (length kept.lanes) (account_of c events) seat) f.its sits) unready in
    let sits_new : Sits kept.place (length kept.lanes) (account_of seat.client events) new =
    record { stands = sits.stands; bytes = sits.bytes; under_way = sits.under_way; left = sits.left; routed = routed } in
    record {
      filed = record {
        seats = seat_cases {P = λ j s. IsSeatAt kept.place (length (set kept.lanes lane queues)) (length (set kept.seats k new)) j events s} kept k new
            (sized_seat kept k new lane queues k new events
            (record { number = old.number; to_come = old.to_come; only = old.only; sits = λ taken. sits_new; empty = λ no_one. absurd (no_one f.taken) }))
            (λ j s differ found. sized_seat kept k new lane queues j s events (filed.seats j s found));
        lanes = lane_cases {P = λ x q. IsLaneAt kept.place (length (set kept.lanes lane queues)) x events q} kept.lanes lane queues
            (sized_lane kept lane queues lane queues events (record {
              waiting = (filed.lanes lane l f.lane_at).waiting;
              turns = turns_passed kept.place (length kept.lanes) lane client events rest idle
                  (subst (λ (t : List ℕ). AreTurns kept.place (length kept.lanes) lane events t) f.first (filed.lanes lane l f.lane_at).turns);
            }))
            (λ x q differ found. sized_lane kept lane queues x q events (filed.lanes x q found));
        rooms = λ x q found. lane_cases {P = λ x q. q.room ≡ length (set kept.seats k new)} kept.lanes lane queues
            (filed.rooms lane l f.lane_at ∙ sym n) (λ x q differ found. filed.rooms x q found ∙ sym n) x q found;
        noted = noted_out events kept lane l client rest k seat new l.waiting f filed refl refl;
        seated = λ x y q found among. seated_out events kept lane l client rest k seat new l.waiting f filed refl f.taken x y q found among;
        free = λ j among. free_kept kept k seat new f.seat_at f.taken j (filed.free j among);
        apart = filed.apart;
        lawful = subst (λ (x : ℕ). IsLawful kept.place x events) (sym m) filed.lawful;
      };
      queued = queued_all kept k new h.queued (λ size may. absurd (unready size (record { well = may.well; few = may.few; listens = may.listens; whole = may.whole })));
    }

-- the client that is first and ready waits, with the frame that its seat has first
first_waits : (events : List Event) (kept : Kept) (lane : ℕ) (l : Queues) (client : ℕ) (rest : List ℕ) (k size : ℕ) (seat : Seat) (payload inbox : List ℕ) →
    IsFirstOf events kept lane l client rest k seat → MayTurn seat size → seat.inbox ≡ frame payload ++ inbox → length payload ≤ MAX_PAYLOAD → IsFiled events kept →
    (w : Waits kept.place (length kept.lanes) lane (account_of seat.client events)) × (w.next ≡ payload)
first_waits events kept lane l client rest k size seat payload inbox f may split short filed =
    let a : Account = account_of seat.client events in
    let sits = (filed.seats k seat f.seat_at).sits f.taken in
    let routed : IsRouted kept.place (length kept.lanes) a (Some (record { lane = lane; queued = true })) =
    subst (λ (r : Option Route). IsRouted kept.place (length kept.lanes) a r) f.turn sits.routed in
    let whole : a.received ≡ framed (a.taken ++ payload ∷ []) ++ inbox =
    sits.bytes ∙ ap (λ (x : List ℕ). framed a.taken ++ x) split
    ∙ sym (append_assoc (framed a.taken) (frame payload) inbox)
    ∙ ap (λ (x : List ℕ). x ++ inbox) (sym (framed_more a.taken payload)) in
    let served = (lawful_now kept.place (length kept.lanes) events filed.lawful).served seat.client in
    let lane_is = lane_of_first kept.place (length kept.lanes) a.taken payload routed.0 inbox routed.1 routed.3
    (λ p ps e. All-head (λ (q : List ℕ). length q ≤ MAX_PAYLOAD) p ps
    (subst (λ (x : List (List ℕ)). All (λ (q : List ℕ). length q ≤ MAX_PAYLOAD) x) e
    (All-push (λ (q : List ℕ). length q ≤ MAX_PAYLOAD) a.taken payload served.short short)))
    (sym whole ∙ routed.2) in (
      record {
        sound = stands_sound a seat.standing sits.stands may.well;
        next = payload;
        rest = inbox;
        whole = whole;
        short = short;
        its_lane = lane_is ∙ sym routed.4;
        few = omega (arith, sits.under_way, may.few);
        listens = omega (arith, may.listens, ap (λ (x : List ℕ). length x) (sits.left may.well), length-append a.written seat.outbox);
      },
      refl,
    )

-- what a lane has yet to answer, when it has taken one more
unanswered_took : (lane client : ℕ) (payload : List ℕ) (events : List Event) → length (replies_at lane events) ≤ length (clients_at lane events) →
    unanswered lane events ++ client ∷ [] ≡ unanswered lane (events ++ Took lane client payload ∷ [])
unanswered_took lane client payload events le =
    let same : unanswered lane (events ++ Took lane client payload ∷ []) ≡ drop (length (replies_at lane events)) (clients_at lane events ++ client ∷ []) =
    λ i. drop (length (stays (reply_in lane) events (Took lane client payload) refl i))
    (adds (client_in lane) events (Took lane client payload) client (only_same lane client) i) in
    sym (same ∙ drop-append-le (length (replies_at lane events)) (clients_at lane events) (client ∷ []) le)

-- the first in the turns is ready, and its frame is taken
pub filed_took : (events : List Event) (kept : Kept) (lane : ℕ) (l : Queues) (client : ℕ) (rest : List ℕ) (k size : ℕ) (seat : Seat) (payload inbox : List ℕ) →
    0 < length kept.seats → IsFirstOf events kept lane l client rest k seat → MayTurn seat size → seat.inbox ≡ frame payload ++ inbox → length payload ≤ MAX_PAYLOAD →
    IsKeptOf events kept →
    IsFiled (events ++ Took lane seat.client payload ∷ [])
    (with_both kept k (record seat { inbox = inbox; under_way = seat.under_way + 1; route = Some (record { lane = lane; queued = false }) })
    lane (record l { turns = rest; waiting = l.waiting ++ seat.client ∷ [] }))
filed_took events kept lane l client rest k size seat payload inbox some f may split short h =
    let filed = h.filed in
    let e : Event = Took lane seat.client payload in
    let new : Seat = record seat { inbox = inbox; under_way = seat.under_way + 1; route = Some (record { lane = lane; queued = false }) } in
    let queues : Queues = record l { turns = rest; waiting = l.waiting ++ seat.client ∷ [] } in
    let place = kept.place in
    let lanes = length kept.lanes in
    let n : length (set kept.seats k new) ≡ length kept.seats = length-set kept.seats k new in
    let m : length (set kept.lanes lane queues) ≡ lanes = length-set kept.lanes lane queues in
    let old = filed.seats k seat f.seat_at in
    let now = lawful_now place lanes events filed.lawful in
    let waits = first_waits events kept lane l client rest k size seat payload inbox f may split short filed in
    let others : (c : ℕ) → c ≢ seat.client → account_of c (events ++ e ∷ []) ≡ account_of c events =
    λ c differ. account_took_other seat.client lane c payload events now.answered differ in
    let own = account_took seat.client lane payload events now.answered in
    let turns : AreTurns place lanes lane events (seat.client ∷ rest) =
    subst (λ (t : List ℕ). AreTurns place lanes lane events t) (f.first ∙ ap (λ (c : ℕ). c ∷ rest) (sym f.its)) (filed.lanes lane l f.lane_at).turns in
    let settled : (c : ℕ) → Waits place lanes lane (account_of c events) → Contains (seat.client ∷ rest) c =
    λ c w. subst (λ (t : List ℕ). Contains t c) (f.first ∙ ap (λ (c : ℕ). c ∷ rest) (sym f.its))
    (waits_among events kept some filed h.queued lane c l f.lane_at w) in
    record {
      seats = seat_cases {P = λ j s. IsSeatAt place (length (set kept.lanes lane queues)) (length (set kept.seats k new)) j (events ++ e ∷ []) s} kept k new
          (sized_seat kept k new lane queues k new (events ++ e ∷ [])
          (seat_moves place lanes (length kept.seats) k events e seat new others refl f.taken f.taken
          (subst (λ (a : Account). Sits place lanes a new) (sym own)
          (sits_took place lanes lane (account_of seat.client events) seat payload inbox (record { lane = lane; queued = true }) split f.turn (old.sits f.taken)))
          old))
          (λ j s differ found. sized_seat kept k new lane queues j s (events ++ e ∷ [])
          (seat_stays place lanes (length kept.seats) j events e s
          (λ c its. others c (λ same. differ (sym its ∙ ap (λ (x : ℕ). x % length kept.seats) same ∙ old.number)))
          (filed.seats j s found)));
      lanes = lane_cases {P = λ x q. IsLaneAt place (length (set kept.lanes lane queues)) x (events ++ e ∷ []) q} kept.lanes lane queues
          (sized_lane kept lane queues lane queues (events ++ e ∷ []) (record {
            waiting = ap (λ (x : List ℕ). x ++ seat.client ∷ []) (filed.lanes lane l f.lane_at).waiting ∙ unanswered_took lane seat.client payload events (now.answered lane);
            turns = turns_took place lanes lane seat.client payload events rest turns settled;
          }))
          (λ x q differ found. sized_lane kept lane queues x q (events ++ e ∷ [])
          (lane_stays place lanes x events e q (only_other lane x seat.client (λ same. differ (sym same))) refl (filed.lanes x q found)));
      rooms = λ x q found. lane_cases {P = λ x q. q.room ≡ length (set kept.seats k new)} kept.lanes lane queues
          (filed.rooms lane l f.lane_at ∙ sym n) (λ x q differ found. filed.rooms x q found ∙ sym n) x q found;
      noted = noted_out events kept lane l client rest k seat new (l.waiting ++ seat.client ∷ []) f filed refl refl;
      seated = λ x y q found among. seated_out events kept lane l client rest k seat new (l.waiting ++ seat.client ∷ []) f filed refl f.taken x y q found among;
      free = λ j among. free_kept kept k seat new f.seat_at f.taken j (filed.free j among);
      apart = filed.apart;
      lawful = subst (λ (x : ℕ). IsLawful place x (events ++ e ∷ [])) (sym m)
          (lawful_more place lanes events e filed.lawful (record {
            served = λ c.
                elim (eqb_tells c seat.client) [
                  | inl same ↦ subst (λ (x : ℕ). IsServed place lanes (account_of x (events ++ e ∷ []))) (sym same.1)
                      (subst (λ (a : Account). IsServed place lanes a) (sym own)
                      (subst (λ (p : List ℕ). IsServed place lanes (record (account_of seat.client events) {
                        taken = (account_of seat.client events).taken ++ p ∷ [];
                        lanes = (account_of seat.client events).lanes ++ lane ∷ [];
                      })) waits.1
                      (served_took place lanes lane (account_of seat.client events) waits.0 (account_lengths seat.client events) (now.served seat.client))))
                  | inr away ↦ subst (λ (a : Account). IsServed place lanes a) (sym (others c away.1)) (now.served c)
                ];
            answered = λ x. omega (
              arith,
              now.answered x,
              ap (λ (q : List (List ℕ)). length q) (stays (reply_in x) events e refl),
              ap (λ (q : List ℕ). length q) (grows (client_in x) events e),
              length-append (clients_at x events) (client_in x e),
            );
            fair = fair_took place lanes lane seat.client payload events rest turns settled now.fair;
            latest = latest_more place lanes events e waits;
          }));
    }

pub has_no_turn : (place lanes lane : ℕ) (seat : Seat) → IsLaneFor place lanes lane seat → (m : ℕ) → HasTurn m seat → ⊥
has_no_turn place lanes lane seat (by_note is) m h = no_turn lane m (record { lane = lane; queued = false }) refl (sym is ∙ h)
has_no_turn place lanes lane seat (by_frame payload rest is split short by) m h = absurd (cc (sym is ∙ h))

pub routed_for : (place lanes lane : ℕ) (a : Account) (seat : Seat) → IsLaneFor place lanes lane seat → Sits place lanes a seat →
    IsRouted place lanes a (Some (record { lane = lane; queued = true }))
routed_for place lanes lane a seat (by_note is) sits = subst (λ (r : Option Route). IsRouted place lanes a r) is sits.routed
routed_for place lanes lane a seat (by_frame payload rest is split short by) sits =
    let none : a.taken ≡ [] = subst (λ (r : Option Route). IsRouted place lanes a r) is sits.routed in
    (payload, rest, sits.bytes ∙ ap (λ (ps : List (List ℕ)). framed ps ++ seat.inbox) none ∙ split, short, by)

-- a seat gets its turn behind all others
pub filed_joined : (events : List Event) (kept : Kept) (lane : ℕ) (l : Queues) (k size : ℕ) (seat : Seat) →
    slice_get kept.lanes lane ≡ Some l → slice_get kept.seats k ≡ Some seat → MayTurn seat size → IsLaneFor kept.place (length kept.lanes) lane seat →
    IsFiled events kept → AreQueuedBut k kept →
    IsKeptOf events (with_both kept k (record seat { route = Some (record { lane = lane; queued = true }) }) lane (record l { turns = l.turns ++ seat.client ∷ [] }))
filed_joined events kept lane l k size seat lane_at at may for filed but =
    let new : Seat = record seat { route = Some (record { lane = lane; queued = true }) } in
    let queues : Queues = record l { turns = l.turns ++ seat.client ∷ [] } in
    let place = kept.place in
    let lanes = length kept.lanes in
    let n : length (set kept.seats k new) ≡ length kept.seats = length-set kept.seats k new in
    let m : length (set kept.lanes lane queues) ≡ lanes = length-set kept.lanes lane queues in
    let old = filed.seats k seat at in
    let taken : IsTaken seat.standing = well_taken seat.standing may.well in
    let sits = old.sits taken in
    let sits_new : Sits place lanes (account_of seat.client events) new =
    record { stands = sits.stands; bytes = sits.bytes; under_way = sits.under_way; left = sits.left; routed = routed_for place lanes lane (account_of seat.client events) seat for sits } in
    let absent : (x : ℕ) (q : Queues) → slice_get kept.lanes x ≡ Some q → Contains q.turns seat.client → ⊥ =
    λ x q found among. has_no_turn place lanes lane seat for x ((filed.noted k x seat q at found).0 among) in
    record {
      filed = record {
        seats = seat_cases {P = λ j s. IsSeatAt place (length (set kept.lanes lane queues)) (length (set kept.seats k new)) j events s} kept k new
            (sized_seat kept k new lane queues k new events
            (record { number = old.number; to_come = old.to_come; only = old.only; sits = λ is. sits_new; empty = λ no_one. absurd (no_one taken) }))
            (λ j s differ found. sized_seat kept k new lane queues j s events (filed.seats j s found));
        lanes = lane_cases {P = λ x q. IsLaneAt place (length (set kept.lanes lane queues)) x events q} kept.lanes lane queues
            (sized_lane kept lane queues lane queues events (record {
              waiting = (filed.lanes lane l lane_at).waiting;
              turns = turns_joined place lanes lane seat.client events l.turns (absent lane l lane_at) (filed.lanes lane l lane_at).turns;
            }))
            (λ x q differ found. sized_lane kept lane queues x q events (filed.lanes x q found));
        rooms = λ x q found. lane_cases {P = λ x q. q.room ≡ length (set kept.seats k new)} kept.lanes lane queues
            (filed.rooms lane l lane_at ∙ sym n) (λ x q differ found. filed.rooms x q found ∙ sym n) x q found;
        noted = λ j x s q found found_lane.
            seat_cases {P = λ j s. Contains q.turns s.client ↔ HasTurn x s} kept k new
            (lane_cases {P = λ x q. Contains q.turns seat.client ↔ HasTurn x new} kept.lanes lane queues
            (λ h. refl, λ h. Contains-push l.turns seat.client)
            (λ x q away found. (λ h. absurd (absent x q found h), λ h. absurd (away (route_lane x lane true h))))
            x q found_lane)
            (λ j s differ found.
            lane_cases {P = λ x q. Contains q.turns s.client ↔ HasTurn x s} kept.lanes lane queues (
              λ h. elim (Contains-push_cases l.turns seat.client s.client h) [
                | inl before ↦ (filed.noted j lane s l found lane_at).0 before
                | inr is ↦ absurd (differ (sym (filed.seats j s found).number ∙ ap (λ (c : ℕ). c % length kept.seats) (sym is) ∙ old.number))
              ],
              λ h. Contains-append_left l.turns (seat.client ∷ []) s.client ((filed.noted j lane s l found lane_at).1 h),
            )
            (λ x q away found_lane. filed.noted j x s q found found_lane)
            x q found_lane)
            j s found;
        seated = λ x y q found among.
            lane_cases {P = λ x q. Contains q.turns y → IsHere (with_seat kept k new) y} kept.lanes lane queues
            (λ h. elim (Contains-push_cases l.turns seat.client y h) [
              | inl before ↦ here_kept kept k seat new at refl taken y (filed.seated lane y l lane_at before)
              | inr is ↦ here_kept kept k seat new at refl taken y
                  (here_from kept y seat (ap (λ (z : ℕ). slice_get kept.seats z) (ap (λ (c : ℕ). c % length kept.seats) (sym is) ∙ old.number) ∙ at)
                  (record { its = is; taken = taken }))
            ])
            (λ x q away found h. here_kept kept k seat new at refl taken y (filed.seated x y q found h))
            x q found among;
        free = λ j among. free_kept kept k seat new at taken j (filed.free j among);
        apart = filed.apart;
        lawful = subst (λ (x : ℕ). IsLawful place x events) (sym m) filed.lawful;
      };
      queued = λ j s_size s found is.
          elim (get_set_cases kept.seats k new j s found) [
            | inl h ↦ (lane, ap (λ (x : Seat). x.route) h.1)
            | inr h ↦ but j s_size s h.1 h.0 is
          ];
    }

-- there is room for that turn
pub has_room : (events : List Event) (kept : Kept) (lane : ℕ) (l : Queues) (k : ℕ) (seat : Seat) → 0 < length kept.seats →
    slice_get kept.lanes lane ≡ Some l → slice_get kept.seats k ≡ Some seat → IsTaken seat.standing → (Contains l.turns seat.client → ⊥) → IsFiled events kept →
    length l.turns < l.room
has_room events kept lane l k seat some lane_at at taken new filed =
    let n = length kept.seats in
    let all : List ℕ = l.turns ++ seat.client ∷ [] in
    let old = filed.seats k seat at in
    let here : (x : ℕ) → Contains all x → IsHere kept x =
    λ x h. elim (Contains-push_cases l.turns seat.client x h) [
      | inl before ↦ filed.seated lane x l lane_at before
      | inr is ↦ here_from kept x seat (ap (λ (z : ℕ). slice_get kept.seats z) (ap (λ (c : ℕ). c % n) (sym is) ∙ old.number) ∙ at) (record { its = is; taken = taken })
    ] in
    let once : (x y : ℕ) → Contains all x → Contains all y → x % n ≡ y % n → x ≡ y =
    λ x y hx hy same.
    let fx = here_at kept x (here x hx) in
    let fy = here_at kept y (here y hy) in
    let one = get_one kept.seats (y % n) fx.0 fy.0 (ap (λ (z : ℕ). slice_get kept.seats z) (sym same) ∙ fx.1) fy.1 in
    sym fx.2.its ∙ ap (λ (s : Seat). s.client) one ∙ fy.2.its in
    let apart : AllPairs (λ a b. a ≢ b) all =
    all_pairs_push (λ a b. a ≢ b) l.turns seat.client (filed.lanes lane l lane_at).turns.apart
    (λ i d lt same. new (subst (λ (z : ℕ). Contains l.turns z) same (Contains-get_or l.turns i d lt))) in
    let few = few_below n (map (λ x. x % n) all) (apart_map (λ x. x % n) all apart once)
    (λ y h. let x = member_map (λ x. x % n) all y h in subst (λ (z : ℕ). z < n) x.2 (below x.0)) in
    omega (arith, few, length-map all (λ (x : ℕ). x % n), length_push l.turns seat.client, filed.rooms lane l lane_at)
  where
    below : (x : ℕ) → x % length kept.seats < length kept.seats
    below x = omega arith
