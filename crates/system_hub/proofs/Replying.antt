-- What is kept, as a lane gives a reply.
use Rattle.std.proofs.Common.{◌≡◌, ◌≢◌, ◌↔◌, ◌==◌, ◌<◌, ◌≤◌, ◌++◌, ◌∙◌, ◌-◌, ◌%◌, ℕ, List, [], ◌∷◌, length, length-set, length-append, length-drop, set, drop, sym, ap, subst, refl, inl, inr, arith, Some, count_by}
use Rattle.std.specs.List.{slice_get, Contains}
use Rattle.std.proofs.lemmas.Bool.Decides.{eqb_tells}
use Rattle.std.proofs.lemmas.List.{drop-drop}
use Rattle.frame_link.specs.Frames.{frame}
use Rattle.system_hub.specs.Events.{Event, Replied, client_in, reply_in}
use Rattle.system_hub.specs.Accounts.{Account, account_of, nothing, lane_by, IsPresent}
use Rattle.system_hub.specs.Lanes.{clients_at, replies_at, unanswered}
use Rattle.system_hub.specs.Lawful.{IsServed, IsLawful}
use Rattle.system_hub.specs.Kept.{Kept, IsTaken, IsWellStanding, Sits, IsSeatAt, IsLaneAt, IsFiled, IsKeptOf, HasTurn, IsHere}
use Rattle.system_hub.specs.Queues.{Queues}
use Rattle.system_hub.specs.declared.machine.seat.Seat.{Seat}
use Rattle.system_hub.proofs.Growing.{adds, stays, only_same, only_other}
use Rattle.system_hub.proofs.Answered.{account_answered, account_answered_other, sends_to, under_way_at}
use Rattle.system_hub.proofs.Serving.{served_answered}
use Rattle.system_hub.proofs.Seats.{seat_stays, seat_moves, sits_answered, present_same}
use Rattle.system_hub.proofs.Stretches.{lawful_now, lawful_more, latest_more, turns_kept, fair_kept}
use Rattle.system_hub.proofs.Filing.{here_from, here_kept, free_kept, seat_cases, lane_stays}
use Rattle.system_hub.proofs.Turning.{with_both, lane_cases, sized_seat, sized_lane}

-- what a lane has yet to answer, when it has answered one more
unanswered_replied : (lane client : ℕ) (payload : List ℕ) (events : List Event) (rest : List ℕ) → unanswered lane events ≡ client ∷ rest →
    rest ≡ unanswered lane (events ++ Replied lane payload ∷ [])
unanswered_replied lane client payload events rest first =
    let n = length (replies_at lane events) in
    let same : unanswered lane (events ++ Replied lane payload ∷ []) ≡ drop (length (replies_at lane events ++ payload ∷ [])) (clients_at lane events) =
    λ i. drop (length (adds (reply_in lane) events (Replied lane payload) payload (only_same lane payload) i))
    (stays (client_in lane) events (Replied lane payload) refl i) in
    ap (λ (l : List ℕ). drop 1 l) (sym first)
    ∙ drop-drop 1 n (clients_at lane events)
    ∙ ap (λ (m : ℕ). drop m (clients_at lane events)) (sym (length-append (replies_at lane events) (payload ∷ [])))
    ∙ sym same

-- the account of the client whose frame it is
own_answer : (place lanes : ℕ) (lane client : ℕ) (payload : List ℕ) (events : List Event) (rest : List ℕ) → unanswered lane events ≡ client ∷ rest →
    IsLawful place lanes events →
    account_of client (events ++ Replied lane payload ∷ []) ≡ record (account_of client events) { replies = (account_of client events).replies ++ payload ∷ [] }
own_answer place lanes lane client payload events rest first law =
    account_answered client lane (lane_by place lanes (account_of client events).taken) payload events rest first
    ((lawful_now place lanes events law).served client).one_lane

lawful_replied : (place lanes : ℕ) (lane client : ℕ) (payload : List ℕ) (events : List Event) (rest : List ℕ) → unanswered lane events ≡ client ∷ rest →
    IsLawful place lanes events → IsLawful place lanes (events ++ Replied lane payload ∷ [])
lawful_replied place lanes lane client payload events rest first law =
    let now = lawful_now place lanes events law in
    let e : Event = Replied lane payload in
    lawful_more place lanes events e law (record {
      served = λ c.
          elim (eqb_tells client c) [
            | inl same ↦ subst (λ (x : ℕ). IsServed place lanes (account_of x (events ++ e ∷ []))) same.1
                (subst (λ (a : Account). IsServed place lanes a) (sym (own_answer place lanes lane client payload events rest first law))
                (served_answered place lanes (account_of client events) payload (now.served client)))
            | inr away ↦ subst (λ (a : Account). IsServed place lanes a) (sym (account_answered_other c lane client payload events rest first away.1)) (now.served c)
          ];
      answered = λ x.
          elim (eqb_tells lane x) [
            | inl same ↦ subst (λ (y : ℕ). length (replies_at y (events ++ e ∷ [])) ≤ length (clients_at y (events ++ e ∷ []))) same.1
                (omega (
                  arith,
                  now.answered lane,
                  ap (λ (q : List (List ℕ)). length q) (adds (reply_in lane) events e payload (only_same lane payload)),
                  length-append (replies_at lane events) (payload ∷ []),
                  ap (λ (q : List ℕ). length q) (stays (client_in lane) events e refl),
                  ap (λ (q : List ℕ). length q) first,
                  length-drop (length (replies_at lane events)) (clients_at lane events),
                ))
            | inr away ↦ omega (
              arith,
              now.answered x,
              ap (λ (q : List (List ℕ)). length q) (stays (reply_in x) events e (only_other lane x payload away.1)),
              ap (λ (q : List ℕ). length q) (stays (client_in x) events e refl),
            )
          ];
      fair = fair_kept place lanes events e (λ x. refl) now.fair;
      latest = latest_more place lanes events e tt;
    })

-- a lane that answered its first frame, and each other lane
lanes_replied : (kept : Kept) (lane : ℕ) (l : Queues) (client : ℕ) (rest payload : List ℕ) (events : List Event) →
    slice_get kept.lanes lane ≡ Some l → l.waiting ≡ client ∷ rest → IsFiled events kept →
    (x : ℕ) (q : Queues) → slice_get (set kept.lanes lane (record l { waiting = rest })) x ≡ Some q →
    IsLaneAt kept.place (length (set kept.lanes lane (record l { waiting = rest }))) x (events ++ Replied lane payload ∷ []) q
lanes_replied kept lane l client rest payload events lane_at first filed =
    let e : Event = Replied lane payload in
    let queues : Queues = record l { waiting = rest } in
    let old = filed.lanes lane l lane_at in
    lane_cases {P = λ x q. IsLaneAt kept.place (length (set kept.lanes lane queues)) x (events ++ e ∷ []) q} kept.lanes lane queues
    (sized_lane kept lane queues lane queues (events ++ e ∷ []) (record {
      waiting = unanswered_replied lane client payload events rest (sym old.waiting ∙ first);
      turns = turns_kept kept.place (length kept.lanes) lane events e l.turns refl old.turns;
    }))
    (λ x q differ found. sized_lane kept lane queues x q (events ++ e ∷ [])
    (lane_stays kept.place (length kept.lanes) x events e q refl (only_other lane x payload (λ same. differ (sym same))) (filed.lanes x q found)))

-- the reply of a client that sits
pub filed_answered : (events : List Event) (kept : Kept) (lane : ℕ) (l : Queues) (client : ℕ) (rest payload : List ℕ) (k : ℕ) (seat : Seat) (outbox : List ℕ) →
    slice_get kept.lanes lane ≡ Some l → l.waiting ≡ client ∷ rest →
    slice_get kept.seats k ≡ Some seat → seat.client ≡ client → IsTaken seat.standing →
    (IsWellStanding seat.standing → outbox ≡ seat.outbox ++ frame payload) → IsFiled events kept →
    IsFiled (events ++ Replied lane payload ∷ [])
    (with_both kept k (record seat { under_way = seat.under_way - 1; outbox = outbox }) lane (record l { waiting = rest }))
filed_answered events kept lane l client rest payload k seat outbox lane_at first at its taken put filed =
    let e : Event = Replied lane payload in
    let new : Seat = record seat { under_way = seat.under_way - 1; outbox = outbox } in
    let queues : Queues = record l { waiting = rest } in
    let place = kept.place in
    let lanes = length kept.lanes in
    let n : length (set kept.seats k new) ≡ length kept.seats = length-set kept.seats k new in
    let m : length (set kept.lanes lane queues) ≡ lanes = length-set kept.lanes lane queues in
    let old = filed.seats k seat at in
    let sits = old.sits taken in
    let now = lawful_now place lanes events filed.lawful in
    let unanswered_first : unanswered lane events ≡ seat.client ∷ rest =
    sym (filed.lanes lane l lane_at).waiting ∙ first ∙ ap (λ (c : ℕ). c ∷ rest) (sym its) in
    let some : 0 < seat.under_way =
    under_way_at seat.client lane (lane_by place lanes (account_of seat.client events).taken) seat.under_way events rest unanswered_first (now.served seat.client).one_lane sits.under_way in
    let others : (c : ℕ) → c ≢ seat.client → account_of c (events ++ e ∷ []) ≡ account_of c events =
    λ c differ. account_answered_other c lane seat.client payload events rest unanswered_first (λ same. differ (sym same)) in
    record {
      seats = seat_cases {P = λ j s. IsSeatAt place (length (set kept.lanes lane queues)) (length (set kept.seats k new)) j (events ++ e ∷ []) s} kept k new
          (sized_seat kept k new lane queues k new (events ++ e ∷ [])
          (seat_moves place lanes (length kept.seats) k events e seat new others refl taken taken
          (subst (λ (a : Account). Sits place lanes a new) (sym (own_answer place lanes lane seat.client payload events rest unanswered_first filed.lawful))
          (sits_answered place lanes (account_of seat.client events) seat payload (seat.under_way - 1) outbox (omega arith) put sits))
          old))
          (λ j s differ found. sized_seat kept k new lane queues j s (events ++ e ∷ [])
          (seat_stays place lanes (length kept.seats) j events e s
          (λ c is. others c (λ same. differ (sym is ∙ ap (λ (x : ℕ). x % length kept.seats) same ∙ old.number)))
          (filed.seats j s found)));
      lanes = lanes_replied kept lane l client rest payload events lane_at first filed;
      rooms = λ x q found. lane_cases {P = λ x q. q.room ≡ length (set kept.seats k new)} kept.lanes lane queues
          (filed.rooms lane l lane_at ∙ sym n) (λ x q differ found. filed.rooms x q found ∙ sym n) x q found;
      noted = λ j x s q found found_lane.
          lane_cases {P = λ x q. (j : ℕ) (s : Seat) → slice_get (set kept.seats k new) j ≡ Some s → (Contains q.turns s.client ↔ HasTurn x s)} kept.lanes lane queues
          (seat_cases {P = λ j s. Contains l.turns s.client ↔ HasTurn lane s} kept k new (filed.noted k lane seat l at lane_at) (λ j s differ found. filed.noted j lane s l found lane_at))
          (λ x q differ found_lane. seat_cases {P = λ j s. Contains q.turns s.client ↔ HasTurn x s} kept k new (filed.noted k x seat q at found_lane) (λ j s away found. filed.noted j x s q found found_lane))
          x q found_lane j s found;
      seated = λ x y q found among.
          here_kept kept k seat new at refl taken y
          (lane_cases {P = λ x q. Contains q.turns y → IsHere kept y} kept.lanes lane queues
          (λ h. filed.seated lane y l lane_at h) (λ x q differ found h. filed.seated x y q found h) x q found among);
      free = λ j among. free_kept kept k seat new at taken j (filed.free j among);
      apart = filed.apart;
      lawful = subst (λ (x : ℕ). IsLawful place x (events ++ e ∷ [])) (sym m)
          (lawful_replied place lanes lane seat.client payload events rest unanswered_first filed.lawful);
    }

-- the reply of a client that has gone
pub kept_gone : (events : List Event) (kept : Kept) (lane : ℕ) (l : Queues) (client : ℕ) (rest payload : List ℕ) →
    slice_get kept.lanes lane ≡ Some l → l.waiting ≡ client ∷ rest → (IsHere kept client → ⊥) → IsKeptOf events kept →
    IsKeptOf (events ++ Replied lane payload ∷ []) (record kept { lanes = set kept.lanes lane (record l { waiting = rest }) })
kept_gone events kept lane l client rest payload lane_at first gone h =
    let filed = h.filed in
    let e : Event = Replied lane payload in
    let queues : Queues = record l { waiting = rest } in
    let place = kept.place in
    let lanes = length kept.lanes in
    let m : length (set kept.lanes lane queues) ≡ lanes = length-set kept.lanes lane queues in
    let unanswered_first : unanswered lane events ≡ client ∷ rest = sym (filed.lanes lane l lane_at).waiting ∙ first in
    let own = own_answer place lanes lane client payload events rest unanswered_first filed.lawful in
    let others : (c : ℕ) → c ≢ client → account_of c (events ++ e ∷ []) ≡ account_of c events =
    λ c differ. account_answered_other c lane client payload events rest unanswered_first (λ same. differ (sym same)) in
    let known : account_of client events ≡ nothing → ⊥ =
    λ none. absurd (omega (arith, sends_to client lane events rest unanswered_first, ap (λ (a : Account). count_by (λ k. k == lane) a.lanes) none)) in
    let away : (j : ℕ) (s : Seat) → slice_get kept.seats j ≡ Some s → client % length kept.seats ≡ j → client ≡ s.client → IsTaken s.standing → ⊥ =
    λ j s found its same taken. gone (here_from kept client s (ap (λ (x : ℕ). slice_get kept.seats x) its ∙ found) (record { its = sym same; taken = taken })) in
    record {
      filed = record {
        seats = λ j s found.
            let old = filed.seats j s found in
            subst (λ (x : ℕ). IsSeatAt place x (length kept.seats) j (events ++ e ∷ []) s) (sym m) (record {
              number = old.number;
              to_come = λ c its le.
                  elim (eqb_tells c client) [
                    | inl same ↦ absurd (known (ap (λ (x : ℕ). account_of x events) (sym same.1) ∙ old.to_come c its le))
                    | inr differ ↦ others c differ.1 ∙ old.to_come c its le
                  ];
              only = λ c its present.
                  elim (eqb_tells c client) [
                    | inl same ↦ old.only c its
                        (subst (λ (x : ℕ). IsPresent (account_of x events)) (sym same.1)
                        (present_same (record (account_of client events) { replies = (account_of client events).replies ++ payload ∷ [] }) (account_of client events) refl refl
                        (subst (λ (a : Account). IsPresent a) own (subst (λ (x : ℕ). IsPresent (account_of x (events ++ e ∷ []))) same.1 present))))
                    | inr differ ↦ old.only c its (subst (λ (a : Account). IsPresent a) (others c differ.1) present)
                  ];
              sits = λ taken.
                  elim (eqb_tells s.client client) [
                    | inl same ↦ absurd (away j s found (ap (λ (x : ℕ). x % length kept.seats) (sym same.1) ∙ old.number) (sym same.1) taken)
                    | inr differ ↦ subst (λ (a : Account). Sits place lanes a s) (sym (others s.client differ.1)) (old.sits taken)
                  ];
              empty = old.empty;
            });
        lanes = lanes_replied kept lane l client rest payload events lane_at first filed;
        rooms = λ x q found. lane_cases {P = λ x q. q.room ≡ length kept.seats} kept.lanes lane queues
            (filed.rooms lane l lane_at) (λ x q differ found. filed.rooms x q found) x q found;
        noted = λ j x s q found found_lane.
            lane_cases {P = λ x q. Contains q.turns s.client ↔ HasTurn x s} kept.lanes lane queues
            (filed.noted j lane s l found lane_at) (λ x q differ found_lane. filed.noted j x s q found found_lane) x q found_lane;
        seated = λ x y q found among.
            lane_cases {P = λ x q. Contains q.turns y → IsHere kept y} kept.lanes lane queues
            (λ h. filed.seated lane y l lane_at h) (λ x q differ found h. filed.seated x y q found h) x q found among;
        free = filed.free;
        apart = filed.apart;
        lawful = subst (λ (x : ℕ). IsLawful place x (events ++ e ∷ [])) (sym m)
            (lawful_replied place lanes lane client payload events rest unanswered_first filed.lawful);
      };
      queued = h.queued;
    }
