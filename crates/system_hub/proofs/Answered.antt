-- What lanes that take and answer frames add to the accounts of clients.
use Rattle.std.proofs.Common.{◌≡◌, ◌≢◌, ◌==◌, ◌<◌, ◌≤◌, ◌++◌, ◌∙◌, ◌+◌, ℕ, Bool, true, false, cond, if◌then◌else◌, List, [], ◌∷◌, length, map, drop, All, sym, ap, subst, refl, inl, inr, length-append, arith, count_by}
use Rattle.std.specs.List.{flat_map, filter, zip}
use Rattle.std.proofs.lemmas.Bool.{eq-eqb}
use Rattle.std.proofs.lemmas.Bool.Decides.{eqb_tells}
use Rattle.std.proofs.lemmas.List.{append-nil, map-append, nil_from_length}
use Rattle.std.proofs.lemmas.List.Elements.{filter-append, All-head, All-tail}
use Rattle.std.proofs.lemmas.List.Sums.{sum_by-cons, sum_by-append}
use Rattle.system_hub.specs.Events.{Event, Opened, Received, Ended, Failed, Took, Replied, Wrote, Closed, only, piece_in, payload_in, lane_in, client_in, reply_in, written_in, opened_in, ended_in, failed_in, closed_in}
use Rattle.system_hub.specs.Lanes.{clients_at, replies_at, answers_at, turns_of, unanswered}
use Rattle.system_hub.specs.Accounts.{account_of, nothing, joined, replies_of, replies_to}
use Rattle.system_hub.proofs.Growing.{grows, stays, adds, answers_stay, only_same, only_other, replies_stay, account_stays, IsOthers, is_others, same_account}

-- one more in a count
pub count-cons : (p : ℕ → Bool) (x : ℕ) (xs : List ℕ) → count_by p (x ∷ xs) ≡ cond (p x) 1 0 + count_by p xs
count-cons p x xs = sum_by-cons (λ (y : ℕ). cond (p y) 1 0) x xs

pub count-append : (p : ℕ → Bool) (xs ys : List ℕ) → count_by p (xs ++ ys) ≡ count_by p xs + count_by p ys
count-append p xs ys = sum_by-append (λ (y : ℕ). cond (p y) 1 0) xs ys

pub count-one : (p : ℕ → Bool) (x : ℕ) → count_by p (x ∷ []) ≡ cond (p x) 1 0
count-one p x = omega (arith, count-cons p x [])

-- the frames of a client at a lane are those by which the lane is one of the client's
turn_by : (client lane x l : ℕ) → count_by (λ c. c == client) (only l lane x) ≡ count_by (λ k. k == lane) (only x client l)
turn_by client lane x l =
    elim (eqb_tells l lane) [
      | inl here ↦
          elim (eqb_tells x client) [
            | inl its ↦
                ap (λ (b : Bool). count_by (λ (c : ℕ). c == client) (if b then x ∷ [] else [])) here.0
                ∙ count-one (λ (c : ℕ). c == client) x
                ∙ ap {B = ℕ} (λ (b : Bool). cond b 1 0) (its.0 ∙ sym here.0)
                ∙ sym (count-one (λ (k : ℕ). k == lane) l)
                ∙ ap (λ (b : Bool). count_by (λ (k : ℕ). k == lane) (if b then l ∷ [] else [])) (sym its.0)
            | inr other ↦
                ap (λ (b : Bool). count_by (λ (c : ℕ). c == client) (if b then x ∷ [] else [])) here.0
                ∙ count-one (λ (c : ℕ). c == client) x
                ∙ ap {B = ℕ} (λ (b : Bool). cond b 1 0) other.0
                ∙ ap (λ (b : Bool). count_by (λ (k : ℕ). k == lane) (if b then l ∷ [] else [])) (sym other.0)
          ]
      | inr away ↦
          elim (eqb_tells x client) [
            | inl its ↦
                ap (λ (b : Bool). count_by (λ (c : ℕ). c == client) (if b then x ∷ [] else [])) away.0
                ∙ ap {B = ℕ} (λ (b : Bool). cond b 1 0) (sym away.0)
                ∙ sym (count-one (λ (k : ℕ). k == lane) l)
                ∙ ap (λ (b : Bool). count_by (λ (k : ℕ). k == lane) (if b then l ∷ [] else [])) (sym its.0)
            | inr other ↦
                ap (λ (b : Bool). count_by (λ (c : ℕ). c == client) (if b then x ∷ [] else [])) away.0
                ∙ ap (λ (b : Bool). count_by (λ (k : ℕ). k == lane) (if b then l ∷ [] else [])) (sym other.0)
          ]
    ]

turn_in : (client lane : ℕ) (e : Event) → count_by (λ c. c == client) (client_in lane e) ≡ count_by (λ k. k == lane) (lane_in client e)
turn_in client lane (Opened c) = refl
turn_in client lane (Received c bytes) = refl
turn_in client lane (Ended c) = refl
turn_in client lane (Failed c) = refl
turn_in client lane (Took l c payload) = turn_by client lane c l
turn_in client lane (Replied l payload) = refl
turn_in client lane (Wrote c bytes) = refl
turn_in client lane (Closed c) = refl

pub turns_by_lane : (client lane : ℕ) (events : List Event) → turns_of client lane events ≡ count_by (λ k. k == lane) (flat_map (lane_in client) events)
turns_by_lane client lane [] = refl
turns_by_lane client lane (e ∷ events) =
    count-append (λ (c : ℕ). c == client) (client_in lane e) (clients_at lane events)
    ∙ (λ i. turn_in client lane e i + turns_by_lane client lane events i)
    ∙ sym (count-append (λ (k : ℕ). k == lane) (lane_in client e) (flat_map (lane_in client) events))

abbrev picked : ℕ → List (ℕ × List ℕ) → List (List ℕ)
picked client answers = map (λ a. a.1) (filter (λ a. a.0 == client) answers)

picked-cons : (client c : ℕ) (reply : List ℕ) (answers : List (ℕ × List ℕ)) → length (picked client ((c, reply) ∷ answers)) ≡ cond (c == client) 1 0 + length (picked client answers)
picked-cons client c reply answers =
    elim (eqb_tells c client) [
      | inl its ↦
          ap (λ (b : Bool). length (map (λ (a : ℕ × List ℕ). a.1) (cond b ((c, reply) ∷ filter (λ (a : ℕ × List ℕ). a.0 == client) answers) (filter (λ (a : ℕ × List ℕ). a.0 == client) answers)))) its.0
          ∙ omega arith
          ∙ ap {B = ℕ} (λ (b : Bool). cond b 1 0 + length (picked client answers)) (sym its.0)
      | inr other ↦
          ap (λ (b : Bool). length (map (λ (a : ℕ × List ℕ). a.1) (cond b ((c, reply) ∷ filter (λ (a : ℕ × List ℕ). a.0 == client) answers) (filter (λ (a : ℕ × List ℕ). a.0 == client) answers)))) other.0
          ∙ omega arith
          ∙ ap {B = ℕ} (λ (b : Bool). cond b 1 0 + length (picked client answers)) (sym other.0)
    ]

-- a client's frames at a lane are those that are answered, and those that are not
pub answered_or_not : (client : ℕ) (clients : List ℕ) (replies : List (List ℕ)) →
    length (picked client (zip clients replies)) + count_by (λ c. c == client) (drop (length replies) clients)
    ≡ count_by (λ c. c == client) clients
answered_or_not client [] [] = refl
answered_or_not client [] (reply ∷ replies) = refl
answered_or_not client (c ∷ clients) [] = omega arith
answered_or_not client (c ∷ clients) (reply ∷ replies) =
    omega (arith, picked-cons client c reply (zip clients replies), count-cons (λ (x : ℕ). x == client) c clients, answered_or_not client clients replies)

pub answered_at : (client lane : ℕ) (events : List Event) →
    length (replies_to client lane events) + count_by (λ c. c == client) (unanswered lane events)
    ≡ turns_of client lane events
answered_at client lane events = answered_or_not client (clients_at lane events) (replies_at lane events)

-- of whom no lane took a frame, no lane has a reply
pub no_replies : (client lane : ℕ) (events : List Event) → flat_map (lane_in client) events ≡ [] → replies_to client lane events ≡ []
no_replies client lane events none =
    nil_from_length (replies_to client lane events)
    (omega (arith, answered_at client lane events, turns_by_lane client lane events, ap (λ (l : List ℕ). count_by (λ (k : ℕ). k == lane) l) none))

-- one more frame at a lane answers no earlier one
zip_more : (clients more : List ℕ) (replies : List (List ℕ)) → length replies ≤ length clients → zip (clients ++ more) replies ≡ zip clients replies
zip_more [] [] [] le = refl
zip_more [] (m ∷ more) [] le = refl
zip_more [] more (reply ∷ replies) le = absurd (omega arith)
zip_more (c ∷ clients) more [] le = refl
zip_more (c ∷ clients) more (reply ∷ replies) le = ap (λ (l : List (ℕ × List ℕ)). (c, reply) ∷ l) (zip_more clients more replies (omega arith))

pub took_replies : (client lane : ℕ) (events : List Event) (l c : ℕ) (payload : List ℕ) →
    length (replies_at lane events) ≤ length (clients_at lane events) →
    replies_to client lane (events ++ Took l c payload ∷ []) ≡ replies_to client lane events
took_replies client lane events l c payload le =
    ap (picked client) (
    (λ i. zip (grows (client_in lane) events (Took l c payload) i) (stays (reply_in lane) events (Took l c payload) refl i))
    ∙ zip_more (clients_at lane events) (only l lane c) (replies_at lane events) le)

-- a frame that a lane takes, in the accounts of its client and of another
took_lanes : (lanes : List ℕ) (client lane : ℕ) (payload : List ℕ) (events : List Event) →
    length (replies_at lane events) ≤ length (clients_at lane events) →
    ((l : ℕ) → length (replies_at l events) ≤ length (clients_at l events)) →
    flat_map (lane_in client) events ≡ lanes →
    replies_of (lanes ++ lane ∷ []) client (events ++ Took lane client payload ∷ []) ≡ replies_of lanes client events
took_lanes [] client lane payload events le all none =
    took_replies client lane events lane client payload le ∙ no_replies client lane events none
took_lanes (l ∷ lanes) client lane payload events le all some =
    took_replies client l events lane client payload (all l)

pub account_took : (client lane : ℕ) (payload : List ℕ) (events : List Event) →
    ((l : ℕ) → length (replies_at l events) ≤ length (clients_at l events)) →
    account_of client (events ++ Took lane client payload ∷ [])
    ≡ record (account_of client events) {
      taken = (account_of client events).taken ++ payload ∷ [];
      lanes = (account_of client events).lanes ++ lane ∷ [];
    }
unfolding account_of
account_took client lane payload events all =
    let e : Event = Took lane client payload in
    let more : flat_map (lane_in client) (events ++ e ∷ []) ≡ flat_map (lane_in client) events ++ lane ∷ [] =
    adds (lane_in client) events e lane (only_same client lane) in
    same_account _ _
    (ap joined (stays (piece_in client) events e refl))
    (ap joined (stays (written_in client) events e refl))
    (adds (payload_in client) events e payload (only_same client payload))
    more
    (ap (λ (l : List ℕ). replies_of l client (events ++ e ∷ [])) more
    ∙ took_lanes (flat_map (lane_in client) events) client lane payload events (all lane) all refl)
    (ap (λ (x : List ℕ). length x) (stays (opened_in client) events e refl))
    (ap (λ (x : List ℕ). length x) (stays (ended_in client) events e refl))
    (ap (λ (x : List ℕ). length x) (stays (failed_in client) events e refl))
    (ap (λ (x : List ℕ). length x) (stays (closed_in client) events e refl))

pub account_took_other : (client lane other : ℕ) (payload : List ℕ) (events : List Event) →
    ((l : ℕ) → length (replies_at l events) ≤ length (clients_at l events)) → other ≢ client →
    account_of other (events ++ Took lane client payload ∷ []) ≡ account_of other events
account_took_other client lane other payload events all differ =
    let e : Event = Took lane client payload in
    let others : IsOthers other e = is_others other e (λ h. differ (sym h)) in
    account_stays other events e others
    (replies_stay other events e others.lanes (λ l. took_replies other l events lane client payload (all l)))

head_is : {c d : ℕ} {xs ys : List ℕ} → c ∷ xs ≡ d ∷ ys → c ≡ d
head_is e = cc e

-- one more reply answers the first frame that had none
zip_answer : (clients : List ℕ) (replies : List (List ℕ)) (client : ℕ) (others : List ℕ) (reply : List ℕ) →
    drop (length replies) clients ≡ client ∷ others →
    zip clients (replies ++ reply ∷ []) ≡ zip clients replies ++ (client, reply) ∷ []
zip_answer [] [] client others reply e = absurd (cc e)
zip_answer [] (r ∷ replies) client others reply e = absurd (cc e)
zip_answer (c ∷ []) [] client others reply e = λ i. (head_is e i, reply) ∷ []
zip_answer (c ∷ d ∷ clients) [] client others reply e = λ i. (head_is e i, reply) ∷ []
zip_answer (c ∷ clients) (r ∷ replies) client others reply e =
    ap (λ (l : List (ℕ × List ℕ)). (c, r) ∷ l) (zip_answer clients replies client others reply e)

-- the reply of a lane to a client's frame, and to another's
picked_more : (client c : ℕ) (reply : List ℕ) (answers : List (ℕ × List ℕ)) →
    picked client (answers ++ (c, reply) ∷ []) ≡ picked client answers ++ (if c == client then reply ∷ [] else [])
picked_more client c reply answers =
    let p : ℕ × List ℕ → Bool = λ a. a.0 == client in
    ap (λ (l : List (ℕ × List ℕ)). map (λ (a : ℕ × List ℕ). a.1) l) (filter-append p answers ((c, reply) ∷ []))
    ∙ map-append (λ (a : ℕ × List ℕ). a.1) (filter p answers) (filter p ((c, reply) ∷ []))
    ∙ ap (λ (l : List (List ℕ)). picked client answers ++ l) (one (c == client))
  where
    one : (b : Bool) → map (λ (a : ℕ × List ℕ). a.1) (cond b ((c, reply) ∷ []) []) ≡ (if b then reply ∷ [] else [])
    one true = refl
    one false = refl

replied_answers : (lane : ℕ) (payload : List ℕ) (events : List Event) (client : ℕ) (others : List ℕ) →
    unanswered lane events ≡ client ∷ others →
    answers_at lane (events ++ Replied lane payload ∷ []) ≡ answers_at lane events ++ (client, payload) ∷ []
replied_answers lane payload events client others e =
    (λ i. zip (stays (client_in lane) events (Replied lane payload) refl i)
    (adds (reply_in lane) events (Replied lane payload) payload (only_same lane payload) i))
    ∙ zip_answer (clients_at lane events) (replies_at lane events) client others payload e

pub replied_elsewhere : (client l lane : ℕ) (payload : List ℕ) (events : List Event) → lane ≢ l →
    replies_to client l (events ++ Replied lane payload ∷ []) ≡ replies_to client l events
replied_elsewhere client l lane payload events differ =
    ap (picked client) (answers_stay l events (Replied lane payload) refl (only_other lane l payload differ))

replied_to_other : (client lane c : ℕ) (payload : List ℕ) (events : List Event) (others : List ℕ) →
    unanswered lane events ≡ c ∷ others → c ≢ client →
    replies_to client lane (events ++ Replied lane payload ∷ []) ≡ replies_to client lane events
replied_to_other client lane c payload events others e differ =
    ap (picked client) (replied_answers lane payload events c others e)
    ∙ picked_more client c payload (answers_at lane events)
    ∙ ap (λ (l : List (List ℕ)). replies_to client lane events ++ l) (only_other c client payload differ)
    ∙ append-nil (replies_to client lane events)

replied_to_it : (client lane : ℕ) (payload : List ℕ) (events : List Event) (others : List ℕ) →
    unanswered lane events ≡ client ∷ others →
    replies_to client lane (events ++ Replied lane payload ∷ []) ≡ replies_to client lane events ++ payload ∷ []
replied_to_it client lane payload events others e =
    ap (picked client) (replied_answers lane payload events client others e)
    ∙ picked_more client client payload (answers_at lane events)
    ∙ ap (λ (l : List (List ℕ)). replies_to client lane events ++ l) (only_same client payload)

-- who has a frame at a lane sends its frames there
pub sends_to : (client lane : ℕ) (events : List Event) (others : List ℕ) → unanswered lane events ≡ client ∷ others →
    0 < count_by (λ k. k == lane) (account_of client events).lanes
unfolding account_of
sends_to client lane events others e =
    omega (
      arith,
      answered_at client lane events,
      turns_by_lane client lane events,
      ap (λ (l : List ℕ). count_by (λ (c : ℕ). c == client) l) e,
      count-cons (λ (c : ℕ). c == client) client others,
      ap {B = ℕ} (λ (b : Bool). cond b 1 0) (eq-eqb client client refl),
    )

count_same : (lane : ℕ) (lanes : List ℕ) → All (λ k. k ≡ lane) lanes → count_by (λ k. k == lane) lanes ≡ length lanes
count_same lane [] all = refl
count_same lane (k ∷ lanes) all =
    omega (
      arith,
      count-cons (λ (x : ℕ). x == lane) k lanes,
      ap {B = ℕ} (λ (b : Bool). cond b 1 0) (eq-eqb k lane (All-head (λ (x : ℕ). x ≡ lane) k lanes all)),
      count_same lane lanes (All-tail (λ (x : ℕ). x ≡ lane) k lanes all),
    )

-- a count of one number among numbers that are all the same
count_all : (lane l : ℕ) (lanes : List ℕ) → All (λ k. k ≡ l) lanes → 0 < count_by (λ k. k == lane) lanes →
    (lane ≡ l) × (count_by (λ k. k == lane) lanes ≡ length lanes)
count_all lane l [] all some = absurd (omega arith)
count_all lane l (k ∷ lanes) all some =
    elim (eqb_tells k lane) [
      | inl its ↦
          let is : lane ≡ l = sym its.1 ∙ All-head (λ (x : ℕ). x ≡ l) k lanes all in
          (is, omega (arith, count-cons (λ (x : ℕ). x == lane) k lanes, ap {B = ℕ} (λ (b : Bool). cond b 1 0) its.0, count_same lane lanes (λ j d lt. All-tail (λ (x : ℕ). x ≡ l) k lanes all j d lt ∙ sym is)))
      | inr other ↦
          let more : count_by (λ (x : ℕ). x == lane) (k ∷ lanes) ≡ count_by (λ (x : ℕ). x == lane) lanes =
          omega (arith, count-cons (λ (x : ℕ). x == lane) k lanes, ap {B = ℕ} (λ (b : Bool). cond b 1 0) other.0) in
          let rest = count_all lane l lanes (All-tail (λ (x : ℕ). x ≡ l) k lanes all) (omega (arith, more)) in
          absurd (other.1 (All-head (λ (x : ℕ). x ≡ l) k lanes all ∙ sym rest.0))
    ]

-- the reply, in the accounts of the client and of another
answer_lanes : (lanes : List ℕ) (client lane l : ℕ) (payload : List ℕ) (events : List Event) (others : List ℕ) →
    unanswered lane events ≡ client ∷ others → All (λ k. k ≡ l) lanes → 0 < count_by (λ k. k == lane) lanes →
    replies_of lanes client (events ++ Replied lane payload ∷ []) ≡ replies_of lanes client events ++ payload ∷ []
answer_lanes [] client lane l payload events others e all some = absurd (omega arith)
answer_lanes (k ∷ lanes) client lane l payload events others e all some =
    let is : k ≡ lane = All-head (λ (x : ℕ). x ≡ l) k lanes all ∙ sym (count_all lane l (k ∷ lanes) all some).0 in
    ap (λ (m : ℕ). replies_to client m (events ++ Replied lane payload ∷ [])) is
    ∙ replied_to_it client lane payload events others e
    ∙ ap (λ (m : ℕ). replies_to client m events ++ payload ∷ []) (sym is)

pub account_answered : (client lane l : ℕ) (payload : List ℕ) (events : List Event) (others : List ℕ) →
    unanswered lane events ≡ client ∷ others → All (λ k. k ≡ l) (account_of client events).lanes →
    account_of client (events ++ Replied lane payload ∷ [])
    ≡ record (account_of client events) { replies = (account_of client events).replies ++ payload ∷ [] }
unfolding account_of
account_answered client lane l payload events others first all =
    let e : Event = Replied lane payload in
    same_account _ _
    (ap joined (stays (piece_in client) events e refl))
    (ap joined (stays (written_in client) events e refl))
    (stays (payload_in client) events e refl)
    (stays (lane_in client) events e refl)
    (ap (λ (k : List ℕ). replies_of k client (events ++ e ∷ [])) (stays (lane_in client) events e refl)
    ∙ answer_lanes (flat_map (lane_in client) events) client lane l payload events others first all (sends_to client lane events others first))
    (ap (λ (x : List ℕ). length x) (stays (opened_in client) events e refl))
    (ap (λ (x : List ℕ). length x) (stays (ended_in client) events e refl))
    (ap (λ (x : List ℕ). length x) (stays (failed_in client) events e refl))
    (ap (λ (x : List ℕ). length x) (stays (closed_in client) events e refl))

pub account_answered_other : (client lane c : ℕ) (payload : List ℕ) (events : List Event) (others : List ℕ) →
    unanswered lane events ≡ c ∷ others → c ≢ client →
    account_of client (events ++ Replied lane payload ∷ []) ≡ account_of client events
account_answered_other client lane c payload events others first differ =
    let e : Event = Replied lane payload in
    let none : IsOthers client e = is_others client e (λ h. h) in
    account_stays client events e none (replies_stay client events e none.lanes (λ l.
    elim (eqb_tells lane l) [
      | inl here ↦ subst (λ (m : ℕ). replies_to client m (events ++ e ∷ []) ≡ replies_to client m events) here.1
          (replied_to_other client lane c payload events others first differ)
      | inr away ↦ replied_elsewhere client l lane payload events away.1
    ]))

-- a client's replies are those of its lane
lane_replies : (lanes : List ℕ) (client lane l : ℕ) (events : List Event) → All (λ k. k ≡ l) lanes →
    0 < count_by (λ k. k == lane) lanes → replies_of lanes client events ≡ replies_to client lane events
lane_replies [] client lane l events all some = absurd (omega arith)
lane_replies (k ∷ lanes) client lane l events all some =
    ap (λ (m : ℕ). replies_to client m events) (All-head (λ (x : ℕ). x ≡ l) k lanes all ∙ sym (count_all lane l (k ∷ lanes) all some).0)

-- each frame was taken by one lane
same_lengths : (client : ℕ) (e : Event) → length (lane_in client e) ≡ length (payload_in client e)
same_lengths client (Opened c) = refl
same_lengths client (Received c bytes) = refl
same_lengths client (Ended c) = refl
same_lengths client (Failed c) = refl
same_lengths client (Took lane c payload) = both (c == client)
  where
    both : (b : Bool) → length (if b then lane ∷ [] else []) ≡ length (if b then payload ∷ [] else [])
    both true = refl
    both false = refl
same_lengths client (Replied lane payload) = refl
same_lengths client (Wrote c bytes) = refl
same_lengths client (Closed c) = refl

pub same_length : (client : ℕ) (events : List Event) → length (flat_map (lane_in client) events) ≡ length (flat_map (payload_in client) events)
same_length client [] = refl
same_length client (e ∷ events) =
    omega (arith, length-append (lane_in client e) (flat_map (lane_in client) events), length-append (payload_in client e) (flat_map (payload_in client) events), same_lengths client e, same_length client events)

-- of a client's frames those under way are those that its lane has not answered
pub under_way_at : (client lane l under_way : ℕ) (events : List Event) (others : List ℕ) →
    unanswered lane events ≡ client ∷ others → All (λ k. k ≡ l) (account_of client events).lanes →
    length (account_of client events).taken ≡ length (account_of client events).replies + under_way →
    0 < under_way
unfolding account_of
under_way_at client lane l under_way events others first all counts =
    let some : 0 < count_by (λ k. k == lane) (flat_map (lane_in client) events) = sends_to client lane events others first in
    let is = count_all lane l (flat_map (lane_in client) events) all some in
    let replies = lane_replies (flat_map (lane_in client) events) client lane l events all some in
    omega (
      arith,
      is.1,
      ap (λ (k : List (List ℕ)). length k) replies,
      answered_at client lane events,
      turns_by_lane client lane events,
      same_length client events,
      ap (λ (k : List ℕ). count_by (λ (c : ℕ). c == client) k) first,
      count-cons (λ (c : ℕ). c == client) client others,
      ap {B = ℕ} (λ (b : Bool). cond b 1 0) (eq-eqb client client refl),
    )

pub account_lengths : (client : ℕ) (events : List Event) → length (account_of client events).lanes ≡ length (account_of client events).taken
unfolding account_of
account_lengths client events = same_length client events

pub account_none : (client : ℕ) → account_of client [] ≡ nothing
unfolding account_of
account_none client = refl
