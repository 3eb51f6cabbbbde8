-- What one more event adds to a history: to the lists of a client and of a lane.
use Rattle.std.proofs.Common.{◌≡◌, ◌≢◌, ◌==◌, ◌++◌, ◌∙◌, ◌+◌, ℕ, Bool, if◌then◌else◌, List, [], ◌∷◌, length, map, ap, refl, inl, inr, length-append}
use Rattle.std.specs.List.{flat_map, filter, zip}
use Rattle.std.proofs.lemmas.Bool.{eq-eqb}
use Rattle.std.proofs.lemmas.Bool.Decides.{eqb_tells}
use Rattle.std.proofs.lemmas.List.{append-nil}
use Rattle.std.proofs.lemmas.List.Concat.{flat_map-append}
use Rattle.system_hub.specs.Events.{Event, Opened, Received, Ended, Failed, Took, Replied, Wrote, Closed, only, piece_in, payload_in, lane_in, client_in, reply_in, written_in, opened_in, ended_in, failed_in, closed_in}
use Rattle.system_hub.specs.Lanes.{answers_at}
use Rattle.system_hub.specs.Accounts.{Account, account_of, joined, replies_of, replies_to}

-- a list that each event gives a part of
pub grows : {X : Type 0} (part : Event → List X) (events : List Event) (e : Event) →
    flat_map part (events ++ e ∷ []) ≡ flat_map part events ++ part e
grows part events e =
    flat_map-append part events (e ∷ []) ∙ ap (λ x. flat_map part events ++ x) (append-nil (part e))

-- an event that gives it none
pub stays : {X : Type 0} (part : Event → List X) (events : List Event) (e : Event) →
    part e ≡ [] → flat_map part (events ++ e ∷ []) ≡ flat_map part events
stays part events e none =
    grows part events e
    ∙ ap (λ x. flat_map part events ++ x) none
    ∙ append-nil (flat_map part events)

-- and one that gives it this
pub adds : {X : Type 0} (part : Event → List X) (events : List Event) (e : Event) (x : X) →
    part e ≡ x ∷ [] → flat_map part (events ++ e ∷ []) ≡ flat_map part events ++ x ∷ []
adds part events e x one = grows part events e ∙ ap (λ y. flat_map part events ++ y) one

-- by a number's own event, and by another's
pub only_same : {X : Type 0} (n : ℕ) (x : X) → only n n x ≡ x ∷ []
only_same n x = ap (λ (b : Bool). if b then x ∷ [] else []) (eq-eqb n n refl)

pub only_other : {X : Type 0} (m n : ℕ) (x : X) → m ≢ n → only m n x ≡ []
only_other m n x differ =
    elim (eqb_tells m n) [
      | inl same ↦ absurd (differ same.1)
      | inr other ↦ ap (λ (b : Bool). if b then x ∷ [] else []) other.0
    ]

-- pieces and one more
pub joined_more : (pieces : List (List ℕ)) (piece : List ℕ) →
    joined (pieces ++ piece ∷ []) ≡ joined pieces ++ piece
joined_more pieces piece =
    flat_map-append (λ (p : List ℕ). p) pieces (piece ∷ [])
    ∙ ap (λ (x : List ℕ). joined pieces ++ x) (append-nil piece)

length_more : (xs : List ℕ) (x : ℕ) → length (xs ++ x ∷ []) ≡ length xs + 1
length_more xs x = length-append xs (x ∷ [])

pub same_account : (a b : Account) → a.received ≡ b.received → a.written ≡ b.written →
    a.taken ≡ b.taken → a.lanes ≡ b.lanes → a.replies ≡ b.replies → a.comings ≡ b.comings →
    a.ends ≡ b.ends → a.failures ≡ b.failures → a.leavings ≡ b.leavings → a ≡ b
same_account a b r w t l p c e f v = λ i. record {
  received = r i;
  written = w i;
  taken = t i;
  lanes = l i;
  replies = p i;
  comings = c i;
  ends = e i;
  failures = f i;
  leavings = v i;
}

-- nothing of the event is this client's, but perhaps a reply
pub record IsOthers (client : ℕ) (e : Event) : Type 0 where
  pub received : piece_in client e ≡ []
  pub written : written_in client e ≡ []
  pub taken : payload_in client e ≡ []
  pub lanes : lane_in client e ≡ []
  pub comings : opened_in client e ≡ []
  pub ends : ended_in client e ≡ []
  pub failures : failed_in client e ≡ []
  pub leavings : closed_in client e ≡ []

-- no lane takes or answers a frame by the event
pub record IsQuiet (e : Event) : Type 0 where
  pub clients : (lane : ℕ) → client_in lane e ≡ []
  pub replies : (lane : ℕ) → reply_in lane e ≡ []

pub answers_stay : (lane : ℕ) (events : List Event) (e : Event) → client_in lane e ≡ [] →
    reply_in lane e ≡ [] → answers_at lane (events ++ e ∷ []) ≡ answers_at lane events
answers_stay lane events e c r = λ i.
    zip (stays (client_in lane) events e c i) (stays (reply_in lane) events e r i)

abbrev picked : ℕ → List (ℕ × List ℕ) → List (List ℕ)
picked client answers = map (λ a. a.1) (filter (λ a. a.0 == client) answers)

pub replies_same : (lanes : List ℕ) (client : ℕ) (old new : List Event) →
    ((lane : ℕ) → replies_to client lane new ≡ replies_to client lane old) →
    replies_of lanes client new ≡ replies_of lanes client old
replies_same [] client old new same = refl
replies_same (lane ∷ others) client old new same = same lane

-- an event that takes no frame of a client changes its replies only where it changes a lane's
pub replies_stay : (client : ℕ) (events : List Event) (e : Event) → lane_in client e ≡ [] →
    ((lane : ℕ) → replies_to client lane (events ++ e ∷ []) ≡ replies_to client lane events) →
    (account_of client (events ++ e ∷ [])).replies ≡ (account_of client events).replies
unfolding account_of
replies_stay client events e none same =
    ap (λ (l : List ℕ). replies_of l client (events ++ e ∷ [])) (stays (lane_in client) events e none)
    ∙ replies_same (flat_map (lane_in client) events) client events (events ++ e ∷ []) same

pub quiet_replies : (client : ℕ) (events : List Event) (e : Event) → IsQuiet e → (lane : ℕ) →
    replies_to client lane (events ++ e ∷ []) ≡ replies_to client lane events
quiet_replies client events e quiet lane =
    ap (picked client) (answers_stay lane events e (quiet.clients lane) (quiet.replies lane))

-- the account of another client stays as it was
pub account_stays : (client : ℕ) (events : List Event) (e : Event) → IsOthers client e →
    (account_of client (events ++ e ∷ [])).replies ≡ (account_of client events).replies →
    account_of client (events ++ e ∷ []) ≡ account_of client events
unfolding account_of
account_stays client events e others replies = same_account _ _
    (ap joined (stays (piece_in client) events e others.received))
    (ap joined (stays (written_in client) events e others.written))
    ((stays (payload_in client) events e others.taken))
    ((stays (lane_in client) events e others.lanes))
    replies
    (ap (λ (x : List ℕ). length x) (stays (opened_in client) events e others.comings))
    (ap (λ (x : List ℕ). length x) (stays (ended_in client) events e others.ends))
    (ap (λ (x : List ℕ). length x) (stays (failed_in client) events e others.failures))
    (ap (λ (x : List ℕ). length x) (stays (closed_in client) events e others.leavings))

pub account_received : (client : ℕ) (events : List Event) (bytes : List ℕ) →
    account_of client (events ++ Received client bytes ∷ [])
    ≡ record (account_of client events) { received = (account_of client events).received ++ bytes }
unfolding account_of
account_received client events bytes = same_account _ _
    (ap joined (adds (piece_in client) events (Received client bytes) bytes (only_same client bytes)) ∙ joined_more (flat_map (piece_in client) events) bytes)
    (ap joined (stays (written_in client) events (Received client bytes) refl))
    ((stays (payload_in client) events (Received client bytes) refl))
    ((stays (lane_in client) events (Received client bytes) refl))
    (replies_stay client events (Received client bytes) refl (quiet_replies client events (Received client bytes) (record { clients = λ lane. refl; replies = λ lane. refl })))
    (ap (λ (x : List ℕ). length x) (stays (opened_in client) events (Received client bytes) refl))
    (ap (λ (x : List ℕ). length x) (stays (ended_in client) events (Received client bytes) refl))
    (ap (λ (x : List ℕ). length x) (stays (failed_in client) events (Received client bytes) refl))
    (ap (λ (x : List ℕ). length x) (stays (closed_in client) events (Received client bytes) refl))

pub account_wrote : (client : ℕ) (events : List Event) (bytes : List ℕ) →
    account_of client (events ++ Wrote client bytes ∷ [])
    ≡ record (account_of client events) { written = (account_of client events).written ++ bytes }
unfolding account_of
account_wrote client events bytes = same_account _ _
    (ap joined (stays (piece_in client) events (Wrote client bytes) refl))
    (ap joined (adds (written_in client) events (Wrote client bytes) bytes (only_same client bytes)) ∙ joined_more (flat_map (written_in client) events) bytes)
    ((stays (payload_in client) events (Wrote client bytes) refl))
    ((stays (lane_in client) events (Wrote client bytes) refl))
    (replies_stay client events (Wrote client bytes) refl (quiet_replies client events (Wrote client bytes) (record { clients = λ lane. refl; replies = λ lane. refl })))
    (ap (λ (x : List ℕ). length x) (stays (opened_in client) events (Wrote client bytes) refl))
    (ap (λ (x : List ℕ). length x) (stays (ended_in client) events (Wrote client bytes) refl))
    (ap (λ (x : List ℕ). length x) (stays (failed_in client) events (Wrote client bytes) refl))
    (ap (λ (x : List ℕ). length x) (stays (closed_in client) events (Wrote client bytes) refl))

pub account_opened : (client : ℕ) (events : List Event) →
    account_of client (events ++ Opened client ∷ [])
    ≡ record (account_of client events) { comings = (account_of client events).comings + 1 }
unfolding account_of
account_opened client events = same_account _ _
    (ap joined (stays (piece_in client) events (Opened client) refl))
    (ap joined (stays (written_in client) events (Opened client) refl))
    ((stays (payload_in client) events (Opened client) refl))
    ((stays (lane_in client) events (Opened client) refl))
    (replies_stay client events (Opened client) refl (quiet_replies client events (Opened client) (record { clients = λ lane. refl; replies = λ lane. refl })))
    (ap (λ (x : List ℕ). length x) (adds (opened_in client) events (Opened client) client (only_same client client)) ∙ length_more (flat_map (opened_in client) events) client)
    (ap (λ (x : List ℕ). length x) (stays (ended_in client) events (Opened client) refl))
    (ap (λ (x : List ℕ). length x) (stays (failed_in client) events (Opened client) refl))
    (ap (λ (x : List ℕ). length x) (stays (closed_in client) events (Opened client) refl))

pub account_ended : (client : ℕ) (events : List Event) →
    account_of client (events ++ Ended client ∷ [])
    ≡ record (account_of client events) { ends = (account_of client events).ends + 1 }
unfolding account_of
account_ended client events = same_account _ _
    (ap joined (stays (piece_in client) events (Ended client) refl))
    (ap joined (stays (written_in client) events (Ended client) refl))
    ((stays (payload_in client) events (Ended client) refl))
    ((stays (lane_in client) events (Ended client) refl))
    (replies_stay client events (Ended client) refl (quiet_replies client events (Ended client) (record { clients = λ lane. refl; replies = λ lane. refl })))
    (ap (λ (x : List ℕ). length x) (stays (opened_in client) events (Ended client) refl))
    (ap (λ (x : List ℕ). length x) (adds (ended_in client) events (Ended client) client (only_same client client)) ∙ length_more (flat_map (ended_in client) events) client)
    (ap (λ (x : List ℕ). length x) (stays (failed_in client) events (Ended client) refl))
    (ap (λ (x : List ℕ). length x) (stays (closed_in client) events (Ended client) refl))

pub account_failed : (client : ℕ) (events : List Event) →
    account_of client (events ++ Failed client ∷ [])
    ≡ record (account_of client events) { failures = (account_of client events).failures + 1 }
unfolding account_of
account_failed client events = same_account _ _
    (ap joined (stays (piece_in client) events (Failed client) refl))
    (ap joined (stays (written_in client) events (Failed client) refl))
    ((stays (payload_in client) events (Failed client) refl))
    ((stays (lane_in client) events (Failed client) refl))
    (replies_stay client events (Failed client) refl (quiet_replies client events (Failed client) (record { clients = λ lane. refl; replies = λ lane. refl })))
    (ap (λ (x : List ℕ). length x) (stays (opened_in client) events (Failed client) refl))
    (ap (λ (x : List ℕ). length x) (stays (ended_in client) events (Failed client) refl))
    (ap (λ (x : List ℕ). length x) (adds (failed_in client) events (Failed client) client (only_same client client)) ∙ length_more (flat_map (failed_in client) events) client)
    (ap (λ (x : List ℕ). length x) (stays (closed_in client) events (Failed client) refl))

pub account_closed : (client : ℕ) (events : List Event) →
    account_of client (events ++ Closed client ∷ [])
    ≡ record (account_of client events) { leavings = (account_of client events).leavings + 1 }
unfolding account_of
account_closed client events = same_account _ _
    (ap joined (stays (piece_in client) events (Closed client) refl))
    (ap joined (stays (written_in client) events (Closed client) refl))
    ((stays (payload_in client) events (Closed client) refl))
    ((stays (lane_in client) events (Closed client) refl))
    (replies_stay client events (Closed client) refl (quiet_replies client events (Closed client) (record { clients = λ lane. refl; replies = λ lane. refl })))
    (ap (λ (x : List ℕ). length x) (stays (opened_in client) events (Closed client) refl))
    (ap (λ (x : List ℕ). length x) (stays (ended_in client) events (Closed client) refl))
    (ap (λ (x : List ℕ). length x) (stays (failed_in client) events (Closed client) refl))
    (ap (λ (x : List ℕ). length x) (adds (closed_in client) events (Closed client) client (only_same client client)) ∙ length_more (flat_map (closed_in client) events) client)

-- whose event it is; a reply is nobody's here
abbrev pub IsOf : ℕ → Event → Type 0
IsOf client (Opened c) = c ≡ client
IsOf client (Received c bytes) = c ≡ client
IsOf client (Ended c) = c ≡ client
IsOf client (Failed c) = c ≡ client
IsOf client (Took lane c payload) = c ≡ client
IsOf client (Replied lane payload) = ⊥
IsOf client (Wrote c bytes) = c ≡ client
IsOf client (Closed c) = c ≡ client

pub is_others : (client : ℕ) (e : Event) → (IsOf client e → ⊥) → IsOthers client e
is_others client (Opened c) apart = record {
  received = refl;
  written = refl;
  taken = refl;
  lanes = refl;
  comings = only_other c client c apart;
  ends = refl;
  failures = refl;
  leavings = refl;
}
is_others client (Received c bytes) apart = record {
  received = only_other c client bytes apart;
  written = refl;
  taken = refl;
  lanes = refl;
  comings = refl;
  ends = refl;
  failures = refl;
  leavings = refl;
}
is_others client (Ended c) apart = record {
  received = refl;
  written = refl;
  taken = refl;
  lanes = refl;
  comings = refl;
  ends = only_other c client c apart;
  failures = refl;
  leavings = refl;
}
is_others client (Failed c) apart = record {
  received = refl;
  written = refl;
  taken = refl;
  lanes = refl;
  comings = refl;
  ends = refl;
  failures = only_other c client c apart;
  leavings = refl;
}
is_others client (Took lane c payload) apart = record {
  received = refl;
  written = refl;
  taken = only_other c client payload apart;
  lanes = only_other c client lane apart;
  comings = refl;
  ends = refl;
  failures = refl;
  leavings = refl;
}
is_others client (Replied lane payload) apart = record {
  received = refl;
  written = refl;
  taken = refl;
  lanes = refl;
  comings = refl;
  ends = refl;
  failures = refl;
  leavings = refl;
}
is_others client (Wrote c bytes) apart = record {
  received = refl;
  written = only_other c client bytes apart;
  taken = refl;
  lanes = refl;
  comings = refl;
  ends = refl;
  failures = refl;
  leavings = refl;
}
is_others client (Closed c) apart = record {
  received = refl;
  written = refl;
  taken = refl;
  lanes = refl;
  comings = refl;
  ends = refl;
  failures = refl;
  leavings = only_other c client c apart;
}

-- an event at no lane leaves the account of each other client as it was
pub account_quiet : (client : ℕ) (events : List Event) (e : Event) → IsQuiet e →
    (IsOf client e → ⊥) → account_of client (events ++ e ∷ []) ≡ account_of client events
account_quiet client events e quiet apart =
    let others : IsOthers client e = is_others client e apart in
    account_stays client events e others
    (replies_stay client events e others.lanes (quiet_replies client events e quiet))
