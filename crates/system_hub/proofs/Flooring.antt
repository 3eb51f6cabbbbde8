-- A hub and its sockets, as one client comes, stays or goes.
use Rattle.std.proofs.Common.{◌≡◌, ◌≢◌, ◌↔◌, ◌<◌, ◌∙◌, ◌%◌, Bool, true, false, List, [], ℕ, zero, suc, length, length-set, replicate, get_or, set, sym, ap, subst, refl, inl, inr, Option, None, Some, MatchOption}
use Rattle.std.specs.List.{slice_get}
use Rattle.std.proofs.lemmas.Bool.Decides.{eqb_tells}
use Rattle.std.proofs.Math.Logic.{∥∥₁_elim, ∥∥₁_map}
use Rattle.std.proofs.lemmas.List.{length-replicate}
use Rattle.system_hub.specs.Events.{Event}
use Rattle.system_hub.specs.Kept.{Kept, IsHere, IsWellStanding, HasSeat}
use Rattle.system_hub.specs.Calls.{Follows, Opens, IsWell, IsHeard}
use Rattle.system_hub.specs.Seating.{AreSettled, IsEmpty, HasLeft, LeavesOthers, LeavesAll, Seats}
use Rattle.system_hub.specs.declared.machine.seat.Seat.{Seat}
use Rattle.system_hub.specs.declared.machine.seat.Standing.TheVariants.{Open}
use Rattle.system_hub.proofs.Calling.{open_taken, read_at}
use Rattle.system_hub.proofs.Seats.{well_taken}
use Rattle.system_hub.proofs.Members.{some_is, get_set_cases, get_set_same, get_set_other}
use Rattle.system_hub.proofs.Waiting.{has_place}
use Rattle.system_hub.proofs.Filing.{here_at}
use Rattle.system_hub.specs.Floors.{HasHistory, HasNoSocket, HasSocket, IsFloor, IsDoneWith}
use Rattle.system_hub.proofs.Staying.{history_goes_on, none_so_far}
use Rattle.system_hub.specs.declared.client.Client.{Client}

-- one client has a seat
one_sits : (hub : Kept) (a b : ℕ) → IsHere hub a → IsHere hub b → a % length hub.seats ≡ b % length hub.seats → a ≡ b
one_sits hub a b one two same =
    let x = here_at hub a one in
    let y = here_at hub b two in
    let is : x.0 ≡ y.0 = some_is (sym x.1 ∙ ap (λ (m : ℕ). slice_get hub.seats m) same ∙ y.1) in
    sym x.2.its ∙ ap (λ (s : Seat). s.client) is ∙ y.2.its

abbrev IsOf : ℕ → Option Client → Type 0
IsOf number place = MatchOption place ⊥ (λ client. client.number ≡ number)

-- the place of a client, where it was set
set_there : (clients : List (Option Client)) (k number : ℕ) (place : Option Client) → k < length clients → number % length clients ≡ k →
    slice_get (set clients k place) (number % length (set clients k place)) ≡ Some place
set_there clients k number place within its =
    let found = has_place clients k within in
    ap (λ (m : ℕ). slice_get (set clients k place) (number % m)) (length-set clients k place) ∙ ap (λ (m : ℕ). slice_get (set clients k place) m) its
    ∙ get_set_same clients k place found.0 found.1

-- and where another was
set_elsewhere : (clients : List (Option Client)) (k number : ℕ) (place : Option Client) → number % length clients ≢ k →
    slice_get (set clients k place) (number % length (set clients k place)) ≡ slice_get clients (number % length clients)
set_elsewhere clients k number place away =
    ap (λ (m : ℕ). slice_get (set clients k place) (number % m)) (length-set clients k place) ∙ get_set_other clients k (number % length clients) place away

-- who has its seat has its socket there, as it is set
pub floor_sits : (old new : Kept) (clients : List (Option Client)) (k number : ℕ) (client : Client) → IsFloor old clients → k < length clients → number % length clients ≡ k →
    client.number ≡ number → IsDoneWith number old new true → IsFloor new (set clients k (Some client))
floor_sits old new clients k number client floor within place its done =
    let n : length (set clients k (Some client)) ≡ length clients = length-set clients k (Some client) in
    let size : length clients ≡ length new.seats = floor.size ∙ sym done.done.size in
    record {
      history = done.done.history floor.history;
      settled = done.done.others.settled floor.settled;
      size = n ∙ size;
      places = λ j c at.
          elim (get_set_cases clients k (Some client) j (Some c) at) [
            | inl h ↦
                ap (λ (m : ℕ). c.number % m) n ∙ ap (λ (x : Client). x.number % length clients) (some_is h.1) ∙ ap (λ (x : ℕ). x % length clients) its ∙ place ∙ sym h.0
            | inr h ↦ ap (λ (m : ℕ). c.number % m) n ∙ floor.places j c h.1
          ];
      sockets = λ x.
          elim (eqb_tells x number) [
            | inl same ↦ (
              λ h. subst (λ (o : Option (Option Client)). MatchOption o ⊥ (IsOf x)) (sym (set_there clients k x (Some client) within (ap (λ (m : ℕ). m % length clients) same.1 ∙ place))) (its ∙ sym same.1),
              λ h. subst (λ (m : ℕ). IsHere new m) (sym same.1) done.seat,
            )
            | inr away ↦
                elim (eqb_tells (x % length clients) k) [
                  | inl here ↦ (
                    λ h. absurd (away.1 (one_sits new x number h done.seat (ap (λ (m : ℕ). x % m) (sym size) ∙ here.1 ∙ sym place ∙ ap (λ (m : ℕ). number % m) size))),
                    λ h. absurd (away.1 (sym (subst (λ (o : Option (Option Client)). MatchOption o ⊥ (IsOf x)) (set_there clients k x (Some client) within here.1) h) ∙ its)),
                  )
                  | inr far ↦
                      let is = set_elsewhere clients k x (Some client) far.1 in (
                        λ h. subst (λ (o : Option (Option Client)). MatchOption o ⊥ (IsOf x)) (sym is) ((floor.sockets x).0 ((done.done.others.others x away.1).1 h)),
                        λ h. (done.done.others.others x away.1).0 ((floor.sockets x).1 (subst (λ (o : Option (Option Client)). MatchOption o ⊥ (IsOf x)) is h)),
                      )
                ]
          ];
    }

-- who has left its seat has no socket there any more
pub floor_leaves : (old new : Kept) (clients : List (Option Client)) (k number : ℕ) → IsFloor old clients → k < length clients → number % length clients ≡ k →
    IsHere old number → IsDoneWith number old new false → IsFloor new (set clients k None)
floor_leaves old new clients k number floor within place here done =
    let n : length (set clients k None) ≡ length clients = length-set clients k None in
    let size : length clients ≡ length new.seats = floor.size ∙ sym done.done.size in
    record {
      history = done.done.history floor.history;
      settled = done.done.others.settled floor.settled;
      size = n ∙ size;
      places = λ j c at.
          elim (get_set_cases clients k None j (Some c) at) [
            | inl h ↦ absurd (cc h.1)
            | inr h ↦ ap (λ (m : ℕ). c.number % m) n ∙ floor.places j c h.1
          ];
      sockets = λ x.
          elim (eqb_tells (x % length clients) k) [
            | inl there ↦ (
              λ h.
                  elim (eqb_tells x number) [
                    | inl same ↦ absurd (done.seat (subst (λ (m : ℕ). IsHere new m) same.1 h))
                    | inr away ↦ absurd (away.1 (one_sits old x number ((done.done.others.others x away.1).1 h) here
                        (ap (λ (m : ℕ). x % m) (sym floor.size) ∙ there.1 ∙ sym place ∙ ap (λ (m : ℕ). number % m) floor.size)))
                  ],
              λ h. absurd (subst (λ (o : Option (Option Client)). MatchOption o ⊥ (IsOf x)) (set_there clients k x None within there.1) h),
            )
            | inr far ↦
                let differ : x ≢ number = λ same. far.1 (ap (λ (m : ℕ). m % length clients) same ∙ place) in
                let is = set_elsewhere clients k x None far.1 in (
                  λ h. subst (λ (o : Option (Option Client)). MatchOption o ⊥ (IsOf x)) (sym is) ((floor.sockets x).0 ((done.done.others.others x differ).1 h)),
                  λ h. (done.done.others.others x differ).0 ((floor.sockets x).1 (subst (λ (o : Option (Option Client)). MatchOption o ⊥ (IsOf x)) is h)),
                )
          ];
    }

-- nobody comes or goes
pub floor_same : (old new : Kept) (clients : List (Option Client)) → IsFloor old clients → HasHistory new → length new.seats ≡ length old.seats → LeavesAll old new → IsFloor new clients
floor_same old new clients floor history size all = record {
  history = history;
  settled = all.settled floor.settled;
  size = floor.size ∙ sym size;
  places = floor.places;
  sockets = λ x. (λ h. (floor.sockets x).0 ((all.all x).1 h), λ h. (all.all x).0 ((floor.sockets x).1 h));
}

-- whose socket lies at a place has its seat
pub socket_here : (hub : Kept) (clients : List (Option Client)) (k : ℕ) (client : Client) → IsFloor hub clients → slice_get clients k ≡ Some (Some client) → IsHere hub client.number
socket_here hub clients k client floor at =
    (floor.sockets client.number).1
    (subst (λ (o : Option (Option Client)). MatchOption o ⊥ (IsOf client.number)) (sym (ap (λ (m : ℕ). slice_get clients m) (floor.places k client at) ∙ at)) refl)

-- The same of a floor of which it is known that it is one: a client's place, as the code finds it.
place_at : (clients : List (Option Client)) (k : ℕ) (place : Option Client) (client : Client) → k < length clients → place ≡ get_or clients k place → Some client ≡ place →
    slice_get clients k ≡ Some (Some client)
place_at clients k place client within read is = read_at clients k place within read ∙ ap (λ (p : Option Client). Some p) (sym is)

pub done_leaves : (old new : Kept) (clients : List (Option Client)) (k : ℕ) (place taken : Option Client) (client : Client) (b : Bool) → ∥ IsFloor old clients ∥₁ →
    k < length clients → place ≡ get_or clients k place → Some client ≡ place → taken ≡ None → b ≡ false → IsDoneWith client.number old new b →
    ∥ IsFloor new (set clients k taken) ∥₁
done_leaves old new clients k place taken client b law within read is none left done =
    let at = place_at clients k place client within read is in
    subst (λ (p : Option Client). ∥ IsFloor new (set clients k p) ∥₁) (sym none)
    (∥∥₁_map law (λ floor. floor_leaves old new clients k client.number floor within (floor.places k client at) (socket_here old clients k client floor at)
    (subst (λ (x : Bool). IsDoneWith client.number old new x) left done)))

pub done_sits : (old new : Kept) (clients : List (Option Client)) (k : ℕ) (place : Option Client) (client mid : Client) (b : Bool) → ∥ IsFloor old clients ∥₁ →
    k < length clients → place ≡ get_or clients k place → Some client ≡ place → mid.number ≡ client.number → b ≡ true → IsDoneWith client.number old new b →
    ∥ IsFloor new (set clients k (Some mid)) ∥₁
done_sits old new clients k place client mid b law within read is same stays done =
    let at = place_at clients k place client within read is in
    ∥∥₁_map law (λ floor. floor_sits old new clients k client.number mid floor within (floor.places k client at) same
    (subst (λ (x : Bool). IsDoneWith client.number old new x) stays done))

-- a client is looked at
pub looked_at : (hub : Kept) (clients : List (Option Client)) (k : ℕ) (place : Option Client) (client mid : Client) → ∥ IsFloor hub clients ∥₁ →
    k < length clients → place ≡ get_or clients k place → Some client ≡ place → mid.number ≡ client.number → ∥ IsFloor hub (set clients k (Some mid)) ∥₁
looked_at hub clients k place client mid law within read is same =
    let at = place_at clients k place client within read is in
    ∥∥₁_map law (λ floor. floor_sits hub hub clients k client.number mid floor within (floor.places k client at) same
    (record { done = none_so_far client.number hub; seat = socket_here hub clients k client floor at }))

-- a client comes
pub floor_comes : (old new : Kept) (clients : List (Option Client)) (k number : ℕ) (client : Client) → ∥ IsFloor old clients ∥₁ → k < length clients → k ≡ number % length new.seats →
    client.number ≡ number → Opens old new number → Seats old new number → ∥ IsFloor new (set clients k (Some client)) ∥₁
floor_comes old new clients k number client law within place same opens seats =
    ∥∥₁_map law (λ floor.
    let events = floor.history.0 in
    let h = floor.history.1 in
    floor_sits old new clients k number client floor within (ap (λ (m : ℕ). number % m) (floor.size ∙ sym opens.came.size.seats) ∙ sym place) same
    (record {
      done = record { history = history_goes_on old new _ opens.came; size = opens.came.size.seats; others = seats.others events h };
      seat = seats.here events h;
    }))

pub floor_goes_on : (old new : Kept) (clients : List (Option Client)) (since : List Event) → ∥ IsFloor old clients ∥₁ → Follows old new since → LeavesAll old new → ∥ IsFloor new clients ∥₁
floor_goes_on old new clients since law follows all =
    ∥∥₁_map law (λ floor. floor_same old new clients floor (history_goes_on old new since follows floor.history) follows.size.seats all)

-- Who failed by a reply had its seat.
pub floor_vacated : (old new : Kept) (clients : List (Option Client)) (k number : ℕ) (since : List Event) → ∥ IsFloor old clients ∥₁ → k < length new.seats → k ≡ number % length new.seats →
    IsHere old number → Follows old new since → LeavesOthers number old new → HasLeft number new → ∥ IsFloor new (set clients k None) ∥₁
floor_vacated old new clients k number since law within place here follows others left =
    ∥∥₁_map law (λ floor.
    let n : length clients ≡ length new.seats = floor.size ∙ sym follows.size.seats in
    floor_leaves old new clients k number floor (subst (λ (m : ℕ). k < m) (sym n) within) (ap (λ (m : ℕ). number % m) n ∙ sym place) here
    (record { done = record { history = history_goes_on old new since follows; size = follows.size.seats; others = others }; seat = left }))

-- a floor that nobody has come to
pub floor_begins : (hub : Kept) (clients : List (Option Client)) (n : ℕ) → ∥ HasHistory hub ∥₁ → AreSettled hub → IsEmpty hub → length hub.seats ≡ n → clients ≡ replicate n None → ∥ IsFloor hub clients ∥₁
floor_begins hub clients n history settled empty size none =
    ∥∥₁_map history (λ h. subst (λ (l : List (Option Client)). IsFloor hub l) (sym none) (record {
      history = h;
      settled = settled;
      size = length-replicate n None ∙ sym size;
      places = λ k client at. absurd (cc (each_none n k (Some client) at));
      sockets = λ number. (
        λ here. let found = here_at hub number here in absurd (empty (number % length hub.seats) found.0 found.1 found.2.taken),
        λ socket. absurd (no_socket n (number % length (replicate {A = Option Client} n None)) number socket),
      );
    }))
  where
    each_none : (m k : ℕ) (place : Option Client) → slice_get (replicate m None) k ≡ Some place → None ≡ place
    each_none zero k place e = absurd (cc e)
    each_none (suc m) zero place e = some_is e
    each_none (suc m) (suc k) place e = each_none m k place e

    no_socket : (m k number : ℕ) → MatchOption (slice_get (replicate m None) k) ⊥ (IsOf number) → ⊥
    no_socket zero k number h = h
    no_socket (suc m) zero number h = h
    no_socket (suc m) (suc k) number h = no_socket m k number h

pub floor_next : (old new : Kept) (clients : List (Option Client)) (r : Option ℕ) (X : Type 0) (since : ℕ → List Event) → ∥ IsFloor old clients ∥₁ →
    MatchOption r (Follows old new [] × X) (λ client. Follows old new (since client)) → LeavesAll old new → ∥ IsFloor new clients ∥₁
floor_next old new clients None X since law taken all = floor_goes_on old new clients [] law taken.0 all
floor_next old new clients (Some client) X since law taken all = floor_goes_on old new clients (since client) law taken all

-- who is well has its seat
pub well_sits : (hub : Kept) (client : ℕ) → IsWell hub client → IsHere hub client
well_sits hub client well = go (slice_get hub.seats (client % length hub.seats)) well
  where
    go : (o : Option Seat) → MatchOption o ⊥ (λ s. (s.client ≡ client) × IsWellStanding s.standing) → MatchOption o ⊥ (HasSeat client)
    go None h = h
    go (Some s) h = record { its = h.0; taken = well_taken s.standing h.1 }

-- and who is heard
pub heard_sits : (hub : Kept) (client : ℕ) → IsHeard hub client → IsHere hub client
heard_sits hub client heard = go (slice_get hub.seats (client % length hub.seats)) heard
  where
    go : (o : Option Seat) → MatchOption o ⊥ (λ s. (s.client ≡ client) × (s.standing ≡ Open)) → MatchOption o ⊥ (HasSeat client)
    go None h = h
    go (Some s) h = record { its = h.0; taken = open_taken s.standing h.1 }

-- where nobody sits, no socket is open
pub nothing_open : (hub : Kept) (clients : List (Option Client)) → ∥ IsFloor hub clients ∥₁ → IsEmpty hub → HasNoSocket clients
nothing_open hub clients law empty = λ k client at.
    ∥∥₁_elim law (λ a b. absurd a) (λ floor.
    let found = here_at hub client.number (socket_here hub clients k client floor at) in
    empty (client.number % length hub.seats) found.0 found.1 found.2.taken)
