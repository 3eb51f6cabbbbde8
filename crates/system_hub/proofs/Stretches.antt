-- The law of a history that goes on, and whose turn it is.
use Rattle.std.proofs.Common.{◌≡◌, ◌≢◌, ◌==◌, ◌≤◌, ◌++◌, ◌∙◌, ◌⊎◌, ◌+◌, ℕ, Bool, not, cond, List, [], ◌∷◌, sym, ap, subst, refl, inl, inr, append_assoc, arith, count_by}
use Rattle.std.specs.List.{Contains, filter}
use Rattle.std.proofs.lemmas.Bool.{eq-eqb}
use Rattle.std.proofs.lemmas.Bool.Decides.{eqb_tells}
use Rattle.std.proofs.lemmas.List.{append-nil, same_from_push}
use Rattle.std.proofs.lemmas.List.Elements.{Contains-append_left, Contains-get_or}
use Rattle.std.proofs.lemmas.List.Kept.{AllPairs-filter}
use Rattle.std.proofs.lemmas.List.Quantifiers.{all_pairs_push}
use Rattle.system_hub.specs.Events.{Event, Took, only, client_in}
use Rattle.system_hub.specs.Accounts.{account_of}
use Rattle.system_hub.specs.Lanes.{clients_at, turns_of}
use Rattle.system_hub.specs.Fair.{Waits, WaitsThrough, IsFairNow}
use Rattle.system_hub.specs.Lawful.{MayHappen, IsLawfulNow, IsLawful}
use Rattle.system_hub.specs.Kept.{AreTurns}
use Rattle.system_hub.proofs.Growing.{grows, only_same, only_other}
use Rattle.system_hub.proofs.Answered.{count-append, count-one}
use Rattle.system_hub.proofs.Members.{member_cases, member_first, member_later, member_split, apart_head, apart_tail, filter_member, filter_split}

-- a list is empty, or has a last element
last_or_none : {X : Type 0} (xs : List X) → (xs ≡ []) ⊎ ((ys : List X) × (y : X) × (xs ≡ ys ++ y ∷ []))
last_or_none [] = inl refl
last_or_none (x ∷ xs) =
    elim (last_or_none xs) [
      | inl none ↦ inr ([], x, ap (λ zs. x ∷ zs) none)
      | inr some ↦ inr (x ∷ some.0, some.1, ap (λ zs. x ∷ zs) some.2)
    ]

-- a stretch that ends behind one more event is empty, or has that event last
pub stretch_cases : (events before during : List Event) (e : Event) → events ++ e ∷ [] ≡ before ++ during →
    (during ≡ []) ⊎ ((d : List Event) × (during ≡ d ++ e ∷ []) × (events ≡ before ++ d))
stretch_cases events before during e eq =
    elim (last_or_none during) [
      | inl none ↦ inl none
      | inr some ↦
          let same = same_from_push events (before ++ some.0) e some.1
          (eq ∙ ap (λ (l : List Event). before ++ l) some.2 ∙ sym (append_assoc before some.0 (some.1 ∷ []))) in
          inr (some.0, some.2 ∙ ap (λ (x : Event). some.0 ++ x ∷ []) (sym same.1), same.0)
    ]

pub lawful_now : (place lanes : ℕ) (events : List Event) → IsLawful place lanes events → IsLawfulNow place lanes events
lawful_now place lanes events law = law events [] (sym (append-nil events))

pub lawful_more : (place lanes : ℕ) (events : List Event) (e : Event) → IsLawful place lanes events →
    IsLawfulNow place lanes (events ++ e ∷ []) → IsLawful place lanes (events ++ e ∷ [])
lawful_more place lanes events e law now = λ before after eq.
    elim (stretch_cases events before after e eq) [
      | inl none ↦
          subst (λ (l : List Event). IsLawfulNow place lanes l)
          (eq ∙ ap (λ (l : List Event). before ++ l) none ∙ append-nil before) now
      | inr more ↦ law before more.0 more.2
    ]

pub latest_more : (place lanes : ℕ) (events : List Event) (e : Event) → MayHappen place lanes events e →
    (before : List Event) (event : Event) → events ++ e ∷ [] ≡ before ++ event ∷ [] → MayHappen place lanes before event
latest_more place lanes events e may before event eq =
    let same = same_from_push events before e event eq in
    subst (λ (l : List Event). MayHappen place lanes l event) same.0
    (subst (λ (x : Event). MayHappen place lanes events x) same.1 may)

pub turns_more : (client lane : ℕ) (events : List Event) (e : Event) →
    turns_of client lane (events ++ e ∷ []) ≡ turns_of client lane events + count_by (λ c. c == client) (client_in lane e)
turns_more client lane events e =
    ap (λ (l : List ℕ). count_by (λ (c : ℕ). c == client) l) (grows (client_in lane) events e)
    ∙ count-append (λ (c : ℕ). c == client) (clients_at lane events) (client_in lane e)

turns_stay : (client lane : ℕ) (events : List Event) (e : Event) → client_in lane e ≡ [] →
    turns_of client lane (events ++ e ∷ []) ≡ turns_of client lane events
turns_stay client lane events e none =
    omega (arith, turns_more client lane events e, ap (λ (l : List ℕ). count_by (λ (c : ℕ). c == client) l) none)

no_turns : (other lane : ℕ) (during : List Event) → during ≡ [] → turns_of other lane during ≡ 0
no_turns other lane during none = ap (λ (l : List Event). turns_of other lane l) none

-- who waits through a stretch waits at its end, and through one that ends earlier
pub waits_now : (place lanes lane client : ℕ) (events before during : List Event) → events ≡ before ++ during →
    WaitsThrough place lanes lane client before during → Waits place lanes lane (account_of client events)
waits_now place lanes lane client events before during eq waits =
    subst (λ (l : List Event). Waits place lanes lane (account_of client l)) (sym eq)
    (waits.each during [] (sym (append-nil during)))

shorter : (place lanes lane client : ℕ) (before during d : List Event) (e : Event) → during ≡ d ++ e ∷ [] →
    WaitsThrough place lanes lane client before during → WaitsThrough place lanes lane client before d
shorter place lanes lane client before during d e eq waits = record {
  each = λ first later split. waits.each first (later ++ e ∷ [])
      (eq ∙ ap (λ (l : List Event). l ++ e ∷ []) split ∙ append_assoc first later (e ∷ []));
  no_turn = omega (arith, waits.no_turn, ap (λ (l : List Event). turns_of client lane l) eq, turns_more client lane d e);
}

-- who waits through a stretch that ends behind a turn did not have that turn
not_its : (place lanes lane client c : ℕ) (payload : List ℕ) (before during d : List Event) →
    during ≡ d ++ Took lane c payload ∷ [] → WaitsThrough place lanes lane client before during → c ≢ client
not_its place lanes lane client c payload before during d eq waits = λ same.
    let one : count_by (λ (x : ℕ). x == client) (only lane lane c) ≡ 1 =
    ap (λ (l : List ℕ). count_by (λ (x : ℕ). x == client) l) (only_same lane c)
    ∙ count-one (λ (x : ℕ). x == client) c
    ∙ ap {B = ℕ} (λ (b : Bool). cond b 1 0) (eq-eqb c client same) in
    omega (arith, waits.no_turn, ap (λ (l : List Event). turns_of client lane l) eq, turns_more client lane d (Took lane c payload), one)

-- the turns by an event of another
other_turn : (lane c other : ℕ) (payload : List ℕ) (d : List Event) → c ≢ other →
    turns_of other lane (d ++ Took lane c payload ∷ []) ≡ turns_of other lane d
other_turn lane c other payload d differ =
    let none : count_by (λ (x : ℕ). x == other) (only lane lane c) ≡ 0 =
    ap (λ (l : List ℕ). count_by (λ (x : ℕ). x == other) l) (only_same lane c)
    ∙ count-one (λ (x : ℕ). x == other) c
    ∙ differs (eqb_tells c other) in
    omega (arith, turns_more other lane d (Took lane c payload), none)
  where
    differs : ((c == other ≡ Bool.true) × (c ≡ other)) ⊎ ((c == other ≡ Bool.false) × (c ≢ other)) → ◌≡◌ {A = ℕ} (cond (c == other) 1 0) 0
    differs (inl same) = absurd (differ same.1)
    differs (inr away) = ap {B = ℕ} (λ (b : Bool). cond b 1 0) away.0

its_turn : (lane c other : ℕ) (payload : List ℕ) (d : List Event) → c ≡ other →
    turns_of other lane (d ++ Took lane c payload ∷ []) ≡ turns_of other lane d + 1
its_turn lane c other payload d same =
    let one : count_by (λ (x : ℕ). x == other) (only lane lane c) ≡ 1 =
    ap (λ (l : List ℕ). count_by (λ (x : ℕ). x == other) l) (only_same lane c)
    ∙ count-one (λ (x : ℕ). x == other) c
    ∙ ap {B = ℕ} (λ (b : Bool). cond b 1 0) (eq-eqb c other same) in
    omega (arith, turns_more other lane d (Took lane c payload), one)

-- an event that is no turn at a lane leaves its turns as they were
pub turns_kept : (place lanes lane : ℕ) (events : List Event) (e : Event) (turns : List ℕ) → client_in lane e ≡ [] →
    AreTurns place lanes lane events turns → AreTurns place lanes lane (events ++ e ∷ []) turns
turns_kept place lanes lane events e turns none t = record {
  apart = t.apart;
  ahead = λ before during front behind client other eq waits split front_of.
      elim (stretch_cases events before during e eq) [
        | inl empty ↦ no_turns other lane during empty
        | inr more ↦
            ap (λ (l : List Event). turns_of other lane l) more.1
            ∙ turns_stay other lane more.0 e none
            ∙ t.ahead before more.0 front behind client other more.2 (shorter place lanes lane client before during more.0 e more.1 waits) split front_of
      ];
  out = λ before during client other eq waits absent.
      elim (stretch_cases events before during e eq) [
        | inl empty ↦ no_turns other lane during empty
        | inr more ↦
            ap (λ (l : List Event). turns_of other lane l) more.1
            ∙ turns_stay other lane more.0 e none
            ∙ t.out before more.0 client other more.2 (shorter place lanes lane client before during more.0 e more.1 waits) absent
      ];
}

-- it is fair too
fair_stretch : (place lanes lane client other : ℕ) (events before during : List Event) (e : Event) → client_in lane e ≡ [] →
    IsFairNow place lanes events → events ++ e ∷ [] ≡ before ++ during → WaitsThrough place lanes lane client before during →
    turns_of other lane during ≤ 1
fair_stretch place lanes lane client other events before during e none fair eq waits =
    elim (stretch_cases events before during e eq) [
      | inl empty ↦ omega (arith, no_turns other lane during empty)
      | inr more ↦
          omega (
            arith,
            ap (λ (l : List Event). turns_of other lane l) more.1,
            turns_stay other lane more.0 e none,
            fair before more.0 lane client other more.2 (shorter place lanes lane client before during more.0 e more.1 waits),
          )
    ]

pub fair_kept : (place lanes : ℕ) (events : List Event) (e : Event) → ((lane : ℕ) → client_in lane e ≡ []) →
    IsFairNow place lanes events → IsFairNow place lanes (events ++ e ∷ [])
fair_kept place lanes events e none fair = λ before during lane client other eq waits.
    fair_stretch place lanes lane client other events before during e (none lane) fair eq waits

-- The first in the turns of a lane has its turn there. Whoever waits is among the turns.
pub fair_took : (place lanes lane c : ℕ) (payload : List ℕ) (events : List Event) (rest : List ℕ) →
    AreTurns place lanes lane events (c ∷ rest) →
    ((client : ℕ) → Waits place lanes lane (account_of client events) → Contains (c ∷ rest) client) →
    IsFairNow place lanes events → IsFairNow place lanes (events ++ Took lane c payload ∷ [])
fair_took place lanes lane c payload events rest t settled fair = λ before during l client other eq waits.
    elim (eqb_tells lane l) [
      | inr away ↦ fair_stretch place lanes l client other events before during (Took lane c payload) (only_other lane l c away.1) fair eq waits
      | inl same ↦
          let here : WaitsThrough place lanes lane client before during = subst (λ (m : ℕ). WaitsThrough place lanes m client before during) (sym same.1) waits in
          subst (λ (m : ℕ). turns_of other m during ≤ 1) same.1
          (elim (stretch_cases events before during (Took lane c payload) eq) [
            | inl empty ↦ omega (arith, no_turns other lane during empty)
            | inr more ↦
                let before_it = shorter place lanes lane client before during more.0 (Took lane c payload) more.1 here in
                let differ = not_its place lanes lane client c payload before during more.0 more.1 here in
                let among = settled client (waits_now place lanes lane client events before more.0 more.2 before_it) in
                elim (eqb_tells c other) [
                  | inr away ↦
                      omega (
                        arith,
                        ap (λ (k : List Event). turns_of other lane k) more.1,
                        other_turn lane c other payload more.0 away.1,
                        fair before more.0 lane client other more.2 before_it,
                      )
                  | inl its ↦
                      elim (member_cases c rest client among) [
                        | inl is ↦ absurd (differ is)
                        | inr later ↦
                            let s = member_split rest client later in
                            let none : turns_of other lane more.0 ≡ 0 =
                            t.ahead before more.0 (c ∷ s.0) s.1 client other more.2 before_it (ap (λ (zs : List ℕ). c ∷ zs) s.2)
                            (subst (λ (z : ℕ). Contains (c ∷ s.0) z) its.1 (member_first c s.0)) in
                            omega (arith, ap (λ (k : List Event). turns_of other lane k) more.1, its_turn lane c other payload more.0 its.1, none)
                      ]
                ]
          ])
    ]

pub turns_took : (place lanes lane c : ℕ) (payload : List ℕ) (events : List Event) (rest : List ℕ) →
    AreTurns place lanes lane events (c ∷ rest) →
    ((client : ℕ) → Waits place lanes lane (account_of client events) → Contains (c ∷ rest) client) →
    AreTurns place lanes lane (events ++ Took lane c payload ∷ []) rest
turns_took place lanes lane c payload events rest t settled = record {
  apart = apart_tail c rest t.apart;
  ahead = λ before during front behind client other eq waits split front_of.
      elim (stretch_cases events before during (Took lane c payload) eq) [
        | inl empty ↦ no_turns other lane during empty
        | inr more ↦
            let in_rest : Contains rest other = subst (λ (l : List ℕ). Contains l other) (sym split) (Contains-append_left front (client ∷ behind) other front_of) in
            ap (λ (l : List Event). turns_of other lane l) more.1
            ∙ other_turn lane c other payload more.0 (λ same. apart_head c rest t.apart (subst (λ (z : ℕ). Contains rest z) (sym same) in_rest))
            ∙ t.ahead before more.0 (c ∷ front) behind client other more.2
            (shorter place lanes lane client before during more.0 (Took lane c payload) more.1 waits)
            (ap (λ (zs : List ℕ). c ∷ zs) split) (member_later c front other front_of)
      ];
  out = λ before during client other eq waits absent.
      elim (stretch_cases events before during (Took lane c payload) eq) [
        | inl empty ↦ no_turns other lane during empty
        | inr more ↦
            let before_it = shorter place lanes lane client before during more.0 (Took lane c payload) more.1 waits in
            elim (member_cases c rest client (settled client (waits_now place lanes lane client events before more.0 more.2 before_it))) [
              | inl is ↦ absurd (not_its place lanes lane client c payload before during more.0 more.1 waits is)
              | inr later ↦ absurd (absent later)
            ]
      ];
}

-- one more behind all others
pub turns_joined : (place lanes lane c : ℕ) (events : List Event) (turns : List ℕ) → (Contains turns c → ⊥) →
    AreTurns place lanes lane events turns → AreTurns place lanes lane events (turns ++ c ∷ [])
turns_joined place lanes lane c events turns new t = record {
  apart = all_pairs_push (λ a b. a ≢ b) turns c t.apart (λ k d lt same. new (subst (λ (z : ℕ). Contains turns z) same (Contains-get_or turns k d lt)));
  ahead = λ before during front behind client other eq waits split front_of.
      elim (last_or_none behind) [
        | inl none ↦
            let same = same_from_push turns front c client (split ∙ ap (λ (l : List ℕ). front ++ client ∷ l) none) in
            t.out before during client other eq waits (subst (λ (z : ℕ). Contains turns z → ⊥) same.1 new)
        | inr some ↦
            let same = same_from_push turns (front ++ client ∷ some.0) c some.1
            (split ∙ ap (λ (l : List ℕ). front ++ client ∷ l) some.2 ∙ sym (append_assoc front (client ∷ some.0) (some.1 ∷ []))) in
            t.ahead before during front some.0 client other eq waits same.0 front_of
      ];
  out = λ before during client other eq waits absent.
      t.out before during client other eq waits (λ h. absent (Contains-append_left turns (c ∷ []) client h));
}

-- without one who does not wait
pub turns_without : (place lanes lane c : ℕ) (events : List Event) (turns : List ℕ) →
    (Waits place lanes lane (account_of c events) → ⊥) →
    AreTurns place lanes lane events turns → AreTurns place lanes lane events (filter (λ x. not (x == c)) turns)
turns_without place lanes lane c events turns idle t = record {
  apart = AllPairs-filter (λ a b. a ≢ b) (λ x. not (x == c)) turns t.apart;
  ahead = λ before during front behind client other eq waits split front_of.
      let s = filter_split c turns client front behind split in
      t.ahead before during s.0 s.1 client other eq waits s.2 (s.3 other front_of);
  out = λ before during client other eq waits absent.
      elim (eqb_tells c client) [
        | inl its ↦ absurd (subst (λ (x : ℕ). Waits place lanes lane (account_of x events) → ⊥) its.1 idle (waits_now place lanes lane client events before during eq waits))
        | inr away ↦ t.out before during client other eq waits (λ h. absent (filter_member c turns client h (λ same. away.1 (sym same))))
      ];
}

-- without the first, who does not wait
pub turns_passed : (place lanes lane c : ℕ) (events : List Event) (rest : List ℕ) →
    (Waits place lanes lane (account_of c events) → ⊥) →
    AreTurns place lanes lane events (c ∷ rest) → AreTurns place lanes lane events rest
turns_passed place lanes lane c events rest idle t = record {
  apart = apart_tail c rest t.apart;
  ahead = λ before during front behind client other eq waits split front_of.
      t.ahead before during (c ∷ front) behind client other eq waits (ap (λ (zs : List ℕ). c ∷ zs) split) (member_later c front other front_of);
  out = λ before during client other eq waits absent.
      elim (eqb_tells c client) [
        | inl its ↦ absurd (subst (λ (x : ℕ). Waits place lanes lane (account_of x events) → ⊥) its.1 idle (waits_now place lanes lane client events before during eq waits))
        | inr away ↦ t.out before during client other eq waits (λ h.
            elim (member_cases c rest client h) [
              | inl is ↦ away.1 is
              | inr later ↦ absent later
            ])
      ];
}

-- whom a lane has yet to answer, after a frame and after a reply
