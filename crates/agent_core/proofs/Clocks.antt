-- The clock of a shard never falls, and stands at the largest reading.
use Rattle.std.proofs.Common.{◌≡◌, ◌⊎◌, inl, inr, ℕ, ◌+◌, ◌<◌, ◌≤◌, ◌-◌, max, get_or, Some, slice_get, nat_le, nat_lt, List, [], ◌∷◌, ◌++◌, length, take, drop, map, All, Contains, refl, sym, ap, ◌∙◌, subst, arith, append_assoc, length-append}
use Rattle.std.proofs.lemmas.Bool.{cases_lt, cond_both}
use Rattle.std.proofs.lemmas.List.{take_at, take_more, take-append-drop}
use Rattle.std.proofs.lemmas.List.Elements.{All-cons, All-nil}
use Rattle.std.proofs.lemmas.Option.{get_or_from_slice_get, slice_get_within}
use Rattle.stmt_codec.specs.Certificates.{Certificate}
use Rattle.denial_link.proofs.Members.{has-cons, has-head}
use Rattle.agent_core.specs.declared.limits.TheConstants.{MAX_COMMONS, MAX_OWN, MAX_WITHDRAWN}
use Rattle.agent_core.specs.Held.{admitted, is_withdrawn, newly}
use Rattle.agent_core.specs.State.{Plan, State, Ask, Event, Asks, Keeps, Holds, Discards, Forgets, Expires, Withdraws, Answer, brought, asking, holding, withdrawing, moment_of, opened, reading_of, swept, next}
use Rattle.agent_core.specs.Journals.{Entry, Stands, state_from, state_after, moment_at}
use Rattle.agent_core.specs.Laws.{ClockNeverFalls, ClockIsRead}
use Rattle.agent_core.proofs.Journaling.{state_from-push}

-- ---- one event

pub asking_clock : (s : State) (a : Ask) → (asking s a).0.clock ≡ s.clock
asking_clock s a =
    cond_both (nat_le a.seq (s.last a.channel)) _ _ (λ (r : State × Answer). r.0.clock ≡ s.clock) (λ _. refl)
    (λ _. cond_both (nat_lt MAX_OWN (length (s.own a.channel) + length (brought s a))) _ _ (λ (r : State × Answer). r.0.clock ≡ s.clock) (λ _. refl) (λ _. refl))

holding_clock : (s : State) (new : List Certificate) → (holding s new).0.clock ≡ s.clock
holding_clock s new = cond_both (nat_lt MAX_COMMONS (length s.commons + length new)) _ _ (λ (r : State × Answer). r.0.clock ≡ s.clock) (λ _. refl) (λ _. refl)

withdrawing_clock : (plan : Plan) (issuer : ℕ) (s : State) → (withdrawing plan issuer s).0.clock ≡ s.clock
withdrawing_clock plan issuer s =
    cond_both (is_withdrawn s.withdrawn issuer) _ _ (λ (r : State × Answer). r.0.clock ≡ s.clock) (λ _. refl)
    (λ _. cond_both (nat_le MAX_WITHDRAWN (length s.withdrawn)) _ _ (λ (r : State × Answer). r.0.clock ≡ s.clock) (λ _. refl) (λ _. refl))

stands_still : (n : ℕ) → n ≡ max n 0
stands_still n = omega arith

-- an event moves the clock to its reading, unless it is there already
pub next_clock : (plan : Plan) (s : State) (event : Event) → (next plan s event).0.clock ≡ max s.clock (reading_of event)
next_clock plan s (Asks a) = asking_clock (swept plan.keep (moment_of s a.reading) s) a
next_clock plan s (Keeps ask e c) = stands_still s.clock
next_clock plan s (Holds certs) = holding_clock s (newly s.commons (admitted s.withdrawn certs)) ∙ stands_still s.clock
next_clock plan s (Discards digest) = stands_still s.clock
next_clock plan s (Forgets channel) = stands_still s.clock
next_clock plan s (Expires reading) = refl
next_clock plan s (Withdraws issuer) = withdrawing_clock plan issuer s ∙ stands_still s.clock

-- a moment is not before the clock
pub moment_later : (s : State) (reading : ℕ) → s.clock ≤ moment_of s reading
moment_later s reading = omega arith

-- ---- a journal

abbrev readings : List Entry → List ℕ
readings journal = map (λ (e : Entry). reading_of e.event) journal

module _ (plan : Plan) where
  -- from a state on: it is not before that one, nor before a reading, and one of these
  record IsOnward (s : State) (journal : List Entry) (clock : ℕ) : Type 0 where
    pub later : s.clock ≤ clock
    pub read : All (λ m. m ≤ clock) (readings journal)
    pub one : (clock ≡ s.clock) ⊎ Contains (readings journal) clock

  onward : (s : State) (journal : List Entry) → IsOnward s journal (state_from plan s journal).clock
  onward s [] = record { later = omega arith; read = All-nil (λ m. m ≤ s.clock); one = inl refl }
  onward s (e ∷ es) =
      let t : State = (next plan s e.event).0 in
      let end : ℕ = (state_from plan t es).clock in
      let r : ℕ = reading_of e.event in
      let moved : t.clock ≡ max s.clock r = next_clock plan s e.event in
      let rest : IsOnward t es end = onward t es in
      record {
        later = omega (arith, moved, rest.later);
        read = All-cons (λ m. m ≤ end) r (readings es) (omega (arith, moved, rest.later)) rest.read;
        one = elim rest.one [
          | inl still ↦ elim (cases_lt s.clock r) [
            | inl up ↦ let here : r ≡ end = omega (arith, still, moved, up) in inr (subst (Contains (r ∷ readings es)) here (has-head r (readings es)))
            | inr stays ↦ inl (omega (arith, still, moved, stays))
          ]
          | inr there ↦ inr (has-cons r (readings es) end there)
        ];
      }

  pub state_from-append : (s : State) (journal more : List Entry) → state_from plan s (journal ++ more) ≡ state_from plan (state_from plan s journal) more
  state_from-append s [] more = refl
  state_from-append s (e ∷ es) more = state_from-append (next plan s e.event).0 es more

  pub never_falls : ClockNeverFalls plan
  never_falls journal more = subst (λ (s : State). (state_after plan journal).clock ≤ s.clock) (sym (state_from-append (opened plan) journal more)) (onward (state_after plan journal) more).later

  pub clock_read : ClockIsRead plan
  clock_read journal = let o = onward (opened plan) journal in (o.read, o.one)

  -- one entry more
  pub clock_more : (journal : List Entry) (k : ℕ) (e : Entry) → slice_get journal k ≡ Some e → (state_after plan (take (k + 1) journal)).clock ≡ max (state_after plan (take k journal)).clock (reading_of e.event)
  clock_more journal k e at =
      let within : k < length journal = slice_get_within journal k e at in
      let here : get_or journal k e ≡ e = get_or_from_slice_get journal k e e at in
      ap (λ j. (state_after plan j).clock) (take_more journal k e within ∙ ap (λ (x : Entry). take k journal ++ x ∷ []) here)
      ∙ ap (λ (s : State). s.clock) (state_from-push plan (opened plan) (take k journal) e) ∙ next_clock plan (state_after plan (take k journal)) e.event

  -- where the clock stands after the first entries, so many
  abbrev pub clock_after : List Entry → ℕ → ℕ
  clock_after journal n = (state_after plan (take n journal)).clock

  -- the same of the entries behind which as many of the first are left
  pub clock_back : (journal : List Entry) (place back : ℕ) (e : Entry) → back ≤ place → slice_get journal (place - back) ≡ Some e → clock_after journal (place + 1 - back) ≡ max (clock_after journal (place + 1 - (back + 1))) (reading_of e.event)
  clock_back journal place back e within at =
      let more : place + 1 - back ≡ place - back + 1 = omega (arith, within) in
      let less : place - back ≡ place + 1 - (back + 1) = omega (arith, within) in
      ap (clock_after journal) more ∙ clock_more journal (place - back) e at ∙ ap (λ n. max (clock_after journal n) (reading_of e.event)) less

  -- ---- the moment of an entry

  -- it is not after the clock
  pub moment_before : (journal : List Entry) (place : ℕ) → moment_at plan journal place ≤ (state_after plan journal).clock
  moment_before journal place =
      subst (λ j. moment_at plan journal place ≤ (state_after plan j).clock) (take-append-drop (place + 1) journal) (never_falls (take (place + 1) journal) (drop (place + 1) journal))

  -- the moment of an entry is the clock that its event makes
  pub moment_there : (journal before : List Entry) (place : ℕ) (e : Entry) → Stands journal place before e → moment_at plan journal place ≡ (next plan (state_after plan before) e.event).0.clock
  moment_there journal before place e s =
      let grouped : journal ≡ (before ++ e ∷ []) ++ s.rest = s.is ∙ sym (append_assoc before (e ∷ []) s.rest) in
      let count : length (before ++ e ∷ []) ≡ place + 1 = omega (arith, s.placed, length-append before (e ∷ [])) in
      ap (λ j. (state_after plan j).clock) (ap (take (place + 1)) grouped ∙ take_at (before ++ e ∷ []) s.rest (place + 1) count)
      ∙ ap (λ (t : State). t.clock) (state_from-push plan (opened plan) before e)
