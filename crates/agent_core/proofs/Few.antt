-- How much a shard holds, and by how much an Ask is judged.
use Rattle.std.proofs.Common.{◌≡◌, ℕ, suc, ◌+◌, ◌≤◌, Bool, not, ◌==◌, nat_le, nat_lt, List, [], ◌∷◌, ◌++◌, length, filter, refl, append-nil, sym, ◌∙◌, ap, subst, subst₂, arith, length-append, bytes_eq}
use Rattle.std.proofs.lemmas.Bool.{cond_both, ltb-false}
use Rattle.stmt_codec.specs.Certificates.{Certificate, digest_of, live}
use Rattle.taos_calculus.specs.Monitor.{Grants}
use Rattle.denial_link.specs.Revived.{claims}
use Rattle.agent_core.specs.Held.{admitted, is_withdrawn, newly}
use Rattle.agent_core.specs.State.{Plan, State, Ask, Event, Asks, Keeps, Holds, Discards, Forgets, Expires, Withdraws, Answer, Judged, opened, keeping, is_gone, swept, brought, taking, asking, holding, forgetting, withdrawing, next, moment_of}
use Rattle.agent_core.specs.Journals.{Entry, state_from, state_after, IsMeant, granted, denied}
use Rattle.agent_core.specs.Laws.{HoldsFew, JudgesFew, OneVerdict, JudgedIsVerdict, MeantStays, StepsAlone}
use Rattle.agent_core.proofs.Journaling.{meant_on}
use Rattle.agent_core.specs.declared.whole_ask.verdict.Decision.TheVariants as finding

shorter : {X : Type 0} (p : X → Bool) (xs : List X) → length (filter p xs) ≤ length xs
shorter p [] = omega arith
shorter p (x ∷ xs) =
    let rest : length (filter p xs) ≤ length xs = shorter p xs in
    cond_both (p x) (x ∷ filter p xs) (filter p xs) (λ l. length l ≤ suc (length xs)) (λ _. omega arith) (λ _. omega arith)

abbrev IsFew : State → Type 0
IsFew s = ((c : ℕ) → length (s.own c) ≤ 32) × (length s.commons ≤ 32)

few_keeping : (p : Certificate → Bool) (m : ℕ) (s : State) → IsFew s → IsFew (keeping p m s)
few_keeping p m s h = (
  λ c. let own : length (s.own c) ≤ 32 = h.0 c in omega (arith, shorter p (s.own c)),
  let commons : length s.commons ≤ 32 = h.1 in omega (arith, shorter p s.commons),
)

few_swept : (keep m : ℕ) (s : State) → IsFew s → IsFew (swept keep m s)
few_swept keep m s h = few_keeping (λ c. not (is_gone keep m c)) m s h

few_taking : (s : State) (a : Ask) → nat_lt 32 (length (s.own a.channel) + length (brought s a)) ≡ Bool.false → IsFew s → IsFew (taking s a)
few_taking s a fits h =
    let room : length (s.own a.channel) + length (brought s a) ≤ 32 = ltb-false 32 (length (s.own a.channel) + length (brought s a)) fits in
    let all : length (s.own a.channel ++ brought s a) ≤ 32 = omega (arith, length-append (s.own a.channel) (brought s a)) in
    (λ c. cond_both (c == a.channel) (s.own a.channel ++ brought s a) (s.own c) (λ l. length l ≤ 32) (λ _. all) (λ _. h.0 c), h.1)

few_asking : (s : State) (a : Ask) → IsFew s → IsFew (asking s a).0
few_asking s a h =
    cond_both (nat_le a.seq (s.last a.channel)) _ _ (λ (r : State × Answer). IsFew r.0) (λ _. h)
    (λ _. cond_both (nat_lt 32 (length (s.own a.channel) + length (brought s a))) _ _ (λ (r : State × Answer). IsFew r.0) (λ _. h) (λ e. few_taking s a e h))

few_holding : (s : State) (new : List Certificate) → IsFew s → IsFew (holding s new).0
few_holding s new h =
    cond_both (nat_lt 32 (length s.commons + length new)) _ _ (λ (r : State × Answer). IsFew r.0) (λ _. h)
    (λ e. (h.0, let room : length s.commons + length new ≤ 32 = ltb-false 32 (length s.commons + length new) e in omega (arith, length-append s.commons new)))

few_forgetting : (channel : ℕ) (s : State) → IsFew s → IsFew (forgetting channel s)
few_forgetting channel s h =
    (λ c. cond_both (c == channel) [] (s.own c) (λ (l : List Certificate). length l ≤ 32) (λ _. omega arith) (λ _. h.0 c), h.1)

few_withdrawing : (plan : Plan) (issuer : ℕ) (s : State) → IsFew s → IsFew (withdrawing plan issuer s).0
few_withdrawing plan issuer s h =
    cond_both (is_withdrawn s.withdrawn issuer) _ _ (λ (r : State × Answer). IsFew r.0) (λ _. h)
    (λ _. cond_both (nat_le 64 (length s.withdrawn)) _ _ (λ (r : State × Answer). IsFew r.0) (λ _. h) (λ _. few_keeping (λ c. not (c.issuer == issuer)) s.clock s h))

module _ (plan : Plan) where
  few_next : (s : State) (e : Event) → IsFew s → IsFew (next plan s e).0
  few_next s (Asks a) h = few_asking (swept plan.keep (moment_of s a.reading) s) a (few_swept plan.keep (moment_of s a.reading) s h)
  few_next s (Keeps ask e c) h = h
  few_next s (Holds certs) h = few_holding s (newly s.commons (admitted s.withdrawn certs)) h
  few_next s (Discards d) h = few_keeping (λ c. not (bytes_eq (digest_of c) d)) s.clock s h
  few_next s (Forgets channel) h = few_forgetting channel s h
  few_next s (Expires reading) h = few_swept plan.keep (moment_of s reading) s h
  few_next s (Withdraws issuer) h = few_withdrawing plan issuer s h

  few_from : (s : State) (j : List Entry) → IsFew s → IsFew (state_from plan s j)
  few_from s [] h = h
  few_from s (e ∷ es) h = few_from (next plan s e.event).0 es (few_next s e.event h)

  pub holds_few : HoldsFew plan
  holds_few commons j = few_from (opened plan) j (λ c. omega arith, commons)

  judged_few : (s : State) (a : Ask) (m : ℕ) (certs : List Certificate) → IsFew s → (asking s a).1 ≡ Judged m certs → length certs ≤ 64
  judged_few s a m certs h =
      cond_both (nat_le a.seq (s.last a.channel)) _ _ (λ (r : State × Answer). r.1 ≡ Judged m certs → length certs ≤ 64)
      (λ _ e. let no : ⊥ = cc in absurd no)
      (λ _. cond_both (nat_lt 32 (length (s.own a.channel) + length (brought s a))) _ _ (λ (r : State × Answer). r.1 ≡ Judged m certs → length certs ≤ 64)
      (λ _ e. let no : ⊥ = cc in absurd no)
      (λ t e.
      let same : (s.own a.channel ++ brought s a) ++ s.commons ≡ certs = cc in
      let room : length (s.own a.channel) + length (brought s a) ≤ 32 = ltb-false 32 (length (s.own a.channel) + length (brought s a)) t in
      let few : length s.commons ≤ 32 = h.1 in
      omega (arith, ap (λ (cs : List Certificate). length cs) same, length-append (s.own a.channel ++ brought s a) s.commons, length-append (s.own a.channel) (brought s a))))

  pub judges_few : JudgesFew plan
  judges_few commons before a m certs j =
      let s : State = state_after plan before in
      judged_few (swept plan.keep (moment_of s a.reading) s) a m certs (few_swept plan.keep (moment_of s a.reading) s (holds_few commons before)) j

-- ---- verdicts

same_judged : (m n : ℕ) (cs ds : List Certificate) → Judged m cs ≡ Judged n ds → (m ≡ n) × (cs ≡ ds)
same_judged m n cs ds e = (cc, cc)

pub one_verdict : (plan : Plan) → OneVerdict plan
one_verdict plan before a link (granted {moment = m} {certs = cs} j g) (denied {moment = n} {certs = ds} k not_granted first) =
    let (same, list) = same_judged m n cs ds (sym j ∙ k) in
    not_granted (subst₂ (λ x xs. Grants plan.anchors (claims (live xs x)) a.subject a.list a.right) same list g)

pub judged_verdict : (plan : Plan) → JudgedIsVerdict plan
judged_verdict plan before a moment certs (finding.Granted place) j (e, first) =
    granted j (record { place = place; entry = e; stands = first.stands; has_right = first.has_right; speaks = first.holds })
judged_verdict plan before a moment certs (finding.Denied link) j (not_granted, first) = denied j not_granted first

-- ---- steps

pub meant_stays : (plan : Plan) → MeantStays plan
meant_stays plan xs ys event begins meant = subst (λ (l : List Entry). IsMeant plan l event) (sym begins.is) (meant_on plan xs begins.rest event meant)

pub steps_alone : (plan : Plan) → StepsAlone plan
steps_alone plan earlier later event place answer steps owned = record {
  before = earlier.journal;
  goes_on = record { rest = []; is = sym (append-nil earlier.journal) };
  undisturbed = λ e. refl;
  steps = steps;
  owned = owned;
}
