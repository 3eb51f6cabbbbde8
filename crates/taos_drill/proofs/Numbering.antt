-- Requests go round the lanes: each is one lane's, and each lane's are numbered in a row.
use Rattle.std.proofs.Common.{◌≡◌, ◌⊎◌, ℕ, zero, suc, ◌+◌, ◌*◌, ◌/◌, ◌%◌, ◌<◌, ◌≤◌, Bool, true, false, cond, eqb, List, [], ◌∷◌, ◌++◌, length, map, refl, sym, ap, subst, ◌∙◌, inl, inr, append-nil, add-one, arith, length-append}
use Rattle.std.specs.Prelude.{sum_by}
use Rattle.std.specs.List.{range_with_len}
use Rattle.std.proofs.lemmas.Bool.{cases_eq, cases_lt}
use Rattle.std.proofs.lemmas.Bool.Decides.{nat_tests}
use Rattle.std.proofs.lemmas.List.{map-append}
use Rattle.std.proofs.lemmas.List.Sums.{sum_by-cons}
use Rattle.std.proofs.lemmas.Nat.{div-add-mod', div-mul-add}
use Rattle.taos_drill.specs.Sent.{number_of, requests_of}
use Rattle.taos_drill.proofs.Ranges.{row_more}
use Rattle.taos_drill.proofs.Streams.{requests_more}

-- ---- quotients and remainders, one number further

module _ (lanes : ℕ) (some : 0 < lanes) where
  -- within a round
  within_round : (n : ℕ) → n % lanes + 1 < lanes → ((n + 1) / lanes ≡ n / lanes) × ((n + 1) % lanes ≡ n % lanes + 1)
  within_round n below =
      let is : n + 1 ≡ n / lanes * lanes + (n % lanes + 1) = omega (arith, div-add-mod' n lanes) in
      let round : (n + 1) / lanes ≡ n / lanes = ap (λ k. k / lanes) is ∙ div-mul-add (n / lanes) lanes (n % lanes + 1) below in
      let whole : n / lanes * lanes + (n + 1) % lanes ≡ n + 1 = ap (λ q. q * lanes + (n + 1) % lanes) (sym round) ∙ div-add-mod' (n + 1) lanes in
      (round, omega (arith, whole, is))

  -- at its end
  next_round : (n : ℕ) → n % lanes + 1 ≡ lanes → ((n + 1) / lanes ≡ n / lanes + 1) × ((n + 1) % lanes ≡ 0)
  next_round n last =
      let more : (n / lanes + 1) * lanes ≡ n / lanes * lanes + lanes = omega arith in
      let is : n + 1 ≡ (n / lanes + 1) * lanes + 0 = omega (arith, div-add-mod' n lanes, more) in
      let round : (n + 1) / lanes ≡ n / lanes + 1 = ap (λ k. k / lanes) is ∙ div-mul-add (n / lanes + 1) lanes 0 some in
      let whole : (n / lanes + 1) * lanes + (n + 1) % lanes ≡ n + 1 = ap (λ q. q * lanes + (n + 1) % lanes) (sym round) ∙ div-add-mod' (n + 1) lanes in
      (round, omega (arith, whole, is))

  at_start : (0 / lanes ≡ 0) × (0 % lanes ≡ 0)
  at_start =
      let none : 0 ≡ 0 * lanes + 0 = omega arith in
      let round : 0 / lanes ≡ 0 = ap (λ k. k / lanes) none ∙ div-mul-add 0 lanes 0 some in
      let whole : 0 * lanes + 0 % lanes ≡ 0 = ap (λ q. q * lanes + 0 % lanes) (sym round) ∙ div-add-mod' 0 lanes in
      (round, omega (arith, whole))

-- ---- how many requests a lane has

own : ℕ → ℕ → ℕ → ℕ
own requests lanes lane = length (requests_of requests lanes lane)

hit : ℕ → ℕ → ℕ
hit r lane = cond (eqb r lane) 1 0

length-one : (b : Bool) (n : ℕ) → length (cond b (n ∷ []) []) ≡ cond b 1 0
length-one true n = refl
length-one false n = refl

own_none : (lanes lane : ℕ) → own 0 lanes lane ≡ 0
unfolding own
own_none lanes lane = refl

own_more : (n lanes lane : ℕ) → own (n + 1) lanes lane ≡ own n lanes lane + hit (n % lanes) lane
unfolding own hit
own_more n lanes lane =
    ap length (requests_more n lanes lane) ∙ length-append (requests_of n lanes lane) (cond (eqb (n % lanes) lane) (n ∷ []) [])
    ∙ ap (λ k. length (requests_of n lanes lane) + k) (length-one (eqb (n % lanes) lane) n)

hit_here : (r lane : ℕ) → r ≡ lane → hit r lane ≡ 1
unfolding hit
hit_here r lane same = let e : eqb r lane ≡ true = grind (arith, nat_tests, same) in ap (λ b. cond b 1 0) e

hit_not : (r lane : ℕ) → (r ≡ lane → ⊥) → hit r lane ≡ 0
unfolding hit
hit_not r lane other = let e : eqb r lane ≡ false = grind (arith, nat_tests, other) in ap (λ b. cond b 1 0) e

-- so many rounds, and one more where the last round has come past the lane
record Rounds (lane r q count : ℕ) : Type 0 where
  past : lane < r → count ≡ q + 1
  before : r ≤ lane → count ≡ q

-- one further within a round, where this one is the lane's or not
go_on : (lane r q count : ℕ) → Rounds lane r q count → Rounds lane (r + 1) q (count + hit r lane)
go_on lane r q count is = elim (cases_eq r lane) [
  | inl same ↦
      let h = hit_here r lane same in
      let c = is.before (omega (arith, same)) in
      record { past = λ _. omega (arith, h, c); before = λ below. absurd (omega (arith, below, same)) }
  | inr other ↦
      let h = hit_not r lane other in
      record {
        past = λ come. let c = is.past (omega (arith, come, other)) in omega (arith, h, c);
        before = λ below. let c = is.before (omega (arith, below)) in omega (arith, h, c);
      }
]

-- one further at the end of a round
go_round : (lane r q count lanes : ℕ) → lane < lanes → r + 1 ≡ lanes → Rounds lane r q count → Rounds lane 0 (q + 1) (count + hit r lane)
go_round lane r q count lanes is_lane end is = elim (cases_eq r lane) [
  | inl same ↦
      let h = hit_here r lane same in
      let c = is.before (omega (arith, same)) in
      record { past = λ come. absurd (omega (arith, come)); before = λ _. omega (arith, h, c) }
  | inr other ↦
      let h = hit_not r lane other in
      let c = is.past (omega (arith, is_lane, end, other)) in
      record { past = λ come. absurd (omega (arith, come)); before = λ _. omega (arith, h, c) }
]

module _ (lanes lane : ℕ) (is_lane : lane < lanes) where
  some : 0 < lanes
  some = omega (arith, is_lane)

  abbrev AreRounds : ℕ → Type 0
  AreRounds n = Rounds lane (n % lanes) (n / lanes) (own n lanes lane)

  one_further : (n : ℕ) → AreRounds n → AreRounds (n + 1)
  one_further n is =
      let r : n % lanes < lanes = let h : 0 < lanes = some in omega arith in
      rw (own_more n lanes lane) (elim (cases_lt (n % lanes + 1) lanes) [
        | inl below ↦ let k = within_round lanes some n below in rw (k.0, k.1) (go_on lane (n % lanes) (n / lanes) (own n lanes lane) is)
        | inr end ↦ let last : n % lanes + 1 ≡ lanes = omega (arith, r, end) in let k = next_round lanes some n last in rw (k.0, k.1) (go_round lane (n % lanes) (n / lanes) (own n lanes lane) lanes is_lane last is)
      ])

  rounds : (n : ℕ) → AreRounds n
  rounds zero = let k = at_start lanes some in rw (k.0, k.1) (record { past = λ come. absurd (omega (arith, come)); before = λ _. own_none lanes lane })
  rounds (suc n) = subst AreRounds (add-one n) (one_further n (rounds n))

  -- a request of the lane has the number after those before it
  numbered : (n : ℕ) → n % lanes ≡ lane → number_of lanes n ≡ 1 + own n lanes lane
  numbered n here = let c = (rounds n).before (omega (arith, here)) in omega (arith, c)

  up_more : (n : ℕ) (b : Bool) → eqb (n % lanes) lane ≡ b → map (number_of lanes) (requests_of n lanes lane) ≡ range_with_len 1 (own n lanes lane)
      → map (number_of lanes) (requests_of n lanes lane ++ cond b (n ∷ []) []) ≡ range_with_len 1 (length (requests_of n lanes lane ++ cond b (n ∷ []) []))
  unfolding own
  up_more n true here so_far =
      let same : n % lanes ≡ lane = grind (arith, nat_tests, here) in
      let before = requests_of n lanes lane in
      let more : length (before ++ n ∷ []) ≡ suc (length before) = length-append before (n ∷ []) ∙ add-one (length before) in
      map-append (number_of lanes) before (n ∷ []) ∙ ap (λ (l : List ℕ). l ++ number_of lanes n ∷ []) so_far
      ∙ ap (λ k. range_with_len 1 (length before) ++ k ∷ []) (numbered n same)
      ∙ sym (row_more 1 (length before)) ∙ ap (range_with_len 1) (sym more)
  up_more n false other so_far = rw (append-nil (requests_of n lanes lane)) so_far

  pub up : (n : ℕ) → map (number_of lanes) (requests_of n lanes lane) ≡ range_with_len 1 (length (requests_of n lanes lane))
  unfolding own
  up zero = refl
  up (suc n) =
      let more = requests_more n lanes lane in
      subst (λ k. map (number_of lanes) (requests_of k lanes lane) ≡ range_with_len 1 (length (requests_of k lanes lane))) (add-one n)
      (subst (λ (l : List ℕ). map (number_of lanes) l ≡ range_with_len 1 (length l)) (sym more) (up_more n (eqb (n % lanes) lane) refl (up n)))

-- ---- each request is one lane's

hits : ℕ → ℕ → ℕ → ℕ
hits r a k = sum_by (hit r) (range_with_len a k)

hits_none : (r a : ℕ) → hits r a 0 ≡ 0
unfolding hits
hits_none r a = refl

hits_next : (r a k : ℕ) → hits r a (suc k) ≡ hit r a + hits r (a + 1) k
unfolding hits
hits_next r a k = sum_by-cons (hit r) a (range_with_len (a + 1) k)

no_hits : (r a k : ℕ) → r < a → hits r a k ≡ 0
no_hits r a zero below = hits_none r a
no_hits r a (suc k) below =
    let h = hit_not r a (λ same. omega (arith, below, same)) in
    omega (arith, hits_next r a k, h, no_hits r (a + 1) k (omega (arith, below)))

here_or_later : (r a k : ℕ) → a ≤ r → r < a + suc k → (r ≡ a) ⊎ (r ≡ a → ⊥) → (a + 1 ≤ r → r < a + 1 + k → hits r (a + 1) k ≡ 1) → hits r a (suc k) ≡ 1
here_or_later r a k from below (inl same) later =
    let h = hit_here r a same in
    omega (arith, hits_next r a k, h, no_hits r (a + 1) k (omega (arith, same)))
here_or_later r a k from below (inr other) later =
    let h = hit_not r a other in
    omega (arith, hits_next r a k, h, later (omega (arith, from, other)) (omega (arith, below)))

one_hit : (r a k : ℕ) → a ≤ r → r < a + k → hits r a k ≡ 1
one_hit r a zero from below = absurd (omega (arith, from, below))
one_hit r a (suc k) from below = here_or_later r a k from below (cases_eq r a) (λ later within. one_hit r (a + 1) k later within)

all_own : ℕ → ℕ → ℕ → ℕ → ℕ
all_own n lanes a k = sum_by (own n lanes) (range_with_len a k)

own_next : (n lanes a k : ℕ) → all_own n lanes a (suc k) ≡ own n lanes a + all_own n lanes (a + 1) k
unfolding all_own
own_next n lanes a k = sum_by-cons (own n lanes) a (range_with_len (a + 1) k)

all_start : (n lanes a : ℕ) → all_own n lanes a 0 ≡ 0
unfolding all_own
all_start n lanes a = refl

all_more : (n lanes a k : ℕ) → all_own (n + 1) lanes a k ≡ all_own n lanes a k + hits (n % lanes) a k
all_more n lanes a zero = omega (arith, all_start (n + 1) lanes a, all_start n lanes a, hits_none (n % lanes) a)
all_more n lanes a (suc k) =
    omega (arith, own_next (n + 1) lanes a k, own_next n lanes a k, hits_next (n % lanes) a k, own_more n lanes a, all_more n lanes (a + 1) k)

all_none : (lanes a k : ℕ) → all_own 0 lanes a k ≡ 0
all_none lanes a zero = all_start 0 lanes a
all_none lanes a (suc k) = omega (arith, own_next 0 lanes a k, own_none lanes a, all_none lanes (a + 1) k)

all_are : (n lanes : ℕ) → 0 < lanes → all_own n lanes 0 lanes ≡ n
all_are zero lanes some = all_none lanes 0 lanes
all_are (suc n) lanes some =
    let r : n % lanes < lanes = omega arith in
    let hit_once = one_hit (n % lanes) 0 lanes (omega arith) (omega (arith, r)) in
    subst (λ k. all_own k lanes 0 lanes ≡ k) (add-one n) (omega (arith, all_more n lanes 0 lanes, all_are n lanes some, hit_once))

pub once : (n lanes : ℕ) → 0 < lanes → sum_by (λ lane. length (requests_of n lanes lane)) (range_with_len 0 lanes) ≡ n
unfolding all_own own
once n lanes some = all_are n lanes some
