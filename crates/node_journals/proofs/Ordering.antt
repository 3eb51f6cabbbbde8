-- In which order a lane's requests came to its shard.
use Rattle.std.proofs.Common.{◌≡◌, ◌⊎◌, ℕ, zero, suc, ◌+◌, ◌/◌, ◌%◌, ◌<◌, ◌≤◌, Bool, true, false, cond, eqb, List, [], ◌∷◌, ◌++◌, length, map, get_or, refl, sym, ap, subst, ◌∙◌, inl, inr, arith}
use Rattle.std.specs.Prelude.{AllPairs, filter}
use Rattle.std.specs.List.{AllZip, flat_map, range_with_len}
use Rattle.std.proofs.lemmas.Bool.{cases_lt}
use Rattle.std.proofs.lemmas.Bool.Decides.{nat_tests}
use Rattle.std.proofs.lemmas.Nat.{div-add-mod', mul-le}
use Rattle.node_commands.specs.Words.{DrillWords}
use Rattle.taos_drill.specs.Sent.{number_of}
use Rattle.request_course.specs.Cells.{Node, Journals, OfShard, in_shard, IsAfter}
use Rattle.node_journals.specs.Requests.{its_shard}
use Rattle.node_journals.specs.Works.{Work, work_places, LaneOf, In}
use Rattle.node_journals.proofs.Members.{in_either, in_left, in_right, flat_in, in_map, in_ranged, in_filter, of_lane}

-- ---- pairs

pub in_index : {X : Type 0} (x : X) (xs : List X) → In x xs → (i : ℕ) × (i < length xs) × ((d : X) → get_or xs i d ≡ x)
in_index x [] h = absurd h
in_index x (y ∷ xs) (inl same) = (0, omega arith, λ d. same)
in_index x (y ∷ xs) (inr later) = let r = in_index x xs later in (suc r.0, omega (arith, r.1), r.2)

pub pairs_tail : {X : Type 0} (R : X → X → Type 0) (x : X) (xs : List X) → AllPairs R (x ∷ xs) → AllPairs R xs
pairs_tail R x xs h i j d lt below = h (suc i) (suc j) d (omega (arith, lt)) (omega (arith, below))

pub pairs_first : {X : Type 0} (R : X → X → Type 0) (x : X) (xs : List X) → AllPairs R (x ∷ xs) → (y : X) → In y xs → R x y
pairs_first R x xs h y is =
    let at = in_index y xs is in
    subst (R x) (at.2 y) (h 0 (suc at.0) y (omega arith) (omega (arith, at.1)))

pairs_right : {X : Type 0} (R : X → X → Type 0) (xs ys : List X) → AllPairs R (xs ++ ys) → AllPairs R ys
pairs_right R [] ys h = h
pairs_right R (x ∷ xs) ys h = pairs_right R xs ys (pairs_tail R x (xs ++ ys) h)

pairs_apart : {X : Type 0} (R : X → X → Type 0) (xs ys : List X) → AllPairs R (xs ++ ys) → (x y : X) → In x xs → In y ys → R x y
pairs_apart R [] ys h x y is also = absurd is
pairs_apart R (z ∷ xs) ys h x y (inl same) also = subst (λ (t : _). R t y) same (pairs_first R z (xs ++ ys) h y (in_right y xs ys also))
pairs_apart R (z ∷ xs) ys h x y (inr later) also = pairs_apart R xs ys (pairs_tail R z (xs ++ ys) h) x y later also

-- ---- numbers that rise

abbrev pub Rises : List ℕ → Type 0
Rises [] = Unit {0}
Rises (n ∷ ns) = ((m : ℕ) → In m ns → n < m) × Rises ns

pub range_rises : (a n : ℕ) → Rises (range_with_len a n)
range_rises a zero = tt
range_rises a (suc n) = (λ m is. let r = in_ranged m (a + 1) n is in omega (arith, r.0), range_rises (a + 1) n)

pub filter_rises : (test : ℕ → Bool) (ns : List ℕ) → Rises ns → Rises (filter test ns)
filter_rises test [] h = tt
filter_rises test (n ∷ ns) h = by (test n) (filter_rises test ns h.1)
  where
    by : (b : Bool) → Rises (filter test ns) → Rises (cond b (n ∷ filter test ns) (filter test ns))
    by true rest = (λ m is. h.0 m (in_filter test ns m is).0, rest)
    by false rest = rest

-- a later one of the same rest is of a later round
pub later_number : (lanes i j : ℕ) → i % lanes ≡ j % lanes → i < j → number_of lanes i < number_of lanes j
later_number lanes i j same lt = elim (cases_lt (i / lanes) (j / lanes)) [
  | inl below ↦ omega (arith, below)
  | inr over ↦
      let m = mul-le (j / lanes) lanes (i / lanes) lanes over (omega arith) in
      absurd (omega (arith, m, div-add-mod' i lanes, div-add-mod' j lanes, same, lt))
]

-- ---- works

module _ (d : DrillWords) where
  -- one request came before another: also to its shard
  pub record Before (v w : Work) : Type 0 where
    pub earlier : v.request < w.request
    pub places : (p q : ℕ) → In p v.asks → In q w.asks → p < q

  -- the two are one, or one came before the other
  abbrev pub Compared : Work → Work → Type 0
  Compared v w = (v ≡ w) ⊎ (Before v w ⊎ Before w v)

  pub same_shard : (i j : ℕ) → i % d.lanes ≡ j % d.lanes → its_shard d i ≡ its_shard d j
  same_shard i j same = ap (λ k. (k + 1) % 4) same

  come_before : (u w : Work) (ws : List Work) → u.request < w.request → u.request % d.lanes ≡ w.request % d.lanes → AllPairs IsAfter (flat_map (work_places d) (u ∷ ws)) → In w ws → Before u w
  come_before u w ws lt same pairs is = record {
    earlier = lt;
    places = λ p q at also.
        pairs_apart IsAfter (work_places d u) (flat_map (work_places d) ws) pairs (in_shard (its_shard d u.request) p) (in_shard (its_shard d w.request) q)
        (in_left (in_shard (its_shard d u.request) p) (map (in_shard (its_shard d u.request)) u.asks) _ (in_map (in_shard (its_shard d u.request)) u.asks p at))
        (flat_in (work_places d) ws w (in_shard (its_shard d w.request) q) is (in_left (in_shard (its_shard d w.request) q) (map (in_shard (its_shard d w.request)) w.asks) _ (in_map (in_shard (its_shard d w.request)) w.asks q also)))
        (ap OfShard (same_shard u.request w.request same));
  }

  ordered : (ws : List Work) → Rises (map (λ (w : Work). w.request) ws) → AllPairs IsAfter (flat_map (work_places d) ws) → ((v w : Work) → In v ws → In w ws → v.request % d.lanes ≡ w.request % d.lanes) →
      (v w : Work) → In v ws → In w ws → Compared v w
  ordered [] rises pairs lane v w is also = absurd is
  ordered (u ∷ ws) rises pairs lane v w (inl a) (inl b) = inl (sym a ∙ b)
  ordered (u ∷ ws) rises pairs lane v w (inl a) (inr also) =
      inr (inl (subst (λ (x : Work). Before x w) a (come_before u w ws (rises.0 w.request (in_map (λ (x : Work). x.request) ws w also)) (lane u w (inl refl) (inr also)) pairs also)))
  ordered (u ∷ ws) rises pairs lane v w (inr is) (inl b) =
      inr (inr (subst (λ (x : Work). Before x v) b (come_before u v ws (rises.0 v.request (in_map (λ (x : Work). x.request) ws v is)) (lane u v (inl refl) (inr is)) pairs is)))
  ordered (u ∷ ws) rises pairs lane v w (inr is) (inr also) =
      ordered ws rises.1 (pairs_right IsAfter (work_places d u) (flat_map (work_places d) ws) pairs) (λ x y a b. lane x y (inr a) (inr b)) v w is also

  module _ (n : Node) (J : Journals) where
    -- a work of a lane is of one of the lane's requests
    pub work_lane : (lane : ℕ) (ws : List Work) → LaneOf d n J lane ws → (w : Work) → In w ws → (w.request < d.requests) × (w.request % d.lanes ≡ lane)
    work_lane lane ws of w is =
        let r = of_lane d.requests d.lanes lane w.request (subst (In w.request) of.requests_are (in_map (λ (x : Work). x.request) ws w is)) in
        let test = r.1 in
        (r.0, grind (arith, nat_tests, test))

    pub lane_compared : (lane : ℕ) (ws : List Work) → LaneOf d n J lane ws → (v w : Work) → In v ws → In w ws → Compared v w
    lane_compared lane ws of v w is also =
        ordered ws (subst Rises (sym of.requests_are) (filter_rises (λ i. eqb (i % d.lanes) lane) (range_with_len 0 d.requests) (range_rises 0 d.requests))) of.ascending
        (λ x y a b. (work_lane lane ws of x a).1 ∙ sym (work_lane lane ws of y b).1) v w is also

    abbrev flat : List (List Work) → List Work
    flat lanes = flat_map (λ (ws : List Work). ws) lanes

    -- each is of one lane
    pub some_lane : (ks : List ℕ) (lanes : List (List Work)) → AllZip (LaneOf d n J) ks lanes → (w : Work) → In w (flat lanes) → (k : ℕ) × (ws : List Work) × In k ks × In w ws × LaneOf d n J k ws
    some_lane [] [] each w is = absurd is
    some_lane [] (ws ∷ lanes) each w is = absurd each
    some_lane (k ∷ ks) [] each w is = absurd each
    some_lane (k ∷ ks) (ws ∷ lanes) each w is = elim (in_either w ws (flat lanes) is) [
      | inl here ↦ (k, ws, inl refl, here, each.0)
      | inr later ↦ let r = some_lane ks lanes each.1 w later in (r.0, r.1, inr r.2, r.3, r.4)
    ]

    later_lane : (a m : ℕ) (lanes : List (List Work)) → AllZip (LaneOf d n J) (range_with_len a m) lanes → (w : Work) → In w (flat lanes) → a ≤ w.request % d.lanes
    later_lane a m lanes each w is =
        let r = some_lane (range_with_len a m) lanes each w is in
        let at = in_ranged r.0 a m r.2 in
        let lane = (work_lane r.0 r.1 r.4 w r.3).1 in
        omega (arith, at.0, lane)

    pub compared : (a m : ℕ) (lanes : List (List Work)) → AllZip (LaneOf d n J) (range_with_len a m) lanes → (v w : Work) → In v (flat lanes) → In w (flat lanes) → v.request % d.lanes ≡ w.request % d.lanes → Compared v w
    compared a zero [] each v w is also same = absurd is
    compared a zero (ws ∷ lanes) each v w is also same = absurd each
    compared a (suc m) [] each v w is also same = absurd each
    compared a (suc m) (ws ∷ lanes) each v w is also same = elim (in_either v ws (flat lanes) is) [
      | inl here ↦ elim (in_either w ws (flat lanes) also) [
        | inl there ↦ lane_compared a ws each.0 v w here there
        | inr later ↦
            let x = (work_lane a ws each.0 v here).1 in
            let y = later_lane (a + 1) m lanes each.1 w later in
            absurd (omega (arith, x, y, same))
      ]
      | inr later ↦ elim (in_either w ws (flat lanes) also) [
        | inl there ↦
            let x = (work_lane a ws each.0 w there).1 in
            let y = later_lane (a + 1) m lanes each.1 v later in
            absurd (omega (arith, x, y, same))
        | inr too ↦ compared (a + 1) m lanes each.1 v w later too same
      ]
    ]
