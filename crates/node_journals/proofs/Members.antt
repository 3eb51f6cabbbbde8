-- Lists, which of what they are, and sums over them.
use Rattle.std.proofs.Common.{◌≡◌, ◌⊎◌, ℕ, zero, suc, ◌+◌, ◌%◌, ◌<◌, ◌≤◌, Bool, true, false, cond, eqb, List, [], ◌∷◌, ◌++◌, length, map, refl, sym, ap, subst, ◌∙◌, inl, inr, add-one, arith, length-append}
use Rattle.std.specs.Prelude.{All, filter, sum_by}
use Rattle.std.specs.List.{flat_map, range_with_len}
use Rattle.std.proofs.lemmas.Bool.{cases_eq}
use Rattle.std.proofs.lemmas.Bool.Decides.{nat_tests}
use Rattle.std.proofs.lemmas.List.Elements.{All-head, All-tail, All-cons, All-nil}
use Rattle.std.proofs.lemmas.List.Sums.{sum_by-cons, sum_by-append}
use Rattle.turn_cell.specs.Journal.{times}
use Rattle.node_journals.specs.Works.{In}
use Rattle.taos_drill.specs.Sent.{requests_of}
use Rattle.taos_drill.proofs.Ranges.{row_more}
use Rattle.taos_drill.proofs.Streams.{requests_more}

pub in_left : {X : Type 0} (x : X) (xs ys : List X) → In x xs → In x (xs ++ ys)
in_left x [] ys h = absurd h
in_left x (z ∷ xs) ys (inl same) = inl same
in_left x (z ∷ xs) ys (inr later) = inr (in_left x xs ys later)

pub in_right : {X : Type 0} (x : X) (xs ys : List X) → In x ys → In x (xs ++ ys)
in_right x [] ys h = h
in_right x (z ∷ xs) ys h = inr (in_right x xs ys h)

pub in_either : {X : Type 0} (x : X) (xs ys : List X) → In x (xs ++ ys) → In x xs ⊎ In x ys
in_either x [] ys h = inr h
in_either x (z ∷ xs) ys (inl same) = inl (inl same)
in_either x (z ∷ xs) ys (inr later) = elim (in_either x xs ys later) [ inl a ↦ inl (inr a) | inr b ↦ inr b ]

-- what is made of one is among what is made of all
pub in_flat : {X Y : Type 0} (f : X → List Y) (xs : List X) (y : Y) → In y (flat_map f xs) → (x : X) × In x xs × In y (f x)
in_flat f [] y h = absurd h
in_flat f (x ∷ xs) y h = elim (in_either y (f x) (flat_map f xs) h) [
  | inl here ↦ (x, inl refl, here)
  | inr later ↦ let r = in_flat f xs y later in (r.0, inr r.1, r.2)
]

pub flat_in : {X Y : Type 0} (f : X → List Y) (xs : List X) (x : X) (y : Y) → In x xs → In y (f x) → In y (flat_map f xs)
flat_in f [] x y h is = absurd h
flat_in f (z ∷ xs) x y (inl same) is = in_left y (f z) (flat_map f xs) (subst (λ (t : _). In y (f t)) (sym same) is)
flat_in f (z ∷ xs) x y (inr later) is = in_right y (f z) (flat_map f xs) (flat_in f xs x y later is)

pub in_map : {X Y : Type 0} (f : X → Y) (xs : List X) (x : X) → In x xs → In (f x) (map f xs)
in_map f [] x h = absurd h
in_map f (z ∷ xs) x (inl same) = inl (ap f same)
in_map f (z ∷ xs) x (inr later) = inr (in_map f xs x later)

pub map_in : {X Y : Type 0} (f : X → Y) (xs : List X) (y : Y) → In y (map f xs) → (x : X) × In x xs × (f x ≡ y)
map_in f [] y h = absurd h
map_in f (z ∷ xs) y (inl same) = (z, inl refl, same)
map_in f (z ∷ xs) y (inr later) = let r = map_in f xs y later in (r.0, inr r.1, r.2)

pub all_in : {X : Type 0} (P : X → Type 0) (xs : List X) (x : X) → All P xs → In x xs → P x
all_in P [] x all h = absurd h
all_in P (z ∷ xs) x all (inl same) = subst P same (All-head P z xs all)
all_in P (z ∷ xs) x all (inr later) = all_in P xs x (All-tail P z xs all) later

pub in_all : {X : Type 0} (P : X → Type 0) (xs : List X) → ((x : X) → In x xs → P x) → All P xs
in_all P [] h = All-nil P
in_all P (z ∷ xs) h = All-cons P z xs (h z (inl refl)) (in_all P xs (λ x is. h x (inr is)))

-- ---- how often a number stands in a list

pub one : ℕ → ℕ → ℕ
one x p = cond (eqb x p) 1 0

pub one_here : (x p : ℕ) → x ≡ p → one x p ≡ 1
unfolding one
one_here x p same = let e : eqb x p ≡ true = grind (arith, nat_tests, same) in ap (λ b. cond b 1 0) e

pub one_not : (x p : ℕ) → (x ≡ p → ⊥) → one x p ≡ 0
unfolding one
one_not x p other = let e : eqb x p ≡ false = grind (arith, nat_tests, other) in ap (λ b. cond b 1 0) e

pub times-cons : (p x : ℕ) (xs : List ℕ) → times p (x ∷ xs) ≡ one x p + times p xs
unfolding one
times-cons p x xs = sum_by-cons (λ q. cond (eqb q p) 1 0) x xs

pub in_times : (p : ℕ) (xs : List ℕ) → 0 < times p xs → In p xs
in_times p [] h = absurd (omega (arith, h))
in_times p (x ∷ xs) h = elim (cases_eq x p) [
  | inl same ↦ inl same
  | inr other ↦ inr (in_times p xs (omega (arith, h, times-cons p x xs, one_not x p other)))
]

pub times_in : (p : ℕ) (xs : List ℕ) → In p xs → 0 < times p xs
times_in p [] h = absurd h
times_in p (x ∷ xs) (inl same) = omega (arith, times-cons p x xs, one_here x p same)
times_in p (x ∷ xs) (inr later) = omega (arith, times-cons p x xs, times_in p xs later)

-- ---- sums

pub sum_same : {X : Type 0} (f g : X → ℕ) (xs : List X) → ((x : X) → In x xs → f x ≡ g x) → sum_by f xs ≡ sum_by g xs
sum_same f g [] h = refl
sum_same f g (x ∷ xs) h = omega (arith, sum_by-cons f x xs, sum_by-cons g x xs, h x (inl refl), sum_same f g xs (λ y is. h y (inr is)))

pub sum_most : {X : Type 0} (f g : X → ℕ) (xs : List X) → ((x : X) → In x xs → f x ≤ g x) → sum_by f xs ≤ sum_by g xs
sum_most f g [] h = omega arith
sum_most f g (x ∷ xs) h = omega (arith, sum_by-cons f x xs, sum_by-cons g x xs, h x (inl refl), sum_most f g xs (λ y is. h y (inr is)))

pub sum_plus : {X : Type 0} (f g : X → ℕ) (xs : List X) → sum_by (λ (x : X). f x + g x) xs ≡ sum_by f xs + sum_by g xs
sum_plus f g [] = refl
sum_plus f g (x ∷ xs) = omega (arith, sum_by-cons (λ (y : _). f y + g y) x xs, sum_by-cons f x xs, sum_by-cons g x xs, sum_plus f g xs)

pub sum_none : {X : Type 0} (xs : List X) → sum_by (λ (x : X). 0) xs ≡ 0
sum_none [] = refl
sum_none (x ∷ xs) = omega (arith, sum_by-cons (λ (y : _). 0) x xs, sum_none xs)

pub sum_ones : {X : Type 0} (xs : List X) → sum_by (λ (x : X). 1) xs ≡ length xs
sum_ones [] = refl
sum_ones (x ∷ xs) = omega (arith, sum_by-cons (λ (y : _). 1) x xs, sum_ones xs)

-- the order of two sums
pub sum_turned : {X Y : Type 0} (f : X → Y → ℕ) (xs : List X) (ys : List Y) → sum_by (λ (x : X). sum_by (f x) ys) xs ≡ sum_by (λ (y : Y). sum_by (λ (x : X). f x y) xs) ys
sum_turned f [] ys = sym (sum_none ys)
sum_turned f (x ∷ xs) ys =
    let turned = sum_turned f xs ys in
    let both = sum_plus (f x) (λ (y : _). sum_by (λ (z : _). f z y) xs) ys in
    let each = sum_same (λ (y : _). sum_by (λ (z : _). f z y) (x ∷ xs)) (λ (y : _). f x y + sum_by (λ (z : _). f z y) xs) ys (λ y is. sum_by-cons (λ (z : _). f z y) x xs) in
    omega (arith, sum_by-cons (λ (z : _). sum_by (f z) ys) x xs, turned, both, each)

pub sum_flat : {X Y : Type 0} (f : Y → ℕ) (g : X → List Y) (xs : List X) → sum_by f (flat_map g xs) ≡ sum_by (λ (x : X). sum_by f (g x)) xs
sum_flat f g [] = refl
sum_flat f g (x ∷ xs) = omega (arith, sum_by-append f (g x) (flat_map g xs), sum_by-cons (λ (z : _). sum_by f (g z)) x xs, sum_flat f g xs)

pub length_flat : {X Y : Type 0} (g : X → List Y) (xs : List X) → length (flat_map g xs) ≡ sum_by (λ (x : X). length (g x)) xs
length_flat g [] = refl
length_flat g (x ∷ xs) = omega (arith, length-append (g x) (flat_map g xs), sum_by-cons (λ (z : _). length (g z)) x xs, length_flat g xs)

pub sum_mapped : {X Y : Type 0} (f : Y → ℕ) (g : X → Y) (xs : List X) → sum_by f (map g xs) ≡ sum_by (λ (x : X). f (g x)) xs
sum_mapped f g [] = refl
sum_mapped f g (x ∷ xs) = omega (arith, sum_by-cons f (g x) (map g xs), sum_by-cons (λ (z : _). f (g z)) x xs, sum_mapped f g xs)

-- ---- one of many

pub taken : ℕ → ℕ → ℕ → ℕ
taken v r n = cond (eqb n r) v 0

taken_here : (v r n : ℕ) → n ≡ r → taken v r n ≡ v
unfolding taken
taken_here v r n same = let e : eqb n r ≡ true = grind (arith, nat_tests, same) in ap (λ b. cond b v 0) e

taken_not : (v r n : ℕ) → (n ≡ r → ⊥) → taken v r n ≡ 0
unfolding taken
taken_not v r n other = let e : eqb n r ≡ false = grind (arith, nat_tests, other) in ap (λ b. cond b v 0) e

takes_none : (v r : ℕ) (ns : List ℕ) → times r ns ≡ 0 → sum_by (taken v r) ns ≡ 0
takes_none v r [] h = refl
takes_none v r (n ∷ ns) h = elim (cases_eq n r) [
  | inl same ↦ absurd (omega (arith, h, times-cons r n ns, one_here n r same))
  | inr other ↦ omega (arith, sum_by-cons (taken v r) n ns, taken_not v r n other, takes_none v r ns (omega (arith, h, times-cons r n ns)))
]

takes_one : (v r : ℕ) (ns : List ℕ) → times r ns ≡ 1 → sum_by (taken v r) ns ≡ v
takes_one v r [] h = absurd (omega (arith, h))
takes_one v r (n ∷ ns) h = elim (cases_eq n r) [
  | inl same ↦ omega (arith, sum_by-cons (taken v r) n ns, taken_here v r n same, takes_none v r ns (omega (arith, h, times-cons r n ns, one_here n r same)))
  | inr other ↦ omega (arith, sum_by-cons (taken v r) n ns, taken_not v r n other, takes_one v r ns (omega (arith, h, times-cons r n ns, one_not n r other)))
]

-- of the numbers of a list the one that stands there once is taken
pub sum_one : (v r : ℕ) (ns : List ℕ) → times r ns ≡ 1 → sum_by (λ n. cond (eqb n r) v 0) ns ≡ v
unfolding taken
sum_one v r ns h = takes_one v r ns h

none_ranged : (r a k : ℕ) → r < a → times r (range_with_len a k) ≡ 0
none_ranged r a zero below = refl
none_ranged r a (suc k) below = omega (arith, times-cons r a (range_with_len (a + 1) k), one_not a r (λ same. omega (arith, below, same)), none_ranged r (a + 1) k (omega (arith, below)))

pub once_ranged : (r a k : ℕ) → a ≤ r → r < a + k → times r (range_with_len a k) ≡ 1
once_ranged r a zero from below = absurd (omega (arith, from, below))
once_ranged r a (suc k) from below = elim (cases_eq a r) [
  | inl same ↦ omega (arith, times-cons r a (range_with_len (a + 1) k), one_here a r same, none_ranged r (a + 1) k (omega (arith, same)))
  | inr other ↦ omega (arith, times-cons r a (range_with_len (a + 1) k), one_not a r other, once_ranged r (a + 1) k (omega (arith, from, other)) (omega (arith, below)))
]

pub in_ranged : (r a k : ℕ) → In r (range_with_len a k) → (a ≤ r) × (r < a + k)
in_ranged r a zero h = absurd h
in_ranged r a (suc k) (inl same) = (omega (arith, same), omega (arith, same))
in_ranged r a (suc k) (inr later) = let h = in_ranged r (a + 1) k later in (omega (arith, h.0), omega (arith, h.1))

-- ---- the requests of all lanes

pub turned : (a b : ℕ) → eqb a b ≡ eqb b a
turned a b = elim (cases_eq a b) [
  | inl same ↦ let x : eqb a b ≡ true = grind (arith, nat_tests, same) in let y : eqb b a ≡ true = grind (arith, nat_tests, same) in x ∙ sym y
  | inr other ↦ let x : eqb a b ≡ false = grind (arith, nat_tests, other) in let y : eqb b a ≡ false = grind (arith, nat_tests, other) in x ∙ sym y
]

sum_if : (f : ℕ → ℕ) (b : Bool) (n : ℕ) → sum_by f (cond b (n ∷ []) []) ≡ cond b (f n) 0
sum_if f true n = omega (arith, sum_by-cons f n [])
sum_if f false n = refl

module _ (f : ℕ → ℕ) (lanes : ℕ) (some : 0 < lanes) where
  one_more : (n lane : ℕ) → sum_by f (requests_of (n + 1) lanes lane) ≡ sum_by f (requests_of n lanes lane) + taken (f n) (n % lanes) lane
  unfolding taken
  one_more n lane =
      ap (sum_by f) (requests_more n lanes lane) ∙ sum_by-append f (requests_of n lanes lane) (cond (eqb (n % lanes) lane) (n ∷ []) [])
      ∙ ap (λ k. sum_by f (requests_of n lanes lane) + k) (sum_if f (eqb (n % lanes) lane) n ∙ ap (λ b. cond b (f n) 0) (turned (n % lanes) lane))

  pub all_requests : (n : ℕ) → sum_by (λ lane. sum_by f (requests_of n lanes lane)) (range_with_len 0 lanes) ≡ sum_by f (range_with_len 0 n)
  all_requests zero = sum_none (range_with_len 0 lanes)
  all_requests (suc n) =
      let r : n % lanes < lanes = omega (arith, some) in
      let each = sum_same (λ lane. sum_by f (requests_of (n + 1) lanes lane)) (λ lane. sum_by f (requests_of n lanes lane) + taken (f n) (n % lanes) lane) (range_with_len 0 lanes) (λ lane is. one_more n lane) in
      let both = sum_plus (λ lane. sum_by f (requests_of n lanes lane)) (taken (f n) (n % lanes)) (range_with_len 0 lanes) in
      let last = takes_one (f n) (n % lanes) (range_with_len 0 lanes) (once_ranged (n % lanes) 0 lanes (omega arith) (omega (arith, r))) in
      let here : 0 + n ≡ n = omega arith in
      let more = ap (sum_by f) (row_more 0 n) ∙ sum_by-append f (range_with_len 0 n) ((0 + n) ∷ []) in
      let end = sum_by-cons f (0 + n) [] in
      subst (λ k. sum_by (λ lane. sum_by f (requests_of k lanes lane)) (range_with_len 0 lanes) ≡ sum_by f (range_with_len 0 (suc n))) (add-one n)
      (omega (arith, each, both, last, all_requests n, more, end, ap f here))

pub in_filter : (test : ℕ → Bool) (xs : List ℕ) (x : ℕ) → In x (filter test xs) → In x xs × (test x ≡ true)
in_filter test [] x h = absurd h
in_filter test (y ∷ ys) x h = by (test y) refl h (in_filter test ys x)
  where
    by : (b : Bool) → test y ≡ b → In x (cond b (y ∷ filter test ys) (filter test ys)) → (In x (filter test ys) → In x ys × (test x ≡ true)) → In x (y ∷ ys) × (test x ≡ true)
    by true is (inl same) more = (inl same, ap test (sym same) ∙ is)
    by true is (inr later) more = let r = more later in (inr r.0, r.1)
    by false is later more = let r = more later in (inr r.0, r.1)

-- a request of a lane is one of all
pub of_lane : (requests lanes lane i : ℕ) → In i (requests_of requests lanes lane) → (i < requests) × (eqb (i % lanes) lane ≡ true)
of_lane requests lanes lane i h =
    let r = in_filter (λ k. eqb (k % lanes) lane) (range_with_len 0 requests) i h in
    let s = in_ranged i 0 requests r.0 in
    (omega (arith, s.1), r.1)
