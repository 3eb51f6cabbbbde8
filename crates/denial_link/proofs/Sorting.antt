-- Keys that are sorted have their places in order.
use Rattle.std.proofs.Common.{◌≡◌, ◌≢◌, ◌⊎◌, inl, inr, ℕ, ◌+◌, ◌++◌, ◌∷◌, [], ◌<◌, true, false, Bool, cond, List, length, get_or, map, All, AllPairs, Contains, Some, slice_get, refl, sym, ◌∙◌, ap, subst, arith}
use Rattle.std.proofs.lemmas.Bool.{cases_lt, cases_eq}
use Rattle.std.specs.declared.cmp.Ordering.{Ordering}
use Rattle.std.specs.declared.cmp.Ordering.TheVariants.{Less, Equal, Greater}
use Rattle.std.specs.Ordering.{nat_cmp, ordering_then, ordering_reverse, is_lt}
use Rattle.std.specs.Cmp.{IsTotalOrder, then_total, on_total, back_total, nat_cmp_total, ranked}
use Rattle.std.specs.Cmp.Lexicographic.{slice_cmp, nat_list_cmp_total}
use Rattle.std.specs.List.{swap}
use Rattle.std.specs.List.Sorted.{IsPermutation, IsSorted}
use Rattle.std.proofs.lemmas.List.Edits.{swapped_from_swap, length-swap}
use Rattle.std.proofs.lemmas.List.{get_or-map, length-map}
use Rattle.std.proofs.lemmas.List.Elements.{All-contains, All-push, All-weaker, Contains-append_left, Contains-push}
use Rattle.std.proofs.lemmas.List.Quantifiers.{all_pairs_push}
use Rattle.std.proofs.lemmas.List.Sorted.{IsPermutation-keeps, All-permutation, Contains-permutation, sorted_far, ranks_by}
use Rattle.std.proofs.lemmas.Option.{same_Some, slice_get_within}
use Rattle.denial_link.proofs.Members.{Contains-from_map, Contains-to_map}
use Rattle.stmt_codec.specs.Certificates.{Certificate, digest_of, is_dead, IsDead, IsLive}
use Rattle.stmt_codec.proofs.Living.{dead-is_dead, is_dead-true}
use Rattle.denial_link.specs.Order.{by_time, order, GoesBefore, IsOut, OutInOrder}
use Rattle.denial_link.specs.Keys.{Key, IsKeyOf, KeysBelow, time_of}

-- two times, as the first three parts of keys
abbrev pub times_cmp : ℕ × ℕ × ℕ → ℕ × ℕ × ℕ → Ordering
times_cmp s t = ordering_then (ordering_then (nat_cmp s.0 t.0) (nat_cmp t.1 s.1)) (nat_cmp s.2 t.2)

abbrev pub key_cmp : Key → Key → Ordering
key_cmp x y =
    ordering_then (ordering_then (ordering_then (ordering_then (nat_cmp x.0 y.0) (nat_cmp y.1.0 x.1.0)) (nat_cmp x.2 y.2)) (slice_cmp nat_cmp x.3 y.3)) (nat_cmp x.4 y.4)

pub key_total : IsTotalOrder key_cmp
key_total =
    then_total (then_total (then_total (then_total (on_total (λ (k : Key). k.0) nat_cmp_total) (on_total (λ (k : Key). k.1.0) (back_total nat_cmp_total))) (on_total (λ (k : Key). k.2) nat_cmp_total)) (on_total (λ (k : Key). k.3) nat_list_cmp_total))
    (on_total (λ (k : Key). k.4) nat_cmp_total)

then_equal : (a b : Ordering) → ordering_then a b ≡ Equal → b ≡ Equal
then_equal Less b e = cc
then_equal Equal b e = e
then_equal Greater b e = cc

nat_cmp_equal : (m n : ℕ) → nat_cmp m n ≡ Equal → m ≡ n
nat_cmp_equal m n e = ranked m n Equal (sym e)

-- of two keys with different places one goes first
strictly : (x y : Key) → (x.4 ≢ y.4) → is_lt (key_cmp y x) ≡ false → key_cmp x y ≡ Less
strictly x y n h = by (key_cmp x y) refl
  where
    by : (r : Ordering) → key_cmp x y ≡ r → key_cmp x y ≡ Less
    by Less e = e
    by Equal e = absurd (n (nat_cmp_equal x.4 y.4 (then_equal (ordering_then (times_cmp (x.0, x.1.0, x.2) (y.0, y.1.0, y.2)) (slice_cmp nat_cmp x.3 y.3)) (nat_cmp x.4 y.4) e)))
    by Greater e = let back : key_cmp y x ≡ Less = key_total.antisymm y x ∙ ap ordering_reverse e in absurd (cc)

-- no two places are the same
abbrev pub AreApart : List Key → Type 0
AreApart keys = (a b : ℕ) (d : Key) → a < length keys → b < length keys → (get_or keys a d).4 ≡ (get_or keys b d).4 → a ≡ b

pub apart_from_rising : (keys : List Key) → AllPairs (λ j k. j.4 < k.4) keys → AreApart keys
apart_from_rising keys up a b d al bl e =
    elim (cases_lt a b) [
      | inl lt ↦ let h : (get_or keys a d).4 < (get_or keys b d).4 = up a b d lt bl in omega arith
      | inr le ↦ elim (cases_lt b a) [
        | inl lt ↦ let h : (get_or keys b d).4 < (get_or keys a d).4 = up b a d lt al in omega arith
        | inr le' ↦ omega arith
      ]
    ]

-- where an element stood before two were exchanged
abbrev IsTurned : ℕ → ℕ → ℕ → ℕ → Type 0
IsTurned i j a b = ((a ≡ i) × (b ≡ j)) ⊎ (((a ≡ j) × (b ≡ i)) ⊎ ((a ≢ i) × (a ≢ j) × (b ≡ a)))

turned_once : (i j a b c : ℕ) → IsTurned i j a c → IsTurned i j b c → a ≡ b
turned_once i j a b c (inl p) (inl q) = let e = p.0 in let f = q.0 in e ∙ sym f
turned_once i j a b c (inl p) (inr (inl q)) = let e = p.0 in let f = q.0 in let g = p.1 in let h = q.1 in cc
turned_once i j a b c (inl p) (inr (inr q)) = let n = q.1 in absurd (n (sym q.2 ∙ p.1))
turned_once i j a b c (inr (inl p)) (inl q) = let e = p.0 in let f = q.0 in let g = p.1 in let h = q.1 in cc
turned_once i j a b c (inr (inl p)) (inr (inl q)) = let e = p.0 in let f = q.0 in e ∙ sym f
turned_once i j a b c (inr (inl p)) (inr (inr q)) = let n = q.0 in absurd (n (sym q.2 ∙ p.1))
turned_once i j a b c (inr (inr p)) (inl q) = let n = p.1 in absurd (n (sym p.2 ∙ q.1))
turned_once i j a b c (inr (inr p)) (inr (inl q)) = let n = p.0 in absurd (n (sym p.2 ∙ q.1))
turned_once i j a b c (inr (inr p)) (inr (inr q)) = sym p.2 ∙ q.2

swap_apart : (keys : List Key) (i j : ℕ) → i < length keys → j < length keys → AreApart keys → AreApart (swap keys i j)
swap_apart keys i j il jl apart a b d al bl e =
    let (p, pl, pe, pt) = stood a al in
    let (q, ql, qe, qt) = stood b bl in
    let same : p ≡ q = apart p q d pl ql (ap (λ (k : Key). k.4) (sym pe) ∙ e ∙ ap (λ (k : Key). k.4) qe) in
    turned_once i j a b p pt (subst (λ (n : ℕ). IsTurned i j b n) (sym same) qt)
  where
    stood : (m : ℕ) → m < length (swap keys i j) → (n : ℕ) × (n < length keys) × (get_or (swap keys i j) m d ≡ get_or keys n d) × IsTurned i j m n
    stood m ml =
        let s = swapped_from_swap keys (swap keys i j) i j d il jl refl in
        let within : m < length keys = subst (λ (n : ℕ). m < n) (length-swap keys i j) ml in
        elim (cases_eq m i) [
          | inl e ↦ (j, jl, ap (λ n. get_or (swap keys i j) n d) e ∙ s.0, inl (e, refl))
          | inr n ↦ elim (cases_eq m j) [
            | inl e ↦ (i, il, ap (λ n. get_or (swap keys i j) n d) e ∙ s.1, inr (inl (e, refl)))
            | inr o ↦ (m, within, s.2 m n o, inr (inr (n, o, refl)))
          ]
        ]

apart_permuted : (keys ys : List Key) → IsPermutation keys ys → AreApart keys → AreApart ys
apart_permuted keys ys p h = IsPermutation-keeps keys AreApart h (λ l i j il jl a. swap_apart l i j il jl a) ys p

-- ---- the keys that are found one after another

no_key : Key
no_key = (0, record { 0 = 0 }, 0, [], 0)

key_at : (certs : List Certificate) (moment : ℕ) (i : ℕ) (c : Certificate) (k : Key) → slice_get certs i ≡ Some c → (IsLive moment c → ⊥) → k.4 ≡ i → (k.0, k.1.0, k.2) ≡ time_of moment c → k.3 ≡ digest_of c → IsKeyOf certs moment k
key_at certs moment i c k s d p e g = record { cert = c; stands = ap (slice_get certs) p ∙ s; out = d; time = e; digest = g }

pub keys_push : (certs : List Certificate) (moment n : ℕ) (keys : List Key) (c : Certificate) (k : Key) → KeysBelow certs moment n keys → slice_get certs n ≡ Some c → (IsLive moment c → ⊥) → k.4 ≡ n → (k.0, k.1.0, k.2) ≡ time_of moment c → k.3 ≡ digest_of c → KeysBelow certs moment (n + 1) (keys ++ k ∷ [])
keys_push certs moment n keys c k below s d p e g = record {
  sound = All-push (IsKeyOf certs moment) keys k below.sound (key_at certs moment n c k s d p e g);
  below = All-push (λ (j : Key). j.4 < n + 1) keys k (All-weaker (λ (j : Key). j.4 < n) (λ (j : Key). j.4 < n + 1) (λ j lt. omega (arith, lt)) keys below.below) (omega (arith, p));
  every = every;
  rising = all_pairs_push (λ (i j : Key). i.4 < j.4) keys k below.rising (λ i x lt. let b : (get_or keys i x).4 < n = below.below i x lt in omega (arith, b, p));
}
  where
    every : (i : ℕ) (b : Certificate) → i < n + 1 → slice_get certs i ≡ Some b → (IsLive moment b → ⊥) → (j : Key) × Contains (keys ++ k ∷ []) j × (j.4 ≡ i)
    every i b lt t u =
        elim (cases_lt i n) [
          | inl l ↦ let (j, has, at) = below.every i b l t u in (j, Contains-append_left keys (k ∷ []) j has, at)
          | inr l ↦ (k, Contains-push keys k, omega (arith, p, lt, l))
        ]

pub keys_pass : (certs : List Certificate) (moment n : ℕ) (keys : List Key) (c : Certificate) → KeysBelow certs moment n keys → slice_get certs n ≡ Some c → IsLive moment c → KeysBelow certs moment (n + 1) keys
keys_pass certs moment n keys c below s live = record {
  sound = below.sound;
  below = All-weaker (λ (j : Key). j.4 < n) (λ (j : Key). j.4 < n + 1) (λ j lt. omega (arith, lt)) keys below.below;
  every = every;
  rising = below.rising;
}
  where
    every : (i : ℕ) (b : Certificate) → i < n + 1 → slice_get certs i ≡ Some b → (IsLive moment b → ⊥) → (j : Key) × Contains keys j × (j.4 ≡ i)
    every i b lt t u =
        elim (cases_lt i n) [
          | inl l ↦ below.every i b l t u
          | inr l ↦
              let at : i ≡ n = omega arith in
              let same : b ≡ c = same_Some b c (sym t ∙ ap (slice_get certs) at ∙ s) in
              absurd (u (subst (IsLive moment) (sym same) live))
        ]

-- ---- the places in order

abbrev pub places_of : List Key → List ℕ
places_of keys = map (λ (k : Key). k.4) keys

then_same : (r : Ordering) → ordering_then r Equal ≡ r
then_same Less = refl
then_same Equal = refl
then_same Greater = refl

pub time-dead : (moment : ℕ) (c : Certificate) → IsDead moment c → (0, c.until, 0) ≡ time_of moment c
time-dead moment c dead = let test : is_dead moment c ≡ true = dead-is_dead moment c dead in rw test refl

pub time-early : (moment : ℕ) (c : Certificate) → (IsDead moment c → ⊥) → (1, 0, c.from) ≡ time_of moment c
time-early moment c not_dead = by (is_dead moment c) refl
  where
    by : (b : Bool) → is_dead moment c ≡ b → ◌≡◌ {A = ℕ × ℕ × ℕ} (1, 0, c.from) (cond b (0, c.until, 0) (1, 0, c.from))
    by true e = absurd (not_dead (is_dead-true moment c e))
    by false e = refl

-- keys have their times in the order of the certificates
pub in_time : (moment : ℕ) (c d : Certificate) → times_cmp (time_of moment c) (time_of moment d) ≡ by_time moment c d
in_time moment c d = by (is_dead moment c) (is_dead moment d)
  where
    by : (b e : Bool) → times_cmp (cond b (0, c.until, 0) (1, 0, c.from)) (cond e (0, d.until, 0) (1, 0, d.from)) ≡ cond b (cond e (nat_cmp d.until c.until) Less) (cond e Greater (nat_cmp c.from d.from))
    by true true = then_same (nat_cmp d.until c.until)
    by true false = refl
    by false true = refl
    by false false = refl

order_of : (moment : ℕ) (x y : Key) (c d : Certificate) → (x.0, x.1.0, x.2) ≡ time_of moment c → x.3 ≡ digest_of c → (y.0, y.1.0, y.2) ≡ time_of moment d → y.3 ≡ digest_of d → key_cmp x y ≡ order moment x.4 c y.4 d
order_of moment x y c d p q r s =
    (λ i. ordering_then (ordering_then (times_cmp (p i) (r i)) (slice_cmp nat_cmp (q i) (s i))) (nat_cmp x.4 y.4))
    ∙ ap (λ (t : Ordering). ordering_then (ordering_then t (slice_cmp nat_cmp (digest_of c) (digest_of d))) (nat_cmp x.4 y.4)) (in_time moment c d)

goes_before : (certs : List Certificate) (moment : ℕ) (x y : Key) → IsKeyOf certs moment x → IsKeyOf certs moment y → key_cmp x y ≡ Less → GoesBefore moment certs x.4 y.4
goes_before certs moment x y kx ky less c d sc sd =
    let cx : kx.cert ≡ c = same_Some kx.cert c (sym kx.stands ∙ sc) in
    let cy : ky.cert ≡ d = same_Some ky.cert d (sym ky.stands ∙ sd) in
    sym (order_of moment x y c d
    (kx.time ∙ ap (time_of moment) cx) (kx.digest ∙ ap digest_of cx)
    (ky.time ∙ ap (time_of moment) cy) (ky.digest ∙ ap digest_of cy)) ∙ less

pub sorted_in_order : (certs : List Certificate) (moment : ℕ) (keys ys : List Key) → KeysBelow certs moment (length certs) keys → IsPermutation keys ys → IsSorted key_cmp ys → OutInOrder certs moment (places_of ys)
sorted_in_order certs moment keys ys below p sorted = record { out = λ i. (to i, from i); in_order = in_order }
  where
    sound : All (IsKeyOf certs moment) ys
    sound = All-permutation (IsKeyOf certs moment) keys ys p below.sound

    apart : AreApart ys
    apart = apart_permuted keys ys p (apart_from_rising keys below.rising)

    to : (i : ℕ) → Contains (places_of ys) i → IsOut certs moment i
    to i h =
        let (k, has, at) = Contains-from_map (λ (k : Key). k.4) ys i h in
        let of : IsKeyOf certs moment k = All-contains (IsKeyOf certs moment) ys k sound has in
        (of.cert, ap (slice_get certs) (sym at) ∙ of.stands, of.out)

    from : (i : ℕ) → IsOut certs moment i → Contains (places_of ys) i
    from i (c, s, d) =
        let (k, has, at) = below.every i c (slice_get_within certs i c s) s d in
        subst (Contains (places_of ys)) at (Contains-to_map (λ (k : Key). k.4) ys k (Contains-permutation keys ys k p has))

    in_order : AllPairs (GoesBefore moment certs) (places_of ys)
    in_order i j d lt jl =
        let n : j < length ys = subst (λ (m : ℕ). j < m) (length-map ys (λ (k : Key). k.4)) jl in
        let il : i < length ys = omega arith in
        let a = get_or ys i no_key in
        let b = get_or ys j no_key in
        let differ : (a.4 ≢ b.4) = λ e. let same : i ≡ j = apart i j no_key il n e in omega arith in
        let less : key_cmp a b ≡ Less = strictly a b differ (sorted_far (λ (x y : Key). is_lt (key_cmp x y)) (ranks_by key_total (λ (k : Key). k)) ys sorted i j no_key (omega arith) n) in
        let goes : GoesBefore moment certs a.4 b.4 = goes_before certs moment a b (sound i no_key il) (sound j no_key n) less in
        subst (λ (m : ℕ). GoesBefore moment certs (get_or (places_of ys) i d) m) (sym (get_or-map (λ (k : Key). k.4) ys j no_key d n))
        (subst (λ (m : ℕ). GoesBefore moment certs m b.4) (sym (get_or-map (λ (k : Key). k.4) ys i no_key d il)) goes)
