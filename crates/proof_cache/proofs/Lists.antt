-- Lists of kept proofs: where one is kept for a subject and a principal, no other is.
use Rattle.std.proofs.Common.{◌≡◌, ◌∙◌, ◌⊎◌, ℕ, zero, suc, ◌+◌, ◌-◌, ◌<◌, Bool, true, false, not, List, [], ◌∷◌, ◌++◌, length, get_or, take, drop, Some, inl, inr, refl, sym, ap, subst, arith}
use Rattle.std.specs.List.{All, AllPairs, filter, find, list_any, slice_get}
use Rattle.std.proofs.lemmas.Bool.{and_from, cases_Bool, false≢true}
use Rattle.std.proofs.lemmas.List.{get_or-append-add, get_or-take, length-append, length-drop, length-take}
use Rattle.std.proofs.lemmas.List.Sums.{count_by-le-length, length-filter}
use Rattle.std.proofs.lemmas.List.Elements.{All-cons, All-nil}
use Rattle.std.proofs.lemmas.List.Kept.{AllPairs-cons, AllPairs-filter}
use Rattle.std.proofs.lemmas.Option.{get_or_from_slice_get, slice_get_within}
use Rattle.std.proofs.Math.Seq.{get_or-append_seam}
use Rattle.prin_term.specs.Principal.{Principal}
use Rattle.byte_fields.proofs.ReaderLaws.{AllPairs-before}
use Rattle.stmt_codec.specs.Distinct.{same_principal}
use Rattle.stmt_codec.proofs.Same.{same_principal-itself}
use Rattle.proof_cache.specs.Cached.{Cached}
use Rattle.proof_cache.specs.Cache.{IsCache, is_for, keeping, to_front, without}
use Rattle.proof_cache.specs.declared.row.TheConstants.{MAX_KEPT}
use Rattle.proof_cache.proofs.Marks.{is_kept_for}
use Rattle.proof_cache.proofs.One.{any_one, found_one, leaves_others, none_moved, passes_one}

-- a list at one of its places
parted : {X : Type 0} (xs : List X) (k : ℕ) (x : X) → slice_get xs k ≡ Some x →
    xs ≡ take k xs ++ x ∷ drop (suc k) xs
parted [] k x h = absurd (omega (arith, slice_get_within [] k x h))
parted (y ∷ ys) zero x h = ap (λ z. z ∷ ys) (get_or_from_slice_get (y ∷ ys) 0 x x h)
parted (y ∷ ys) (suc k) x h = ap (λ zs. y ∷ zs) (parted ys k x h)

pub split_at : {X : Type 0} (xs : List X) (k : ℕ) (x : X) → slice_get xs k ≡ Some x →
    xs ≡ take k xs ++ x ∷ drop (k + 1) xs
split_at xs k x h =
    let next : suc k ≡ k + 1 = omega arith in
    subst (λ n. xs ≡ take k xs ++ x ∷ drop n xs) next (parted xs k x h)

-- an element stands apart from those after it
AllPairs-after : {X : Type 0} (R : X → X → Type 0) (before : List X) (x : X) (more : List X) →
    AllPairs R (before ++ x ∷ more) → All (R x) more
AllPairs-after R before x more pairs k d below =
    let here : get_or (before ++ x ∷ more) (length before) d ≡ x =
    get_or-append_seam before x more d in
    let there : get_or (before ++ x ∷ more) (length before + suc k) d ≡ get_or more k d =
    get_or-append-add before (x ∷ more) (suc k) d in
    subst (λ y. R y (get_or more k d)) here (subst (R (get_or (before ++ x ∷ more) (length before) d))
    there (pairs (length before) (length before + suc k) d (omega arith)
    (omega (arith, length-append before (x ∷ more)))))

-- of two that are kept for the same, the one is kept for what the other is
one_key : (subject who : Principal) (c d : Cached) → is_for subject who c ≡ true →
    is_for subject who d ≡ true → is_for d.subject d.who c ≡ true
one_key subject who c d first second =
    let a = is_kept_for subject who c first in
    let b = is_kept_for subject who d second in
    and_from (same_principal c.subject d.subject) (same_principal c.who d.who)
    (subst (λ p. same_principal c.subject p ≡ true) (a.0 ∙ sym b.0)
    (same_principal-itself c.subject))
    (subst (λ p. same_principal c.who p ≡ true) (a.1 ∙ sym b.1) (same_principal-itself c.who))

-- what is kept for one is not kept for what stands apart from it
fails : (b : Bool) → (b ≡ true → ⊥) → b ≡ false
fails true h = absurd (h refl)
fails false h = refl

-- the two are kept for different
abbrev Apart : Cached → Cached → Type 0
Apart x y = is_for y.subject y.who x ≡ false

-- ---- one that is kept for a subject and a principal

module _ (subject who : Principal) (before : List Cached) (c : Cached) (after : List Cached)
    (apart : AllPairs (λ x y. is_for y.subject y.who x ≡ false) (before ++ c ∷ after))
    (here : is_for subject who c ≡ true) where
  abbrev Fails : Cached → Type 0
  Fails x = is_for subject who x ≡ false

  pub none_before : All Fails before
  none_before k d below =
      fails (is_for subject who (get_or before k d)) (λ same. false≢true
      (sym (AllPairs-before Apart before c after apart k d below)
      ∙ one_key subject who (get_or before k d) c same here))

  pub none_after : All Fails after
  none_after k d below =
      fails (is_for subject who (get_or after k d)) (λ same. false≢true
      (sym (AllPairs-after Apart before c after apart k d below)
      ∙ one_key subject who c (get_or after k d) here same))

  pub front : to_front (is_for subject who) (before ++ c ∷ after) ≡ c ∷ (before ++ after)
  front = rw (
    passes_one (is_for subject who) c here after none_after before none_before,
    leaves_others (is_for subject who) c here after none_after before none_before,
  ) refl

  pub found : find (is_for subject who) (before ++ c ∷ after) ≡ Some c
  found = found_one (is_for subject who) c here after none_after before none_before

  pub any : list_any (is_for subject who) (before ++ c ∷ after) ≡ true
  any = any_one (is_for subject who) c here after none_after before none_before

  pub others : without (is_for subject who) (before ++ c ∷ after) ≡ before ++ after
  others = leaves_others (is_for subject who) c here after none_after before none_before

-- ---- lists of kept proofs that stay such

pub stays_filtered : (p : Cached → Bool) (xs : List Cached) → IsCache xs → IsCache (filter p xs)
stays_filtered p xs c = record {
  few = omega (arith, length-filter p xs, count_by-le-length p xs, c.few);
  apart = AllPairs-filter Apart p xs c.apart;
}

-- what passes no test that one passes stands apart from that one
fails_apart : (subject who : Principal) (x y : Cached) → is_for subject who x ≡ true →
    not (is_for subject who y) ≡ true → Apart x y
fails_apart subject who x y here other =
    fails (is_for y.subject y.who x) (λ same.
    let key = is_kept_for y.subject y.who x same in
    let mine = is_kept_for subject who x here in
    let both = and_from (same_principal y.subject subject) (same_principal y.who who)
    (subst (λ p. same_principal y.subject p ≡ true) (sym key.0 ∙ mine.0)
    (same_principal-itself y.subject))
    (subst (λ p. same_principal y.who p ≡ true) (sym key.1 ∙ mine.1)
    (same_principal-itself y.who)) in
    false≢true (sym (ap not both) ∙ other))

-- what a test leaves passes it
passes_left : {X : Type 0} (p : X → Bool) (xs : List X) → All (λ x. p x ≡ true) (filter p xs)
passes_left p [] = All-nil (λ x. p x ≡ true)
passes_left p (x ∷ xs) =
    elim (cases_Bool (p x)) [
      | inl yes_x ↦ rw yes_x (All-cons (λ y. p y ≡ true) x (filter p xs) yes_x (passes_left p xs))
      | inr no_x ↦ rw no_x (passes_left p xs)
    ]

-- what is kept for these, before those that are kept for others
pub stays_in_front : (subject who : Principal) (x : Cached) (xs : List Cached) →
    AllPairs Apart xs → is_for subject who x ≡ true →
    AllPairs Apart (x ∷ without (is_for subject who) xs)
stays_in_front subject who x xs apart here =
    AllPairs-cons Apart x (without (is_for subject who) xs)
    (λ k d below. fails_apart subject who x (get_or (without (is_for subject who) xs) k d) here
    (passes_left (λ y. not (is_for subject who y)) xs k d below))
    (AllPairs-filter Apart (λ y. not (is_for subject who y)) xs apart)

-- ---- at a place

module _ (subject who : Principal) (xs : List Cached) (k : ℕ) (c : Cached) (cache : IsCache xs)
    (at : slice_get xs k ≡ Some c) (here : is_for subject who c ≡ true) where
  apart_at : AllPairs Apart (take k xs ++ c ∷ drop (k + 1) xs)
  apart_at = subst (AllPairs Apart) (split_at xs k c at) cache.apart

  pub front_at : to_front (is_for subject who) xs ≡ c ∷ (take k xs ++ drop (k + 1) xs)
  front_at =
      subst (λ ys. to_front (is_for subject who) ys ≡ c ∷ (take k xs ++ drop (k + 1) xs))
      (sym (split_at xs k c at))
      (front subject who (take k xs) c (drop (k + 1) xs) apart_at here)

  pub found_at : find (is_for subject who) xs ≡ Some c
  found_at =
      subst (λ ys. find (is_for subject who) ys ≡ Some c) (sym (split_at xs k c at))
      (found subject who (take k xs) c (drop (k + 1) xs) apart_at here)

  pub any_at : list_any (is_for subject who) xs ≡ true
  any_at =
      subst (λ ys. list_any (is_for subject who) ys ≡ true) (sym (split_at xs k c at))
      (any subject who (take k xs) c (drop (k + 1) xs) apart_at here)

  pub others_at : without (is_for subject who) xs ≡ take k xs ++ drop (k + 1) xs
  others_at =
      subst (λ ys. without (is_for subject who) ys ≡ take k xs ++ drop (k + 1) xs)
      (sym (split_at xs k c at))
      (others subject who (take k xs) c (drop (k + 1) xs) apart_at here)

-- the first of them are such too
AllPairs-take : {X : Type 0} (R : X → X → Type 0) (n : ℕ) (xs : List X) → AllPairs R xs →
    AllPairs R (take n xs)
AllPairs-take R n xs pairs i j d lt below =
    let inside : j < n = omega (arith, below, length-take n xs) in
    let within : j < length xs = omega (arith, below, length-take n xs) in
    let first : get_or (take n xs) i d ≡ get_or xs i d = get_or-take n xs i d (omega arith) in
    let second : get_or (take n xs) j d ≡ get_or xs j d = get_or-take n xs j d inside in
    rw (first, second) (pairs i j d lt within)

-- the new one in front, and the others but the last of too many
pub stays_kept : (c : Cached) (xs : List Cached) → IsCache xs → IsCache (keeping c xs)
stays_kept c xs cache = record {
  few = omega (arith, length-take (MAX_KEPT - 1) (without (is_for c.subject c.who) xs));
  apart = AllPairs-take Apart MAX_KEPT (c ∷ without (is_for c.subject c.who) xs)
      (stays_in_front c.subject c.who c xs cache.apart
      (and_from (same_principal c.subject c.subject) (same_principal c.who c.who)
      (same_principal-itself c.subject) (same_principal-itself c.who)));
}

-- one passes, at its place, or none does
find_place : (subject who : Principal) (xs : List Cached) →
    ((k : ℕ) × (c : Cached) × (slice_get xs k ≡ Some c) × (is_for subject who c ≡ true))
    ⊎ All (λ c. is_for subject who c ≡ false) xs
find_place subject who [] = inr (All-nil (λ c. is_for subject who c ≡ false))
find_place subject who (x ∷ xs) =
    let rest = find_place subject who xs in
    elim (cases_Bool (is_for subject who x)) [
      | inl here ↦ inl (0, x, refl, here)
      | inr other ↦ elim rest [
        | inl found ↦ inl (suc found.0, found.1, found.2, found.3)
        | inr none ↦ inr (All-cons (λ c. is_for subject who c ≡ false) x xs other none)
      ]
    ]

-- what is kept for these in front
pub stays_in_order : (subject who : Principal) (xs : List Cached) → IsCache xs →
    IsCache (to_front (is_for subject who) xs)
stays_in_order subject who xs cache = by (find_place subject who xs) where
  by : ((k : ℕ) × (c : Cached) × (slice_get xs k ≡ Some c) × (is_for subject who c ≡ true))
      ⊎ All (λ c. is_for subject who c ≡ false) xs → IsCache (to_front (is_for subject who) xs)
  by (inl found) = record {
    few = omega (
      arith,
      ap length (front_at subject who xs found.0 found.1 cache found.2 found.3),
      length-append (take found.0 xs) (drop (found.0 + 1) xs),
      length-take found.0 xs,
      length-drop (found.0 + 1) xs,
      slice_get_within xs found.0 found.1 found.2,
      cache.few,
    );
    apart = subst (λ ys. AllPairs Apart ys)
        (sym (front_at subject who xs found.0 found.1 cache found.2 found.3))
        (subst (λ ys. AllPairs Apart (found.1 ∷ ys))
        (others_at subject who xs found.0 found.1 cache found.2 found.3)
        (stays_in_front subject who found.1 xs cache.apart found.3));
  }
  by (inr none) = subst IsCache (sym (none_moved (is_for subject who) xs none)) cache
