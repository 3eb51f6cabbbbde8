-- The first certificate that passes a test.
use Rattle.std.proofs.Common.{◌≡◌, ℕ, ◌+◌, ◌<◌, Bool, true, false, not, ◌||◌, List, [], ◌∷◌, ◌++◌, length, get_or, find, None, Some, slice_get, inl, inr, refl, ap, ap₂, ◌∙◌, arith}
use Rattle.std.specs.List.{position_or_len}
use Rattle.std.proofs.lemmas.Bool.{cases_lt}
use Rattle.std.proofs.lemmas.List.Folds.{find_at, list_any-append}
use Rattle.std.proofs.lemmas.List.Sums.{position_or_len_is}
use Rattle.std.proofs.lemmas.Option.{slice_get_within, slice_get_past, get_or_from_slice_get}
use Rattle.stmt_codec.specs.Certificates.{Certificate}
use Rattle.stmt_codec.specs.Equality.{same_certificate}
use Rattle.agent_core.specs.Held.{among}

-- none of the first ones passes
abbrev pub NonePasses : (Certificate → Bool) → List Certificate → ℕ → Type 0
NonePasses p certs count = (k : ℕ) (d : Certificate) → k < count → p (get_or certs k d) ≡ false

module _ (p : Certificate → Bool) where
  pub first_found : (certs : List Certificate) (place : ℕ) (c : Certificate) → NonePasses p certs place → slice_get certs place ≡ Some c → p c ≡ true → find p certs ≡ Some c
  first_found certs place c none at here =
      let within : place < length certs = slice_get_within certs place c at in
      let is : position_or_len p certs ≡ place =
      position_or_len_is p certs place c (omega (arith, within)) (λ k lt. none k c lt) (λ lt. ap p (get_or_from_slice_get certs place c c at) ∙ here) in
      find_at p certs ∙ ap (slice_get certs) is ∙ at

  pub none_found : (certs : List Certificate) (count : ℕ) → count ≡ length certs → NonePasses p certs count → find p certs ≡ None
  none_found [] count all none = refl
  none_found (x ∷ xs) count all none =
      let is : position_or_len p (x ∷ xs) ≡ count = position_or_len_is p (x ∷ xs) count x (omega (arith, all)) (λ k lt. none k x lt) (λ lt. absurd (omega (arith, lt, all))) in
      find_at p (x ∷ xs) ∙ ap (slice_get (x ∷ xs)) is ∙ slice_get_past (x ∷ xs) count (omega (arith, all))

  pub none_passes_more : (certs : List Certificate) (place : ℕ) (c : Certificate) → NonePasses p certs place → slice_get certs place ≡ Some c → p c ≡ false → NonePasses p certs (place + 1)
  none_passes_more certs place c none at here k d lt =
      elim (cases_lt k place) [
        | inl l ↦ none k d l
        | inr l ↦
            let same : k ≡ place = omega (arith, l, lt) in
            ap (λ n. p (get_or certs n d)) same ∙ ap p (get_or_from_slice_get certs place c d at) ∙ here
      ]

-- what is among neither is not among both
pub not_among : (xs ys : List Certificate) (c : Certificate) → among xs c ≡ false → among ys c ≡ false → not (among (xs ++ ys) c) ≡ true
not_among xs ys c a b = ap not (list_any-append (same_certificate c) xs ys ∙ ap₂ (λ u v. u || v) a b)

or_right : (b : Bool) → (b || true) ≡ true
or_right true = refl
or_right false = refl

pub among_left : (xs ys : List Certificate) (c : Certificate) → among xs c ≡ true → not (among (xs ++ ys) c) ≡ false
among_left xs ys c a = ap not (list_any-append (same_certificate c) xs ys ∙ ap (λ u. u || among ys c) a)

pub among_right : (xs ys : List Certificate) (c : Certificate) → among ys c ≡ true → not (among (xs ++ ys) c) ≡ false
among_right xs ys c b = ap not (list_any-append (same_certificate c) xs ys ∙ ap (λ u. among xs c || u) b ∙ or_right (among xs c))
