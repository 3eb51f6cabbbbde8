-- The domains of a list, by their numbers.
use Rattle.std.proofs.Common.{◌≡◌, ℕ, suc, ◌+◌, ◌<◌, ◌≤◌, ◌^◌, Bool, true, false, cond, eqb, ltb, not, List, [], ◌∷◌, ◌++◌, length, get_or, take, map, Option, Some, None, refl, sym, ap, subst, ◌∙◌, arith, inl, inr, ◌⊎◌, All, length-take}
use Rattle.std.specs.Prelude.{is_some, IsSome, find, slice_get}
use Rattle.std.specs.List.{position, position_or_len}
use Rattle.std.proofs.lemmas.Bool.{eqb-true, cases_Bool, ltb-true, ltb-false, lt-ltb, false≢true}
use Rattle.std.proofs.lemmas.Option.{slice_get-get_or, slice_get_within, get_or_from_slice_get}
use Rattle.std.proofs.lemmas.List.{get_or-take}
use Rattle.std.proofs.lemmas.List.Sums.{fails_before_first, passes_at_first, position_or_len_is}
use Rattle.byte_fields.proofs.Results.{chosen}
use Rattle.keyed_seal.specs.Keys.{key_of}
use Rattle.relay_path.specs.Domains.{DomainKnows, domain_of, IsNumberOf}
use Rattle.relay_path.specs.Going.{first_unknown}

-- the domain of a number has the number
pub number_is : (ds : List DomainKnows) (n : ℕ) (d : DomainKnows) → domain_of ds n ≡ Some d → d.number ≡ n
number_is [] n d e = absurd cc
number_is (x ∷ ds) n d e = elim (chosen (eqb x.number n) (Some x) (domain_of ds n) (Some d) e) [
  | inl this ↦ let same : x ≡ d = cc this.1 in ap (λ (k : DomainKnows). k.number) (sym same) ∙ eqb-true x.number n this.0
  | inr later ↦ number_is ds n d later.1
]

pub one_domain : (ds : List DomainKnows) (n : ℕ) (d e : DomainKnows) → domain_of ds n ≡ Some d → domain_of ds n ≡ Some e → d ≡ e
one_domain ds n d e is also = cc (sym is ∙ also)

-- ---- the first number that is no domain's

abbrev pub is_unknown : List DomainKnows → ℕ → Bool
is_unknown ds n = not (is_some (domain_of ds n))

known_is : {A : Type 0} (o : Option A) → not (is_some o) ≡ false → IsSome o
known_is None e = absurd (false≢true (sym e))
known_is (Some x) e = refl

is_known : {A : Type 0} (o : Option A) → IsSome o → not (is_some o) ≡ false
is_known None some = absurd (false≢true some)
is_known (Some x) some = refl

unknown_is : {A : Type 0} (o : Option A) → not (is_some o) ≡ true → o ≡ None
unknown_is None e = refl
unknown_is (Some x) e = absurd (false≢true e)

none_unknown : {A : Type 0} (o : Option A) → o ≡ None → not (is_some o) ≡ true
none_unknown None e = refl
none_unknown (Some x) e = absurd cc

module _ (ds : List DomainKnows) (route : List ℕ) where
  abbrev at : ℕ
  at = position_or_len (is_unknown ds) route

  pub all_known : first_unknown ds route ≡ None → All (IsNumberOf ds) route
  all_known e k d below = elim (chosen (ltb at (length route)) (Some at) None None e) [
    | inl there ↦ absurd (cc (there.1))
    | inr none ↦ known_is (domain_of ds (get_or route k d)) (fails_before_first (is_unknown ds) route k d (omega (arith, below, ltb-false at (length route) none.0)))
  ]

  pub known_all : All (IsNumberOf ds) route → first_unknown ds route ≡ None
  known_all all = elim (cases_Bool (ltb at (length route))) [
    | inl there ↦
        let below : at < length route = ltb-true at (length route) there in
        absurd (false≢true (sym (is_known (domain_of ds (get_or route at 0)) (all at 0 below)) ∙ passes_at_first (is_unknown ds) route 0 below))
    | inr none ↦ rw none refl
  ]

  -- a place whose number is the first that is no domain's
  pub record IsFirstUnknown (place : ℕ) : Type 0 where
    pub number : ℕ
    pub stands : slice_get route place ≡ Some number
    pub none : domain_of ds number ≡ None
    pub before : All (IsNumberOf ds) (take place route)

  pub unknown_takes : (place : ℕ) → first_unknown ds route ≡ Some place → IsFirstUnknown place
  unknown_takes place e = elim (chosen (ltb at (length route)) (Some at) None (Some place) e) [
    | inl there ↦
        let same : at ≡ place = cc there.1 in
        let below : at < length route = ltb-true at (length route) there.0 in
        subst IsFirstUnknown same (record {
          number = get_or route at 0;
          stands = slice_get-get_or route at 0 below;
          none = unknown_is (domain_of ds (get_or route at 0)) (passes_at_first (is_unknown ds) route 0 below);
          before = λ k d less.
              let within : k < at = omega (arith, less, length-take at route) in
              subst (IsNumberOf ds) (sym (get_or-take at route k d within)) (known_is (domain_of ds (get_or route k d)) (fails_before_first (is_unknown ds) route k d within));
        })
    | inr none ↦ absurd (cc (none.1))
  ]

  pub unknown_again : (place : ℕ) → IsFirstUnknown place → first_unknown ds route ≡ Some place
  unknown_again place is =
      let below : place < length route = slice_get_within route place is.number is.stands in
      let this : get_or route place 0 ≡ is.number = get_or_from_slice_get route place is.number 0 is.stands in
      let first : at ≡ place = position_or_len_is (is_unknown ds) route place 0 (omega (arith, below))
      (λ k less.
      let within : k < length (take place route) = omega (arith, less, below, length-take place route) in
      is_known (domain_of ds (get_or route k 0)) (subst (IsNumberOf ds) (get_or-take place route k 0 less) (is.before k 0 within)))
      (λ lt. none_unknown (domain_of ds (get_or route place 0)) (ap (domain_of ds) this ∙ is.none)) in
      let within : ltb place (length route) ≡ true = lt-ltb place (length route) below in
      rw (first, within) refl
