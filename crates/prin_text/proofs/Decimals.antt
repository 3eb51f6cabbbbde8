-- Numbers as they are written, and as they are read.
use Rattle.std.proofs.Common.{◌≡◌, ℕ, zero, suc, ◌+◌, ◌-◌, ◌*◌, ◌^◌, ◌<◌, ◌≤◌, Bool, true, false, cond, ◌&&◌, List, [], ◌∷◌, length, get_or, Ok, Err, refl, sym, ◌∙◌, ap, inl, inr, arith, rules, drop}
use Rattle.std.specs.List.{list_all}
use Rattle.std.specs.Fmt.{decimal}
use Rattle.std.proofs.lemmas.Bool.{false≢true}
use Rattle.std.proofs.lemmas.Bool.Decides.{nat_tests, leb_tells}
use Rattle.prin_text.specs.declared.fault.TextCause.TheVariants.{Syntax, Number}
use Rattle.std.proofs.lemmas.List.{at_drop_more}
use Rattle.std.proofs.lemmas.Fmt.{digits_decimal, digits_value-decimal, decimal-digits_value, decimal_nonempty, first_decimal, decimal_digit}
use Rattle.std.proofs.lemmas.Str.Parse.{IsNumeralModel, numerals_by_fold}
use Rattle.prin_text.specs.Labels.{is_digit}
use Rattle.prin_text.specs.Refusing.{is_number}
use Rattle.prin_text.specs.Words.{are_digits, fitting, has_leading_zero, has_sign, number_in, value_after}

-- all are digits
abbrev pub AreDigits : List ℕ → Type 0
AreDigits ds = list_all is_digit ds ≡ true

-- the test and the value are those of std's numerals
pub own : IsNumeralModel AreDigits (value_after 0)
own = numerals_by_fold _ (search rules) value_after (search rules)

-- digits may only add to a number
pub value_after-ge : (n : ℕ) (ds : List ℕ) → n ≤ value_after n ds
value_after-ge n [] = omega arith
value_after-ge n (d ∷ ds) = omega (arith, value_after-ge (10 * n + (d - 48)) ds)

-- digits begin with no sign
has_sign-digits : (ds : List ℕ) → AreDigits ds → has_sign ds ≡ false
has_sign-digits [] all = refl
has_sign-digits (b ∷ ds) all = grind (arith, nat_tests)

-- a first digit that is greater than zero is none
no_leading_zero : (ds : List ℕ) → 48 < get_or ds 0 0 → has_leading_zero ds ≡ false
no_leading_zero [] greater = refl
no_leading_zero (b ∷ ds) greater = grind (arith, nat_tests)

pub has_leading_zero-decimal : (n : ℕ) → n < 2 ^ 64 → has_leading_zero (decimal n) ≡ false
has_leading_zero-decimal zero lt = rw (decimal_digit 0 (omega arith)) refl
has_leading_zero-decimal (suc n) lt = no_leading_zero (decimal (suc n)) (first_decimal (suc n) (omega arith) lt)

pub are_digits-from : (ds : List ℕ) → 0 < length ds → AreDigits ds → are_digits ds ≡ true
are_digits-from ds some all = grind (arith, nat_tests)

second_true : (a b : Bool) → (a && b) ≡ true → b ≡ true
second_true true b e = e
second_true false b e = absurd (false≢true e)

are_digits-some : (ds : List ℕ) → are_digits ds ≡ true → (0 < length ds) × AreDigits ds
are_digits-some [] is = absurd (false≢true is)
are_digits-some (d ∷ ds) is = (omega arith, second_true _ (list_all is_digit (d ∷ ds)) is)

fitting-below : (n : ℕ) → n < 2 ^ 32 → fitting n ≡ Ok n
fitting-below n lt = grind (arith, nat_tests)

fitting-ok : (m n : ℕ) → fitting m ≡ Ok n → (m < 2 ^ 32) × (m ≡ n)
fitting-ok m n e = elim (leb_tells (suc m) (2 ^ 32)) [
  | inl below ↦ (below.1, cc (e, ap (λ b. cond b (Ok m) (Err Number)) below.0))
  | inr above ↦ absurd (cc (e, ap (λ b. cond b (Ok m) (Err Number)) above.0))
]

-- a number of 32 bits is read as it is written
pub number_in-decimal : (n : ℕ) → n < 2 ^ 32 → number_in (decimal n) ≡ Ok n
unfolding number_in
number_in-decimal n lt =
    let wide : n < 2 ^ 64 = omega arith in
    let digits = digits_decimal own n wide in
    rw (has_sign-digits (decimal n) digits, are_digits-from (decimal n) (decimal_nonempty n wide) digits, has_leading_zero-decimal n wide, digits_value-decimal own n wide) (fitting-below n lt)

-- a number that is read is written so
has_zero_first : (ds : List ℕ) → 0 < length ds → has_leading_zero ds ≡ false → get_or ds 0 0 ≡ 48 → length ds ≡ 1
has_zero_first [] some none zero_first = absurd (omega (arith, some))
has_zero_first (b ∷ []) some none zero_first = refl
has_zero_first (b ∷ c ∷ ds) some none zero_first = absurd (false≢true (sym none ∙ grind (arith, nat_tests)))

-- what the tests of a number say, where it is read
number_by : (ds : List ℕ) (n : ℕ) (sign others digits lead : Bool) → digits ≡ are_digits ds → lead ≡ has_leading_zero ds → (cond sign (cond others (Err Number) (Err Syntax)) (cond digits (cond lead (Err Number) (fitting (value_after 0 ds))) (Err Syntax))) ≡ Ok n → (n < 2 ^ 32) × (ds ≡ decimal n)
number_by ds n true true digits lead is_digits is_lead e = absurd cc
number_by ds n true false digits lead is_digits is_lead e = absurd cc
number_by ds n false others false lead is_digits is_lead e = absurd cc
number_by ds n false others true true is_digits is_lead e = absurd cc
number_by ds n false others true false is_digits is_lead e =
    let value = fitting-ok (value_after 0 ds) n e in
    let all = are_digits-some ds (sym is_digits) in
    let written = decimal-digits_value own ds all.1 all.0 (has_zero_first ds all.0 (sym is_lead)) (omega (arith, value.0)) in
    (omega (arith, value.0, value.1), sym written ∙ ap decimal value.1)

pub number_in-ok : (ds : List ℕ) (n : ℕ) → number_in ds ≡ Ok n → (n < 2 ^ 32) × (ds ≡ decimal n)
unfolding number_in
number_in-ok ds n e = number_by ds n (has_sign ds) (are_digits (drop 1 ds)) (are_digits ds) (has_leading_zero ds) refl refl e

-- a number as it is written is one
pub is_number-decimal : (n : ℕ) → n < 2 ^ 32 → is_number (decimal n) ≡ true
is_number-decimal n lt =
    let wide : n < 2 ^ 64 = omega arith in
    let digits = digits_decimal own n wide in
    rw (has_sign-digits (decimal n) digits) (are_digits-from (decimal n) (decimal_nonempty n wide) digits)

fitting-above : (n : ℕ) → 2 ^ 32 ≤ n → Err Number ≡ fitting n
fitting-above n le = grind (arith, nat_tests)

-- a number that is too large so far is too large
pub over : (digits : List ℕ) (number k : ℕ) → k < length digits → 2 ^ 32 ≤ number * 10 + (get_or digits k 0 - 48) → value_after number (drop k digits) ≡ value_after 0 digits → Err Number ≡ fitting (value_after 0 digits)
over digits number k lt large same =
    let next = 10 * number + (get_or digits k 0 - 48) in
    let more : value_after number (drop k digits) ≡ value_after next (drop (k + 1) digits) = at_drop_more (value_after number) digits k 0 lt in
    fitting-above (value_after 0 digits) (omega (arith, value_after-ge next (drop (k + 1) digits)))
