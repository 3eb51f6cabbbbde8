-- What a line that is taken says is within the limits.
use Rattle.std.proofs.Common.{◌≡◌, ◌⊎◌, ℕ, ◌<◌, ◌≤◌, Bool, true, false, cond, leb, not, ◌&&◌, List, [], ◌∷◌, ◌++◌, length, Option, None, Some, Result, Ok, Err, refl, sym, ap, subst, arith, inl, inr, length-append}
use Rattle.std.specs.Prelude.{All, find}
use Rattle.std.proofs.lemmas.Bool.{false≢true}
use Rattle.std.proofs.lemmas.Bool.Decides.{nat_tests}
use Rattle.std.proofs.lemmas.List.Elements.{All-from_get_or}
use Rattle.std.proofs.lemmas.Option.{none-some, same_Some}
use Rattle.hex.proofs.HexLemmas.{decode_of-ok}
use Rattle.hex.specs.Hex.{decode_of}
use Rattle.byte_fields.specs.Formats.{is_within}
use Rattle.byte_fields.proofs.FormatFields.{within_is}
use Rattle.byte_fields.proofs.Results.{bind_ok, chosen_ok, ok_is}
use Rattle.byte_fields.specs.Steps.{◌>>=◌, IsByte, with_value}
use Rattle.prin_text.specs.declared.lines.fault.FileCause.{FileCause}
use Rattle.prin_text.specs.declared.lines.fault.FileCause.TheVariants.{Twice, Limit, Number}
use Rattle.prin_text.specs.Fields.{bytes_of_digits, decoded, number_up_to, numbered, one_number, one_word, two_words}
use Rattle.prin_text.specs.FileLines.{first_of, unless}
use Rattle.node_file.specs.NodeLines.{new_within}
use Rattle.prin_text.specs.Words.{are_digits, has_leading_zero, value_after}

pub unless_ok : {A : Type 0} (o : Option FileCause) (x y : A) → unless o x ≡ Ok y → (o ≡ None) × (x ≡ y)
unless_ok None x y e = (refl, ok_is FileCause x y e)
unless_ok (Some c) x y e = absurd cc

pub two_pass : (a b : Bool) (c d : FileCause) → first_of ((a, c) ∷ (b, d) ∷ []) ≡ None → (a ≡ false) × (b ≡ false)
two_pass true b c d e = absurd (none-some c (sym e))
two_pass false true c d e = absurd (none-some d (sym e))
two_pass false false c d e = (refl, refl)

pub one_passes : (a : Bool) (c : FileCause) → first_of ((a, c) ∷ []) ≡ None → a ≡ false
one_passes true c e = absurd (none-some c (sym e))
one_passes false c e = refl

pub with_value_ok : {A B E : Type 0} (f : A → B) (r : Result A E) (y : B) → with_value f r ≡ Ok y → (x : A) × (r ≡ Ok x) × (f x ≡ y)
with_value_ok {E} f (Ok x) y e = (x, refl, ok_is E (f x) y e)
with_value_ok f (Err d) y e = absurd cc

-- one more, where there was room
pub room_for : {A : Type 0} (most : ℕ) (a : Bool) (c : FileCause) (xs ys : List A) (x : A) → unless (first_of ((a, c) ∷ (leb most (length xs), Limit) ∷ [])) (xs ++ x ∷ []) ≡ Ok ys → length ys ≤ most
room_for most a c xs ys x e =
    let u = unless_ok (first_of ((a, c) ∷ (leb most (length xs), Limit) ∷ [])) (xs ++ x ∷ []) ys e in
    let room = (two_pass a (leb most (length xs)) c Limit u.0).1 in
    let few : length xs < most = grind (arith, nat_tests, room) in
    subst (λ (l : List _). length l ≤ most) u.1 (omega (arith, few, length-append xs (x ∷ [])))

-- ---- numbers and bytes

pub number_small : (most n : ℕ) (word : List ℕ) → number_up_to most word ≡ Ok n → n ≤ most
unfolding number_up_to
number_small most n word e =
    let ok = chosen_ok (are_digits word && not (has_leading_zero word) && leb (value_after 0 word) most) Number (value_after 0 word) n e in
    small (are_digits word) (not (has_leading_zero word)) ok.0 ok.1
  where
    small : (a b : Bool) → (a && b && leb (value_after 0 word) most) ≡ true → value_after 0 word ≡ n → n ≤ most
    small true true e same = subst (λ k. k ≤ most) same (grind (arith, nat_tests, e))
    small true false e same = absurd (false≢true e)
    small false b e same = absurd (false≢true e)

pub one_small : (most n : ℕ) (rest : List ℕ) → one_number most rest ≡ Ok n → n ≤ most
unfolding one_number
one_small most n rest e =
    let w = bind_ok (one_word rest) (λ word. number_up_to most word) n e in
    number_small most n w.0 w.2

pub numbered_small : (rest : List ℕ) (x : ℕ × List ℕ) → numbered rest ≡ Ok x → x.0 ≤ 4294967295
unfolding numbered
numbered_small rest x e =
    let w = bind_ok (two_words rest) (λ w. number_up_to 4294967295 w.0 >>= λ n. Ok (n, w.1)) x e in
    let n = bind_ok (number_up_to 4294967295 w.0.0) (λ n. Ok (n, w.0.1)) x w.2 in
    subst (λ (y : ℕ × List ℕ). y.0 ≤ 4294967295) (ok_is FileCause (n.0, w.0.1) x n.2) (number_small 4294967295 n.0 w.0.0 n.1)

pub decoded_ok : (r : Result (List ℕ) _) (bytes : List ℕ) → decoded r ≡ Ok bytes → r ≡ Ok bytes
decoded_ok (Ok b) bytes e = ap (λ (l : List ℕ). Ok l) (ok_is FileCause b bytes e)
decoded_ok (Err d) bytes e = absurd cc

pub digits_are_bytes : (word bytes : List ℕ) → bytes_of_digits word ≡ Ok bytes → All IsByte bytes
unfolding bytes_of_digits
digits_are_bytes word bytes e = All-from_get_or IsByte bytes 0 (λ i lt. (decode_of-ok word bytes (decoded_ok (decode_of word) bytes e)).3 i)

-- ---- a setting

pub new_bounds : (most n m : ℕ) (said : Bool) → new_within most said n ≡ Ok m → (1 ≤ m) × (m ≤ most)
unfolding new_within
new_bounds most n m said e =
    let u = unless_ok (first_of ((said, Twice) ∷ (not (is_within 1 most n), Limit) ∷ [])) n m e in
    subst (λ k. (1 ≤ k) × (k ≤ most)) u.1 (within_is 1 most n (turned (is_within 1 most n) (two_pass said (not (is_within 1 most n)) Twice Limit u.0).1))
  where
    turned : (b : Bool) → not b ≡ false → b ≡ true
    turned true e = refl
    turned false e = absurd (false≢true (sym e))

-- ---- look-ups after one more

pub find_push : {A : Type 0} (test : A → Bool) (xs : List A) (x y : A) → find test (xs ++ x ∷ []) ≡ Some y → (find test xs ≡ Some y) ⊎ (x ≡ y)
find_push test [] x y e = by (test x) e
  where
    by : (b : Bool) → cond b (Some x) None ≡ Some y → (None ≡ Some y) ⊎ (x ≡ y)
    by true e = inr (same_Some x y e)
    by false e = absurd (none-some y e)
find_push test (z ∷ xs) x y e = by (test z) e (λ later. find_push test xs x y later)
  where
    by : (b : Bool) → cond b (Some z) (find test (xs ++ x ∷ [])) ≡ Some y → (find test (xs ++ x ∷ []) ≡ Some y → (find test xs ≡ Some y) ⊎ (x ≡ y)) → (cond b (Some z) (find test xs) ≡ Some y) ⊎ (x ≡ y)
    by true e rest = inl e
    by false e rest = rest e
