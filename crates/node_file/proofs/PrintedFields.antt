-- Numbers, keys and texts that are printed in a line, and what is read of them.
use Rattle.std.proofs.Common.{◌≡◌, ℕ, zero, suc, ◌^◌, ◌<◌, ◌≤◌, Bool, true, false, cond, leb, ltb, not, ◌&&◌, List, [], ◌∷◌, ◌++◌, length, get_or, Result, Ok, Err, refl, ap, ◌∙◌, arith, length-append}
use Rattle.std.specs.Prelude.{All, nat_le}
use Rattle.std.specs.Fmt.{decimal}
use Rattle.std.specs.List.{list_all}
use Rattle.std.proofs.lemmas.Bool.{false≢true, lt-ltb}
use Rattle.std.proofs.lemmas.Bool.Decides.{nat_tests}
use Rattle.std.proofs.lemmas.Fmt.{decimal_digit, decimal_nonempty, digits_decimal, digits_value-decimal, first_decimal}
use Rattle.std.proofs.lemmas.List.Folds.{list_all-append}
use Rattle.std.proofs.lemmas.List.Sums.{list_all-from_AllPass}
use Rattle.hex.specs.Hex.{encode_lower, is_hex_digit}
use Rattle.hex.proofs.HexLemmas.{decode_of-encode_lower, decode_of-ok, decode_sized-encode_lower}
use Rattle.byte_fields.specs.Steps.{◌>>=◌, IsByte}
use Rattle.byte_fields.proofs.FieldLaws.{bytes_are}
use Rattle.prin_text.specs.declared.limits.TheConstants.{MAX_TEXT}
use Rattle.prin_text.specs.Labels.{begins_with_letter, is_digit, is_label, is_label_byte, is_reserved}
use Rattle.prin_text.specs.Tokens.{is_blank}
use Rattle.prin_text.specs.Words.{are_digits, has_leading_zero, value_after}
use Rattle.prin_text.proofs.Decimals.{AreDigits, are_digits-from, has_leading_zero-decimal, own}
use Rattle.prin_text.specs.declared.lines.fault.FileCause.{FileCause}
use Rattle.prin_text.specs.declared.lines.fault.FileCause.TheVariants.{Words}
use Rattle.prin_text.specs.Fields.{bytes_of_digits, decoded, digits, key_of_digits, keyed, number_up_to, numbered, numbered_digits, one_number, one_word, two_words}
use Rattle.prin_text.specs.Lines.{is_plain, is_plain_byte, unblanked, word_off}
use Rattle.node_file.specs.Opening.{IsKey}
use Rattle.node_file.proofs.PrintedWords.{IsWord, plain_append, word_last, word_next}

-- ---- bytes of words

pub passes_too : (p q : ℕ → Bool) (l : List ℕ) → ((b : ℕ) → p b ≡ true → q b ≡ true) → list_all p l ≡ true → list_all q l ≡ true
passes_too p q [] each all = refl
passes_too p q (b ∷ l) each all = by (p b) refl all (λ rest. passes_too p q l each rest)
  where
    by : (t : Bool) → p b ≡ t → (t && list_all p l) ≡ true → (list_all p l ≡ true → list_all q l ≡ true) → (q b && list_all q l) ≡ true
    by true is rest later = rw (each b is) (later rest)
    by false is rest later = absurd (false≢true rest)

digit_inner : (b : ℕ) → is_digit b ≡ true → not (is_blank b) ≡ true
digit_inner b e = grind (arith, nat_tests, e)

digit_plain : (b : ℕ) → is_digit b ≡ true → is_plain_byte b ≡ true
digit_plain b e = grind (arith, nat_tests, e)

pub decimal_word : (n : ℕ) → n < 2 ^ 64 → IsWord (decimal n)
decimal_word n lt =
    let all : AreDigits (decimal n) = digits_decimal own n lt in
    record { some = decimal_nonempty n lt; inner = passes_too is_digit (λ b. not (is_blank b)) (decimal n) digit_inner all; plain = passes_too is_digit is_plain_byte (decimal n) digit_plain all }

label_inner : (b : ℕ) → is_label_byte b ≡ true → not (is_blank b) ≡ true
label_inner b e = grind (arith, nat_tests, e)

label_plain : (b : ℕ) → is_label_byte b ≡ true → is_plain_byte b ≡ true
label_plain b e = grind (arith, nat_tests, e)

third : (a b c d : Bool) → (a && b && c && d) ≡ true → (a ≡ true) × (c ≡ true)
third true true true d e = (refl, refl)
third true true false d e = absurd (false≢true e)
third true false c d e = absurd (false≢true e)
third false b c d e = absurd (false≢true e)

begins_some : (t : List ℕ) → begins_with_letter t ≡ true → 0 < length t
begins_some [] e = absurd (false≢true e)
begins_some (b ∷ t) e = omega arith

pub label_word : (t : List ℕ) → is_label t ≡ true → IsWord t
unfolding is_label
label_word t is =
    let parts = third (begins_with_letter t) (nat_le (length t) MAX_TEXT) (list_all is_label_byte t) (not (is_reserved t)) is in
    record { some = begins_some t parts.0; inner = passes_too is_label_byte (λ b. not (is_blank b)) t label_inner parts.1; plain = passes_too is_label_byte is_plain_byte t label_plain parts.1 }

hex_inner : (b : ℕ) → is_hex_digit b ≡ true → not (is_blank b) ≡ true
hex_inner b e = grind (arith, nat_tests, e)

hex_plain : (b : ℕ) → is_hex_digit b ≡ true → is_plain_byte b ≡ true
hex_plain b e = grind (arith, nat_tests, e)

pub hex_word : (xs : List ℕ) → All IsByte xs → 0 < length xs → IsWord (encode_lower xs)
hex_word xs bytes some =
    let ok = decode_of-ok (encode_lower xs) xs (decode_of-encode_lower xs (bytes_are xs bytes)) in
    let all : list_all is_hex_digit (encode_lower xs) ≡ true = list_all-from_AllPass is_hex_digit (encode_lower xs) ok.1 in
    record {
      some = omega (arith, some, ok.2);
      inner = passes_too is_hex_digit (λ b. not (is_blank b)) (encode_lower xs) hex_inner all;
      plain = passes_too is_hex_digit is_plain_byte (encode_lower xs) hex_plain all;
    }

pub word_append : (v w : List ℕ) → IsWord v → IsWord w → IsWord (v ++ w)
word_append v w first second = record {
  some = omega (arith, first.some, length-append v w);
  inner = all_append v first.inner;
  plain = plain_append v w first.plain second.plain;
}
  where
    all_append : (v : List ℕ) → list_all (λ b. not (is_blank b)) v ≡ true → list_all (λ b. not (is_blank b)) (v ++ w) ≡ true
    all_append v all = list_all-append (λ b. not (is_blank b)) v w ∙ (rw (all, second.inner) refl)

-- ---- fields

pub number_again : (most n : ℕ) → n ≤ most → n < 2 ^ 64 → number_up_to most (decimal n) ≡ Ok n
unfolding number_up_to
number_again most n le lt =
    let all : AreDigits (decimal n) = digits_decimal own n lt in
    let value : value_after 0 (decimal n) ≡ n = digits_value-decimal own n lt in
    let within : leb n most ≡ true = grind (arith, nat_tests, le) in
    rw (are_digits-from (decimal n) (decimal_nonempty n lt) all, has_leading_zero-decimal n lt, value, within) refl

key_again : (key : List ℕ) → IsKey key → key_of_digits (encode_lower key) ≡ Ok key
unfolding key_of_digits
key_again key is = ap decoded (decode_sized-encode_lower key 32 is.0 (bytes_are key is.1))

bytes_again : (bytes : List ℕ) → All IsByte bytes → bytes_of_digits (encode_lower bytes) ≡ Ok bytes
unfolding bytes_of_digits
bytes_again bytes all = ap decoded (decode_of-encode_lower bytes (bytes_are bytes all))

-- the one word behind the first
one_again : (text : List ℕ) → IsWord text → one_word (32 ∷ text) ≡ Ok text
unfolding one_word
one_again text is_text =
    let some : ltb 0 (length text) ≡ true = lt-ltb 0 (length text) is_text.some in
    ap (λ (a : List ℕ × List ℕ). cond (ltb 0 (length a.0) && ltb (length (unblanked a.1)) 1) (Ok a.0) (Err Words)) (word_last text is_text) ∙ (rw some refl)

pub one_number_again : (most n : ℕ) → n ≤ most → n < 2 ^ 64 → one_number most (32 ∷ decimal n) ≡ Ok n
unfolding one_number
one_number_again most n le lt = ap (λ r. r >>= λ w. number_up_to most w) (one_again (decimal n) (decimal_word n lt)) ∙ number_again most n le lt

pub digits_again : (bytes : List ℕ) → All IsByte bytes → 0 < length bytes → digits (32 ∷ encode_lower bytes) ≡ Ok bytes
unfolding digits
digits_again bytes all some =
    ap (λ r. r >>= λ w. bytes_of_digits w) (one_again (encode_lower bytes) (hex_word bytes all some)) ∙ bytes_again bytes all

-- a number and a text behind the first word
module _ (text : List ℕ) (n : ℕ) (is_text : IsWord text) (small : n ≤ 4294967295) where
  wide : n < 2 ^ 64
  wide = omega (arith, small)

  pub tail_plain : is_plain (decimal n ++ 32 ∷ text) ≡ true
  tail_plain = plain_append (decimal n) (32 ∷ text) (decimal_word n wide).plain is_text.plain

  two_again : two_words (32 ∷ (decimal n ++ 32 ∷ text)) ≡ Ok (decimal n, text)
  unfolding two_words
  two_again =
      let some : ltb 0 (length text) ≡ true = lt-ltb 0 (length text) is_text.some in
      let parted : (List ℕ × List ℕ) → (List ℕ × List ℕ) → Result (List ℕ × List ℕ) FileCause = λ a b. cond (ltb 0 (length b.0) && ltb (length (unblanked b.1)) 1) (Ok (a.0, b.0)) (Err Words) in
      ap (λ (a : List ℕ × List ℕ). parted a (word_off a.1)) (word_next (decimal n) text (decimal_word n wide)) ∙ ap (λ (b : List ℕ × List ℕ). parted (decimal n, 32 ∷ text) b) (word_last text is_text) ∙ (rw some refl)

  pub numbered_again : numbered (32 ∷ (decimal n ++ 32 ∷ text)) ≡ Ok (n, text)
  unfolding numbered
  numbered_again = rw (two_again, number_again 4294967295 n small wide) refl

some_key : (key : List ℕ) → IsKey key → 0 < length key
some_key key is = omega (arith, is.0)

pub key_word : (key : List ℕ) → IsKey key → IsWord (encode_lower key)
key_word key is = hex_word key is.1 (some_key key is)

pub keyed_again : (key : List ℕ) (n : ℕ) → IsKey key → n ≤ 4294967295 → keyed (32 ∷ (decimal n ++ 32 ∷ encode_lower key)) ≡ Ok (n, key)
unfolding keyed
keyed_again key n is small =
    rw (numbered_again (encode_lower key) n (key_word key is) small, key_again key is) refl

pub numbered_digits_again : (bytes : List ℕ) (n : ℕ) → All IsByte bytes → 0 < length bytes → n ≤ 4294967295 → numbered_digits (32 ∷ (decimal n ++ 32 ∷ encode_lower bytes)) ≡ Ok (n, bytes)
unfolding numbered_digits
numbered_digits_again bytes n all some small =
    rw (numbered_again (encode_lower bytes) n (hex_word bytes all some) small, bytes_again bytes all) refl
