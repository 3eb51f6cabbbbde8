-- The fields of a line behind its first word: so many words, numbers and keys.
use Rattle.std.specs.Prelude.{ℕ, ◌&&◌, not, nat_le, nat_lt, if◌then◌else◌}
use Rattle.std.specs.Prelude.{List, length, Option, Some, None, Result, Ok, Err}
use Rattle.hex.specs.Hex.{decode_of, decode_sized}
use Rattle.hex.specs.declared.error.FromHexError.{FromHexError}
use Rattle.byte_fields.specs.Steps.{◌>>=◌}
use Rattle.prin_text.specs.Words.{are_digits, has_leading_zero, rights_of, value_after}
use Rattle.prin_text.specs.declared.lines.fault.FileCause.{FileCause}
use Rattle.prin_text.specs.declared.lines.fault.FileCause.TheVariants.{Words, Number, Hex, Rights}
use Rattle.prin_text.specs.Lines.{is_plain, unblanked, word_off}

-- what a line says, where all its bytes can stand in one
abbrev pub if_plain : {A : Type 0} → List ℕ → Result A FileCause → Result A FileCause
if_plain line says = if is_plain line then says else Err Words

-- two words, and no more
unfoldable pub two_words : List ℕ → Result (List ℕ × List ℕ) FileCause
two_words rest =
    let a = word_off rest in
    let b = word_off a.1 in
    if nat_lt 0 (length b.0) && nat_lt (length (unblanked b.1)) 1
    then Ok (a.0, b.0) else Err Words

-- three words, and no more
unfoldable pub three_words : List ℕ → Result (List ℕ × List ℕ × List ℕ) FileCause
three_words rest =
    let a = word_off rest in
    let b = word_off a.1 in
    let c = word_off b.1 in
    if nat_lt 0 (length c.0) && nat_lt (length (unblanked c.1)) 1
    then Ok (a.0, b.0, c.0) else Err Words

-- one word, and no more
unfoldable pub one_word : List ℕ → Result (List ℕ) FileCause
one_word rest =
    let a = word_off rest in
    if nat_lt 0 (length a.0) && nat_lt (length (unblanked a.1)) 1 then Ok a.0 else Err Words

-- two words, and what stands behind them, which is more than blanks
unfoldable pub two_and_rest : List ℕ → Result (List ℕ × List ℕ × List ℕ) FileCause
two_and_rest rest =
    let a = word_off rest in
    let b = word_off a.1 in
    if nat_lt 0 (length (unblanked b.1)) then Ok (a.0, b.0, b.1) else Err Words

-- the number that is written in digits, without a sign and without leading zeros, up to the most
unfoldable pub number_up_to : ℕ → List ℕ → Result ℕ FileCause
number_up_to most word =
    if are_digits word && not (has_leading_zero word) && nat_le (value_after 0 word) most
    then Ok (value_after 0 word) else Err Number

-- the value, or the cause
abbrev pub some_or : {A : Type 0} → FileCause → Option A → Result A FileCause
some_or cause None = Err cause
some_or cause (Some x) = Ok x

-- what was decoded, where it was
abbrev pub decoded : Result (List ℕ) FromHexError → Result (List ℕ) FileCause
decoded (Ok bytes) = Ok bytes
decoded (Err e) = Err Hex

-- the key of 64 hex digits, of either case
unfoldable pub key_of_digits : List ℕ → Result (List ℕ) FileCause
key_of_digits word = decoded (decode_sized word 32)

-- a number of 32 bits and a text
unfoldable pub numbered : List ℕ → Result (ℕ × List ℕ) FileCause
numbered rest =
    two_words rest >>= λ w. number_up_to 4294967295 w.0 >>= λ n. Ok (n, w.1)

-- a number of 32 bits and a key
unfoldable pub keyed : List ℕ → Result (ℕ × List ℕ) FileCause
keyed rest = numbered rest >>= λ x. key_of_digits x.1 >>= λ key. Ok (x.0, key)

-- two numbers of 32 bits and a key
unfoldable pub two_numbers_and_key : List ℕ → Result (ℕ × ℕ × List ℕ) FileCause
two_numbers_and_key rest =
    three_words rest >>= λ w. number_up_to 4294967295 w.0 >>= λ m.
    number_up_to 4294967295 w.1 >>= λ n. key_of_digits w.2 >>= λ key. Ok (m, n, key)

-- the bytes of hex digits, of either case
unfoldable pub bytes_of_digits : List ℕ → Result (List ℕ) FileCause
bytes_of_digits word = decoded (decode_of word)

-- a number up to the most, and nothing else
unfoldable pub one_number : ℕ → List ℕ → Result ℕ FileCause
one_number most rest = one_word rest >>= λ word. number_up_to most word

-- bytes, and nothing else
unfoldable pub digits : List ℕ → Result (List ℕ) FileCause
digits rest = one_word rest >>= λ word. bytes_of_digits word

-- the number with the bytes of the digits
abbrev pub digits_of : ℕ → List ℕ → Result (ℕ × List ℕ) FileCause
digits_of number word = bytes_of_digits word >>= λ bytes. Ok (number, bytes)

-- a number of 32 bits and bytes
unfoldable pub numbered_digits : List ℕ → Result (ℕ × List ℕ) FileCause
numbered_digits rest = numbered rest >>= λ x. digits_of x.0 x.1

-- a number of 32 bits, rights, and the text of a principal
unfoldable pub granted : List ℕ → Result (ℕ × ℕ × List ℕ) FileCause
granted rest =
    two_and_rest rest >>= λ w. number_up_to 4294967295 w.0 >>= λ n.
    some_or Rights (rights_of w.1) >>= λ rights. Ok (n, rights, w.2)
