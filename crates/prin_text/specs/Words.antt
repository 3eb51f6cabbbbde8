-- What a word stands for: a number, an operand, a role or rights.
use Rattle.std.specs.Prelude.{ℕ, ◌+◌, ◌-◌, ◌*◌, ◌^◌, Bool, false, ◌&&◌, ◌||◌}
use Rattle.std.specs.Prelude.{nat_lt, ◌==◌, if◌then◌else◌, codes, bytes_eq}
use Rattle.std.specs.Prelude.{List, [], ◌∷◌, length, take, drop}
use Rattle.std.specs.Prelude.{Option, Some, None, Result, Ok, Err}
use Rattle.std.specs.List.{list_all}
use Rattle.prin_term.specs.Principal.{Principal, Key, Name}
use Rattle.byte_fields.specs.Steps.{◌>>=◌}
use Rattle.prin_text.specs.Labels.{Rows, is_digit, is_label, number_of}
use Rattle.prin_text.specs.declared.fault.TextCause.{TextCause}
use Rattle.prin_text.specs.declared.fault.TextCause.TheVariants.{Syntax, Number, UnknownName}

-- the word begins with these bytes
abbrev pub begins : List ℕ → List ℕ → Bool
begins front word = bytes_eq front (take (length front) word)

-- the number that digits write after those of another
abbrev pub value_after : ℕ → List ℕ → ℕ
value_after n [] = n
value_after n (d ∷ rest) = value_after (10 * n + (d - 48)) rest

-- one digit or more, and nothing else
abbrev pub are_digits : List ℕ → Bool
are_digits ds = nat_lt 0 (length ds) && list_all is_digit ds

-- a sign stands in front
abbrev pub has_sign : List ℕ → Bool
has_sign [] = false
has_sign (b ∷ rest) = b == 43 || b == 45

-- a zero stands in front of something
abbrev pub has_leading_zero : List ℕ → Bool
has_leading_zero [] = false
has_leading_zero (b ∷ rest) = b == 48 && nat_lt 0 (length rest)

-- the number, where 32 bits hold it
abbrev pub fitting : ℕ → Result ℕ TextCause
fitting n = if nat_lt n (2 ^ 32) then Ok n else Err Number

-- the number that is written without a sign and without leading zeros, in 32 bits; digits that
-- are written otherwise are the cause Number
unfoldable pub number_in : List ℕ → Result ℕ TextCause
number_in ds =
    if has_sign ds then (if are_digits (drop 1 ds) then Err Number else Err Syntax)
    else (if are_digits ds
    then (if has_leading_zero ds then Err Number else fitting (value_after 0 ds))
    else Err Syntax)

-- the number that was found
abbrev pub some_or_unknown : Option ℕ → Result ℕ TextCause
some_or_unknown None = Err UnknownName
some_or_unknown (Some n) = Ok n

-- the number that a table has for the word, where the word may be a text
abbrev pub known_as : Rows → List ℕ → Result ℕ TextCause
known_as rows word =
    if is_label word
    then some_or_unknown (number_of rows word)
    else Err Syntax

-- the key or the name that the word stands for
unfoldable pub operand_of : Rows → List ℕ → Result Principal TextCause
operand_of names word =
    if begins (codes "key:") word then (number_in (drop 4 word) >>= λ n. Ok (Key n))
    else (if begins (codes "name:") word then (number_in (drop 5 word) >>= λ n. Ok (Name n))
    else (known_as names word >>= λ n. Ok (Name n)))

-- the role that the word stands for
unfoldable pub role_of : Rows → List ℕ → Result ℕ TextCause
role_of roles word =
    if begins (codes "role:") word then number_in (drop 5 word) else known_as roles word

-- 1 and what follows the letter, or 0 and the whole where another stands in front
abbrev pub letter_off : ℕ → List ℕ → ℕ × List ℕ
letter_off letter [] = (0, [])
letter_off letter (b ∷ rest) = if b == letter then (1, rest) else (0, b ∷ rest)

-- the rights that are left to read, with those that were read
abbrev pub all_rights : ℕ → List ℕ → Option ℕ
all_rights n [] = if nat_lt 0 n then Some n else None
all_rights n (b ∷ rest) = None

-- the rights whose letters the word is: one or more, each at most once, in the order `rwcm`
unfoldable pub rights_of : List ℕ → Option ℕ
rights_of word =
    let r = letter_off 114 word in
    let w = letter_off 119 r.1 in
    let c = letter_off 99 w.1 in
    let m = letter_off 109 c.1 in
    all_rights (r.0 + 2 * w.0 + 4 * c.0 + 8 * m.0) m.1
