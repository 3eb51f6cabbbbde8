-- The lines of a file, cut at line feeds, and the words of a line, parted by blanks.
use Rattle.std.specs.Prelude.{ℕ, Bool, ◌&&◌, ◌||◌, ◌==◌, nat_le, nat_lt, if◌then◌else◌}
use Rattle.std.specs.Prelude.{List, [], ◌∷◌, ◌++◌, length, drop}
use Rattle.std.specs.List.{list_all}
use Rattle.prin_text.specs.Tokens.{is_blank}

-- the line without a carriage return at its end
abbrev pub unreturned : List ℕ → List ℕ
unreturned [] = []
unreturned (b ∷ rest) =
    if b == 13 && nat_lt (length rest) 1 then [] else b ∷ unreturned rest

-- the lines of bytes, the first of which goes on with them; a last line of no bytes is none
abbrev pub lines_after : List ℕ → List ℕ → List (List ℕ)
lines_after line [] = if nat_lt 0 (length line) then line ∷ [] else []
lines_after line (b ∷ rest) =
    if b == 10 then unreturned line ∷ lines_after [] rest
    else lines_after (line ++ b ∷ []) rest

-- the lines from an offset on, where one begins
unfoldable pub lines_from : List ℕ → ℕ → List (List ℕ)
lines_from bytes at = lines_after [] (drop at bytes)

-- ---- the words of a line

-- the bytes from the first on that is no blank
abbrev pub unblanked : List ℕ → List ℕ
unblanked [] = []
unblanked (b ∷ rest) = if is_blank b then unblanked rest else b ∷ rest

-- the bytes before the first blank
abbrev pub front_word : List ℕ → List ℕ
front_word [] = []
front_word (b ∷ rest) = if is_blank b then [] else b ∷ front_word rest

-- the bytes from the first blank on
abbrev pub behind_word : List ℕ → List ℕ
behind_word [] = []
behind_word (b ∷ rest) = if is_blank b then b ∷ rest else behind_word rest

-- the first word, and what stands behind it; where there is none it has no bytes
abbrev pub word_off : List ℕ → List ℕ × List ℕ
word_off line = (front_word (unblanked line), behind_word (unblanked line))

-- a blank, or a printable byte
abbrev pub is_plain_byte : ℕ → Bool
is_plain_byte b = b == 9 || (nat_le 32 b && nat_le b 126)

-- a line without words, or whose first word begins with `#`
abbrev pub is_remark : List ℕ → Bool
is_remark [] = nat_lt 0 1
is_remark (b ∷ rest) = b == 35

-- the line is not read
abbrev pub is_skipped : List ℕ → Bool
is_skipped line = is_remark (unblanked line)

-- all bytes of the line can stand in one
abbrev pub is_plain : List ℕ → Bool
is_plain line = list_all is_plain_byte line
