-- The tokens of a text, each with the offset of its first byte.
use Rattle.std.specs.Prelude.{◌≡◌, ◌⊎◌, ◌<◌, ℕ, ◌+◌, ◌-◌, Bool, not, ◌||◌, ◌==◌, if◌then◌else◌}
use Rattle.std.specs.Prelude.{List, [], ◌∷◌, ◌++◌, length, drop, slice_index}

-- a space or a tab
abbrev pub is_blank : ℕ → Bool
is_blank b = b == 32 || b == 9

-- `(`, `)`, `|` or `;`, each a token by itself
abbrev pub is_mark : ℕ → Bool
is_mark b = b == 40 || b == 41 || b == 124 || b == 59

-- a byte of a word
abbrev pub is_word_byte : ℕ → Bool
is_word_byte b = not (is_blank b || is_mark b)

-- a token: its offset and its bytes
abbrev pub Placed : Type 0
Placed = ℕ × List ℕ

-- the tokens that follow, after the word that ends at the offset, where it is one
abbrev pub closed : List ℕ → ℕ → List Placed → List Placed
closed [] at later = later
closed (b ∷ word) at later = (at - length (b ∷ word), b ∷ word) ∷ later

-- the tokens of bytes from an offset on, where the bytes before it end with a part of a word
abbrev pub lexed : List ℕ → ℕ → List ℕ → List Placed
lexed word at [] = closed word at []
lexed word at (b ∷ rest) =
    if is_word_byte b then lexed (word ++ b ∷ []) (at + 1) rest
    else closed word at (if is_blank b then lexed [] (at + 1) rest
    else (at, b ∷ []) ∷ lexed [] (at + 1) rest)

-- the tokens of a text from an offset on, where no word goes on
unfoldable pub tokens_from : List ℕ → ℕ → List Placed
tokens_from bytes at = lexed [] at (drop at bytes)

-- the offset of the first token, or that of the end
abbrev pub first_place : List Placed → ℕ → ℕ
first_place [] end = end
first_place ((at, token) ∷ rest) end = at

-- the offset is that of a `;`, or of the end
abbrev pub StopsAt : List ℕ → ℕ → Type 0
StopsAt bytes at = (at ≡ length bytes) ⊎ ((at < length bytes) × (slice_index bytes at ≡ 59))
