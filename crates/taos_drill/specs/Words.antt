-- The words that a drill draws: those of its requests and those of its keys, from two generators.
use Rattle.std.specs.Prelude.{ℕ, ◌+◌, ◌*◌, ◌%◌, ◌==◌, Bool, List, [], ◌∷◌, ◌++◌, map, replicate}
use Rattle.std.specs.Int.{w32, w64, to_be_bytes, to_le_bytes}
use Rattle.std.specs.List.{flat_map, range_with_len}
use Rattle.rand_chacha.specs.ChaCha.{ChaCha, key_of, word_at}

-- the seed of a generator: the drill's own, zeros, and a last byte that tells the two generators apart
abbrev pub seed_of : ℕ → ℕ → List ℕ
seed_of seed last = to_be_bytes w64 seed ++ replicate 23 0 ++ last ∷ []

-- the generator of that seed before its word at this place
abbrev pub generator_at : ℕ → ℕ → ℕ → ChaCha
generator_at seed last place =
    record { key = key_of (seed_of seed last); stream = 0; word_pos = place }

-- the word at that place: the generators are ChaCha with 20 rounds, two at a time
unfoldable pub drawn : ℕ → ℕ → ℕ → ℕ
drawn seed last place = word_at 10 (key_of (seed_of seed last)) 0 place

-- the word of request i
abbrev pub word_of : ℕ → ℕ → ℕ
word_of seed i = drawn seed 0 i

-- the words of so many requests
abbrev pub words_of : ℕ → ℕ → List ℕ
words_of seed requests = map (word_of seed) (range_with_len 0 requests)

-- the word is even, so that its request will be granted
abbrev pub is_even : ℕ → Bool
is_even word = word % 2 == 0

-- key i: eight words in a row, of each the lowest byte first. Key 0 is the relay's, and each other
-- one that of the channel of its number
unfoldable pub key_at : ℕ → ℕ → List ℕ
key_at seed i =
    flat_map (λ k. to_le_bytes w32 (drawn seed 1 (8 * i + k))) (range_with_len 0 8)

-- the relay's key and those of so many channels
abbrev pub keys_of : ℕ → ℕ → List (List ℕ)
keys_of seed lanes = map (key_at seed) (range_with_len 0 (lanes + 1))
