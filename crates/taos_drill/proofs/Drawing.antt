-- What the generators give, word by word.
use Rattle.std.proofs.Common.{◌≡◌, ℕ, zero, suc, ◌+◌, ◌*◌, ◌%◌, ◌^◌, ◌<◌, List, [], ◌∷◌, ◌++◌, map, sym, ap, ◌∙◌, add-one, arith}
use Rattle.std.specs.Int.{w32, to_le_bytes}
use Rattle.std.specs.List.{flat_map, range_with_len}
use Rattle.std.proofs.lemmas.List.FromFn.{map-range_with_len_more}
use Rattle.rand_core.specs.Steps.{fill_via_u32, first_bytes, word_bytes}
use Rattle.rand_chacha.specs.ChaCha.{ChaCha, next_word}
use Rattle.taos_drill.specs.Words.{drawn, generator_at, key_at, word_of, words_of}
use Rattle.taos_drill.proofs.Ranges.{flat_more}

-- the word of a place, and the generator before the next one
pub draws : (seed last place : ℕ) → place + 1 < 2 ^ 68 → next_word 10 (generator_at seed last place) ≡ (drawn seed last place, generator_at seed last (place + 1))
unfolding drawn
draws seed last place small =
    let stays : (place + 1) % 2 ^ 68 ≡ place + 1 = omega arith in
    ap (λ n. (drawn seed last place, record (generator_at seed last place) { word_pos = n })) stays

-- a word was drawn
pub drew : (seed last place word : ℕ) (old new : ChaCha) → old ≡ generator_at seed last place → place + 1 < 2 ^ 68 → (word, new) ≡ next_word 10 old → (word ≡ drawn seed last place) × (new ≡ generator_at seed last (place + 1))
drew seed last place word old new is small step =
    let all = step ∙ ap (next_word 10) is ∙ draws seed last place small in
    (ap (λ (p : ℕ × ChaCha). p.0) all, ap (λ (p : ℕ × ChaCha). p.1) all)

-- the bytes of a word of the keys' generator
abbrev word_text : ℕ → ℕ → ℕ → List ℕ
word_text seed place k = to_le_bytes w32 (drawn seed 1 (place + k))

fills : (seed place k : ℕ) → place + k + 1 < 2 ^ 68
    → word_bytes (to_le_bytes w32) (next_word 10) k (generator_at seed 1 place) ≡ (flat_map (word_text seed place) (range_with_len 0 k), generator_at seed 1 (place + k))
unfolding word_bytes
fills seed place zero small = let e : place ≡ place + 0 = omega arith in ap (λ n. ([], generator_at seed 1 n)) e
fills seed place (suc k) small =
    let on : place + k + 1 ≡ place + suc k = omega arith in
    let near : place + k + 1 < 2 ^ 68 = omega (arith, small) in
    let before = fills seed place k near in
    let step = ap (λ (b : List ℕ × ChaCha). (b.0 ++ to_le_bytes w32 (next_word 10 b.1).0, (next_word 10 b.1).1)) before in
    let next = draws seed 1 (place + k) near in
    step ∙ ap (λ (n : ℕ × ChaCha). (flat_map (word_text seed place) (range_with_len 0 k) ++ to_le_bytes w32 n.0, n.1)) next
    ∙ ap (λ (t : List ℕ). (t, generator_at seed 1 (place + k + 1))) (sym (flat_more (word_text seed place) k))
    ∙ ap (λ n. (flat_map (word_text seed place) (range_with_len 0 n), generator_at seed 1 (place + k + 1))) (add-one k)
    ∙ ap (λ n. (flat_map (word_text seed place) (range_with_len 0 (suc k)), generator_at seed 1 n)) on

-- eight words are the bytes of a key
pub fills_key : (seed i : ℕ) → i < 2 ^ 32 → fill_via_u32 (next_word 10) 32 (generator_at seed 1 (8 * i)) ≡ (key_at seed i, generator_at seed 1 (8 * (i + 1)))
unfolding key_at
fills_key seed i small =
    let on : 8 * i + 8 ≡ 8 * (i + 1) = omega arith in
    ap (first_bytes 32) (fills seed (8 * i) 8 (omega (arith, small))) ∙ ap (λ n. (key_at seed i, generator_at seed 1 n)) on

-- a key was drawn
pub drew_key : (seed i : ℕ) (key : List ℕ) (old new : ChaCha) → old ≡ generator_at seed 1 (8 * i) → i < 2 ^ 32 → (key, new) ≡ fill_via_u32 (next_word 10) 32 old → (key ≡ key_at seed i) × (new ≡ generator_at seed 1 (8 * (i + 1)))
drew_key seed i key old new is small step =
    let all = step ∙ ap (fill_via_u32 (next_word 10) 32) is ∙ fills_key seed i small in
    (ap (λ (p : List ℕ × ChaCha). p.0) all, ap (λ (p : List ℕ × ChaCha). p.1) all)

-- one word and one key more
pub word_more : (seed n word : ℕ) (old new : List ℕ) → old ≡ words_of seed n → new ≡ old ++ word ∷ [] → word ≡ drawn seed 0 n → new ≡ words_of seed (n + 1)
word_more seed n word old new so_far pushed is =
    pushed ∙ ap (λ (l : List ℕ). l ++ word ∷ []) so_far ∙ ap (λ w. words_of seed n ++ w ∷ []) is
    ∙ sym (map-range_with_len_more (word_of seed) 0 n n (omega arith))

pub key_more : (seed n : ℕ) (key : List ℕ) (old new : List (List ℕ)) → old ≡ map (key_at seed) (range_with_len 0 n) → new ≡ old ++ key ∷ [] → key ≡ key_at seed n
    → new ≡ map (key_at seed) (range_with_len 0 (n + 1))
key_more seed n key old new so_far pushed is =
    pushed ∙ ap (λ (l : List (List ℕ)). l ++ key ∷ []) so_far ∙ ap (λ k. map (key_at seed) (range_with_len 0 n) ++ k ∷ []) is
    ∙ sym (map-range_with_len_more (key_at seed) 0 n n (omega arith))
