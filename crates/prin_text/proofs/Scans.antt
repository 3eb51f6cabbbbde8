-- What a scan over bytes has passed of their tokens.
use Rattle.std.proofs.Common.{◌≡◌, ℕ, ◌+◌, ◌-◌, ◌<◌, ◌≤◌, true, false, List, [], ◌∷◌, ◌++◌, length, get_or, take, drop, refl, sym, ◌∙◌, ap, subst, inl, inr, ◌≢◌, arith, length-append, get_or-take, get_or-drop}
use Rattle.std.specs.Prelude.{slice_index, slice_range, bytes_eq, codes}
use Rattle.std.proofs.lemmas.List.{at_drop_more, at_drop_all}
use Rattle.std.proofs.lemmas.List.Edits.{between_more, length-between}
use Rattle.std.proofs.lemmas.Bool.{cases_lt}
use Rattle.prin_text.specs.Meaning.{BeginsNoWord}
use Rattle.prin_text.proofs.Texts.{texts_tell}
use Rattle.prin_text.specs.Tokens.{first_place, is_blank, is_mark, is_word_byte, lexed, tokens_from}
use Rattle.prin_text.proofs.Spacing.{either, is_mark-from, lexed-blank, lexed-byte, lexed-closed, lexed-mark, word_ends}

-- a blank has no token
pub skip_one : (bytes : List ℕ) (at : ℕ) → at < length bytes → is_blank (get_or bytes at 0) ≡ true → tokens_from bytes (at + 1) ≡ tokens_from bytes at
unfolding tokens_from
skip_one bytes at lt blank = sym (at_drop_more (λ l. lexed [] at l) bytes at 0 lt ∙ lexed-blank (get_or bytes at 0) at (drop (at + 1) bytes) blank)

-- the first token of a word that has begun begins there
first-begun : (b : ℕ) (w rest : List ℕ) (at end : ℕ) → first_place (lexed (b ∷ w) at rest) end ≡ at - length (b ∷ w)
first-begun b w [] at end = refl
first-begun b w (c ∷ rest) at end = elim (either (is_word_byte c)) [
  | inl word ↦ ap (λ ts. first_place ts end) (lexed-byte (b ∷ w) c at rest word) ∙ first-begun b (w ++ c ∷ []) rest (at + 1) end ∙ omega (arith, length-append w (c ∷ []))
  | inr other ↦ ap (λ ts. first_place ts end) (lexed-closed (b ∷ w) c at rest other)
]

first-here : (b : ℕ) (rest : List ℕ) (at end : ℕ) → is_blank b ≡ false → first_place (lexed [] at (b ∷ rest)) end ≡ at
first-here b rest at end nope = elim (either (is_word_byte b)) [
  | inl word ↦ ap (λ ts. first_place ts end) (lexed-byte [] b at rest word) ∙ first-begun b [] rest (at + 1) end ∙ omega arith
  | inr other ↦ ap (λ ts. first_place ts end) (lexed-mark b at rest (is_mark-from b other nope))
]

-- where no blank stands, the first token does, or the end
pub first_is : (bytes : List ℕ) (at : ℕ) → at ≤ length bytes → (at < length bytes → is_blank (slice_index bytes at) ≡ false) → at ≡ first_place (tokens_from bytes at) (length bytes)
unfolding tokens_from
first_is bytes at within nope = elim (cases_lt at (length bytes)) [
  | inl lt ↦ sym (at_drop_more (λ l. first_place (lexed [] at l) (length bytes)) bytes at 0 lt ∙ first-here (get_or bytes at 0) (drop (at + 1) bytes) at (length bytes) (nope lt))
  | inr le ↦ (let e : at ≡ length bytes = omega arith in e) ∙ sym (at_drop_all (λ l. first_place (lexed [] at l) (length bytes)) bytes at le)
]

-- a mark is a token
pub mark_token : (bytes : List ℕ) (at : ℕ) → at < length bytes → is_mark (slice_index bytes at) ≡ true → tokens_from bytes at ≡ (at, slice_index bytes at ∷ []) ∷ tokens_from bytes (at + 1)
unfolding tokens_from
mark_token bytes at lt mark = at_drop_more (λ l. lexed [] at l) bytes at 0 lt ∙ lexed-mark (get_or bytes at 0) at (drop (at + 1) bytes) mark

-- bytes from `start` to `end` are a part of a word
pub record IsInWord (bytes : List ℕ) (start end : ℕ) : Type 0 where
  pub begun : start < end
  pub within : end ≤ length bytes
  pub same : lexed [] start (drop start bytes) ≡ lexed (slice_range bytes start end) end (drop end bytes)

-- one more byte
pub more_in_word : (bytes : List ℕ) (start end : ℕ) → IsInWord bytes start end → end < length bytes → is_word_byte (get_or bytes end 0) ≡ true → IsInWord bytes start (end + 1)
more_in_word bytes start end is lt word = record {
  begun = omega (arith, is.begun);
  within = omega arith;
  same = is.same ∙ at_drop_more (λ l. lexed (slice_range bytes start end) end l) bytes end 0 lt
      ∙ lexed-byte (slice_range bytes start end) (get_or bytes end 0) end (drop (end + 1) bytes) word
      ∙ ap (λ w. lexed w (end + 1) (drop (end + 1) bytes)) (sym (between_more bytes start end 0 (omega (arith, is.begun)) lt));
}

-- the first byte
pub first_in_word : (bytes : List ℕ) (start : ℕ) → start < length bytes → is_blank (slice_index bytes start) ≡ false → is_mark (slice_index bytes start) ≡ false → IsInWord bytes start (start + 1)
first_in_word bytes start lt no_blank no_mark =
    let b = get_or bytes start 0 in
    let word : is_word_byte b ≡ true = rw (no_blank, no_mark) refl in
    let none : start - start ≡ 0 = omega arith in
    let one : slice_range bytes start (start + 1) ≡ b ∷ [] = between_more bytes start start 0 (omega arith) lt ∙ ap (λ n. take n (drop start bytes) ++ b ∷ []) none in
    record {
      begun = omega arith;
      within = omega arith;
      same = at_drop_more (λ l. lexed [] start l) bytes start 0 lt ∙ lexed-byte [] b start (drop (start + 1) bytes) word ∙ ap (λ w. lexed w (start + 1) (drop (start + 1) bytes)) (sym one);
    }

-- a word that ends is a token
ends_any : (w rest : List ℕ) (at : ℕ) → 0 < length w → BeginsNoWord rest → lexed w at rest ≡ (at - length w, w) ∷ lexed [] at rest
ends_any [] rest at some nope = absurd (omega (arith, some))
ends_any (b ∷ w) rest at some nope = word_ends b w rest at nope

stops_here : (bytes : List ℕ) (end : ℕ) → (end < length bytes → is_word_byte (get_or bytes end 0) ≡ false) → BeginsNoWord (drop end bytes)
stops_here bytes end nope = elim (cases_lt end (length bytes)) [
  | inl lt ↦ subst BeginsNoWord (sym (at_drop_more (λ l. l) bytes end 0 lt)) (nope lt)
  | inr le ↦ subst BeginsNoWord (sym (at_drop_all (λ l. l) bytes end le)) tt
]

pub word_token : (bytes : List ℕ) (start end : ℕ) → IsInWord bytes start end → (end < length bytes → is_word_byte (get_or bytes end 0) ≡ false) → tokens_from bytes start ≡ (start, slice_range bytes start end) ∷ tokens_from bytes end
unfolding tokens_from
word_token bytes start end is nope =
    let w = slice_range bytes start end in
    let size : length w ≡ end - start = length-between bytes start end is.within in
    let begun = is.begun in
    let place : end - length w ≡ start = omega arith in
    is.same ∙ ends_any w (drop end bytes) end (omega arith) (stops_here bytes end nope) ∙ ap (λ n. (n, w) ∷ lexed [] end (drop end bytes)) place

-- the one byte of a mark
pub mark_range : (bytes : List ℕ) (start : ℕ) → start < length bytes → slice_range bytes start (start + 1) ≡ get_or bytes start 0 ∷ []
mark_range bytes start lt =
    let none : start - start ≡ 0 = omega arith in
    between_more bytes start start 0 (omega arith) lt ∙ ap (λ n. take n (drop start bytes) ++ get_or bytes start 0 ∷ []) none

pub mark_token_range : (bytes : List ℕ) (start : ℕ) → start < length bytes → is_mark (slice_index bytes start) ≡ true → tokens_from bytes start ≡ (start, slice_range bytes start (start + 1)) ∷ tokens_from bytes (start + 1)
mark_token_range bytes start lt mark = mark_token bytes start lt mark ∙ ap (λ t. (start, t) ∷ tokens_from bytes (start + 1)) (sym (mark_range bytes start lt))

-- no token at the end
pub no_tokens : (bytes : List ℕ) (at : ℕ) → length bytes ≤ at → tokens_from bytes at ≡ []
unfolding tokens_from
no_tokens bytes at le = at_drop_all (λ l. lexed [] at l) bytes at le

first_of_range : (bytes : List ℕ) (start end : ℕ) → start < end → end ≤ length bytes → get_or (slice_range bytes start end) 0 0 ≡ get_or bytes start 0
first_of_range bytes start end lt within = get_or-take (end - start) (drop start bytes) 0 0 (omega arith) ∙ get_or-drop start bytes 0 0 ∙ ap (λ i. get_or bytes i 0) (omega arith)

-- a token that begins with another byte is no `;`
pub other_token : (bytes : List ℕ) (start end : ℕ) → start < end → end ≤ length bytes → get_or bytes start 0 ≢ 59 → bytes_eq (slice_range bytes start end) (codes ";") ≡ false
other_token bytes start end lt within other = elim (texts_tell (slice_range bytes start end) (codes ";")) [
  | inl same ↦
      let first : get_or (slice_range bytes start end) 0 0 ≡ get_or bytes start 0 = first_of_range bytes start end lt within in
      absurd (other (sym first ∙ ap (λ l. get_or l 0 0) same.1))
  | inr differs ↦ differs.0
]
