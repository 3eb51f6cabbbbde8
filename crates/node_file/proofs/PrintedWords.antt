-- Lines that are printed, and their words as they are read.
use Rattle.std.proofs.Common.{◌≡◌, ℕ, ◌<◌, Bool, true, false, eqb, not, ◌&&◌, List, [], ◌∷◌, ◌++◌, length, refl, sym, ap, ◌∙◌, append_assoc, append-nil, arith}
use Rattle.std.specs.List.{list_all}
use Rattle.std.proofs.lemmas.Bool.{false≢true}
use Rattle.std.proofs.lemmas.Bool.Decides.{nat_tests}
use Rattle.prin_text.specs.Tokens.{is_blank}
use Rattle.node_file.specs.FilePrinting.{text_of_lines}
use Rattle.prin_text.specs.Lines.{behind_word, front_word, is_plain, is_plain_byte, lines_after, lines_from, unblanked, unreturned, word_off}
use Rattle.prin_text.proofs.LineLaws.{line-byte}

both : (a b : Bool) → (a && b) ≡ true → (a ≡ true) × (b ≡ true)
both true b e = (refl, e)
both false b e = absurd (false≢true e)

pub plain_append : (l m : List ℕ) → is_plain l ≡ true → is_plain m ≡ true → is_plain (l ++ m) ≡ true
plain_append [] m first second = second
plain_append (b ∷ l) m first second =
    let p = both (is_plain_byte b) (is_plain l) first in
    rw p.0 (plain_append l m p.1 second)

-- ---- lines

no_feed : (b : ℕ) → is_plain_byte b ≡ true → not (eqb b 10) ≡ true
no_feed b e = grind (arith, nat_tests, e)

no_return : (b : ℕ) → is_plain_byte b ≡ true → eqb b 13 ≡ false
no_return b e = grind (arith, nat_tests, e)

unreturned-plain : (l : List ℕ) → is_plain l ≡ true → unreturned l ≡ l
unreturned-plain [] plain = refl
unreturned-plain (b ∷ l) plain =
    let p = both (is_plain_byte b) (is_plain l) plain in
    rw (no_return b p.0) (ap (λ r. b ∷ r) (unreturned-plain l p.1))

feeds : (l rest acc : List ℕ) → is_plain l ≡ true → lines_after acc (l ++ 10 ∷ rest) ≡ unreturned (acc ++ l) ∷ lines_after [] rest
feeds [] rest acc plain = ap (λ x. unreturned x ∷ lines_after [] rest) (sym (append-nil acc))
feeds (b ∷ l) rest acc plain =
    let p = both (is_plain_byte b) (is_plain l) plain in
    line-byte acc b (l ++ 10 ∷ rest) (no_feed b p.0) ∙ feeds l rest (acc ++ b ∷ []) p.1
    ∙ ap (λ x. unreturned x ∷ lines_after [] rest) (append_assoc acc (b ∷ []) l)

-- lines of plain bytes
abbrev pub ArePlain : List (List ℕ) → Type 0
ArePlain [] = Unit {0}
ArePlain (line ∷ rest) = (is_plain line ≡ true) × ArePlain rest

again : (lines : List (List ℕ)) → ArePlain lines → lines_after [] (text_of_lines lines) ≡ lines
again [] plain = refl
again (line ∷ rest) plain =
    ap (lines_after []) (append_assoc line (10 ∷ []) (text_of_lines rest))
    ∙ feeds line (text_of_lines rest) [] plain.0
    ∙ ap (λ l. l ∷ lines_after [] (text_of_lines rest)) (unreturned-plain line plain.0)
    ∙ ap (λ r. line ∷ r) (again rest plain.1)

pub lines_again : (lines : List (List ℕ)) → ArePlain lines → lines_from (text_of_lines lines) 0 ≡ lines
unfolding lines_from
lines_again lines plain = again lines plain

pub plain_lines_append : (l m : List (List ℕ)) → ArePlain l → ArePlain m → ArePlain (l ++ m)
plain_lines_append [] m first second = second
plain_lines_append (x ∷ l) m first second = (first.0, plain_lines_append l m first.1 second)

-- ---- words

-- bytes of a word, one or more, none of which is a blank
pub record IsWord (w : List ℕ) : Type 0 where
  pub some : 0 < length w
  pub inner : list_all (λ b. not (is_blank b)) w ≡ true
  pub plain : is_plain w ≡ true

off : (b : Bool) → not b ≡ true → b ≡ false
off true e = absurd (false≢true e)
off false e = refl

front_all : (w rest : List ℕ) → list_all (λ b. not (is_blank b)) w ≡ true → (front_word (w ++ 32 ∷ rest) ≡ w) × (behind_word (w ++ 32 ∷ rest) ≡ 32 ∷ rest)
front_all [] rest inner = (refl, refl)
front_all (b ∷ w) rest inner =
    let p = both (not (is_blank b)) (list_all (λ b. not (is_blank b)) w) inner in
    let next = front_all w rest p.1 in
    (rw (off (is_blank b) p.0) (ap (λ l. b ∷ l) next.0), rw (off (is_blank b) p.0) next.1)

front_end : (w : List ℕ) → list_all (λ b. not (is_blank b)) w ≡ true → (front_word w ≡ w) × (behind_word w ≡ [])
front_end [] inner = (refl, refl)
front_end (b ∷ w) inner =
    let p = both (not (is_blank b)) (list_all (λ b. not (is_blank b)) w) inner in
    let next = front_end w p.1 in
    (rw (off (is_blank b) p.0) (ap (λ l. b ∷ l) next.0), rw (off (is_blank b) p.0) next.1)

begins : (w rest : List ℕ) → 0 < length w → list_all (λ b. not (is_blank b)) w ≡ true → unblanked (w ++ rest) ≡ w ++ rest
begins [] rest some inner = absurd (omega (arith, some))
begins (b ∷ w) rest some inner =
    let p = both (not (is_blank b)) (list_all (λ b. not (is_blank b)) w) inner in
    rw (off (is_blank b) p.0) refl

-- the first word, with more behind it
pub word_first : (w rest : List ℕ) → IsWord w → word_off (w ++ 32 ∷ rest) ≡ (w, 32 ∷ rest)
word_first w rest is =
    let cut = front_all w rest is.inner in
    ap (λ (l : List ℕ). (front_word l, behind_word l)) (begins w (32 ∷ rest) is.some is.inner)
    ∙ ap (λ (l : List ℕ). (l, behind_word (w ++ 32 ∷ rest))) cut.0 ∙ ap (λ (l : List ℕ). (w, l)) cut.1

-- the next word, with more behind it
pub word_next : (w rest : List ℕ) → IsWord w → word_off (32 ∷ (w ++ 32 ∷ rest)) ≡ (w, 32 ∷ rest)
word_next w rest is = word_first w rest is

-- the last word
pub word_last : (w : List ℕ) → IsWord w → word_off (32 ∷ w) ≡ (w, [])
word_last w is =
    let cut = front_end w is.inner in
    let whole : unblanked w ≡ w = ap unblanked (sym (append-nil w)) ∙ begins w [] is.some is.inner ∙ append-nil w in
    ap (λ (l : List ℕ). (front_word l, behind_word l)) whole
    ∙ ap (λ (l : List ℕ). (l, behind_word w)) cut.0 ∙ ap (λ (l : List ℕ). (w, l)) cut.1
