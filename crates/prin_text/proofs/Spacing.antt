-- The tokens of bytes are those that stand there, with blanks between.
use Rattle.std.proofs.Common.{◌≡◌, ◌⊎◌, ℕ, ◌+◌, ◌-◌, Bool, true, false, cond, not, ◌&&◌, ◌||◌, List, [], ◌∷◌, ◌++◌, length, refl, sym, ◌∙◌, ap, subst, inl, inr, append_assoc, arith}
use Rattle.std.specs.List.{list_all}
use Rattle.std.proofs.lemmas.Bool.{false≢true}
use Rattle.std.proofs.lemmas.Bool.Decides.{nat_tests}
use Rattle.std.proofs.lemmas.List.{append-nil}
use Rattle.prin_text.specs.Meaning.{BeginsNoWord, IsSpaced, IsTokenBefore}
use Rattle.prin_text.specs.Tokens.{Placed, closed, is_blank, is_mark, is_word_byte, lexed}
use Rattle.prin_text.proofs.Again.{words}

-- all are bytes of words
abbrev pub AreWord : List ℕ → Type 0
AreWord w = list_all is_word_byte w ≡ true

-- all are blanks
abbrev pub AreBlank : List ℕ → Type 0
AreBlank w = list_all is_blank w ≡ true

pub and_true : (a b : Bool) → (a && b) ≡ true → (a ≡ true) × (b ≡ true)
and_true true b e = (refl, e)
and_true false b e = absurd (false≢true e)

pub both_true : (a b : Bool) → a ≡ true → b ≡ true → (a && b) ≡ true
both_true a b x y = rw (x, y) refl

-- which way a test goes
pub either : (b : Bool) → (b ≡ true) ⊎ (b ≡ false)
either true = inl refl
either false = inr refl

not_or : (a b : Bool) → a ≡ true → not (a || b) ≡ false
not_or a b e = rw e refl

-- a blank is no byte of a word
pub blank_is : (b : ℕ) → is_blank b ≡ true → is_word_byte b ≡ false
blank_is b is = not_or (is_blank b) (is_mark b) is

-- a mark is neither a byte of a word nor a blank
pub mark_is : (b : ℕ) → is_mark b ≡ true → (is_word_byte b ≡ false) × (is_blank b ≡ false)
mark_is b is = (grind (arith, nat_tests), grind (arith, nat_tests))

marks_by : (blank mark : Bool) → not (blank || mark) ≡ false → blank ≡ false → mark ≡ true
marks_by true mark word none = absurd (false≢true (sym none))
marks_by false true word none = refl
marks_by false false word none = absurd (false≢true (sym word))

-- what is neither is a mark
pub is_mark-from : (b : ℕ) → is_word_byte b ≡ false → is_blank b ≡ false → is_mark b ≡ true
is_mark-from b word blank = marks_by (is_blank b) (is_mark b) word blank

pub word_push : (w : List ℕ) (b : ℕ) → AreWord w → is_word_byte b ≡ true → AreWord (w ++ b ∷ [])
word_push [] b all is = both_true (is_word_byte b) true is refl
word_push (c ∷ w) b all is =
    let parts = and_true (is_word_byte c) (list_all is_word_byte w) all in
    both_true (is_word_byte c) (list_all is_word_byte (w ++ b ∷ [])) parts.0 (word_push w b parts.1 is)

-- ---- from the bytes to the tokens

pub lexed-blank : (b : ℕ) (at : ℕ) (rest : List ℕ) → is_blank b ≡ true → lexed [] at (b ∷ rest) ≡ lexed [] (at + 1) rest
lexed-blank b at rest is = rw (blank_is b is, is) refl

pub lexed-mark : (b : ℕ) (at : ℕ) (rest : List ℕ) → is_mark b ≡ true → lexed [] at (b ∷ rest) ≡ (at, b ∷ []) ∷ lexed [] (at + 1) rest
lexed-mark b at rest is = let nope = mark_is b is in rw (nope.0, nope.1) refl

pub lexed-byte : (w : List ℕ) (b : ℕ) (at : ℕ) (rest : List ℕ) → is_word_byte b ≡ true → lexed w at (b ∷ rest) ≡ lexed (w ++ b ∷ []) (at + 1) rest
lexed-byte w b at rest is = rw is refl

-- blanks are skipped
lexed-gap : (gap rest : List ℕ) (at : ℕ) → AreBlank gap → lexed [] at (gap ++ rest) ≡ lexed [] (at + length gap) rest
lexed-gap [] rest at all = ap (λ n. lexed [] n rest) (omega arith)
lexed-gap (b ∷ gap) rest at all =
    let parts = and_true (is_blank b) (list_all is_blank gap) all in
    lexed-blank b at (gap ++ rest) parts.0 ∙ lexed-gap gap rest (at + 1) parts.1 ∙ ap (λ n. lexed [] n rest) (omega arith)

-- bytes of a word are taken
pub lexed-word : (w run rest : List ℕ) (at : ℕ) → AreWord run → lexed w at (run ++ rest) ≡ lexed (w ++ run) (at + length run) rest
lexed-word w [] rest at all = (λ i. lexed (sym (append-nil w) i) (let e : at ≡ at + length (let n : List ℕ = [] in n) = omega arith in e i) rest)
lexed-word w (b ∷ run) rest at all =
    let parts = and_true (is_word_byte b) (list_all is_word_byte run) all in
    lexed-byte w b at (run ++ rest) parts.0 ∙ lexed-word (w ++ b ∷ []) run rest (at + 1) parts.1
    ∙ ap (λ l. lexed l (at + 1 + length run) rest) (append_assoc w (b ∷ []) run) ∙ ap (λ n. lexed (w ++ b ∷ run) n rest) (omega arith)

-- a word ends where none goes on
pub word_ends : (b : ℕ) (w rest : List ℕ) (at : ℕ) → BeginsNoWord rest → lexed (b ∷ w) at rest ≡ (at - length (b ∷ w), b ∷ w) ∷ lexed [] at rest
word_ends b w [] at nope = refl
word_ends b w (c ∷ rest) at nope = rw nope refl

token_here : (token rest : List ℕ) (at : ℕ) → IsTokenBefore token rest → (next : ℕ) × (words (lexed [] at (token ++ rest)) ≡ token ∷ words (lexed [] next rest))
token_here [] rest at is = absurd is
token_here (b ∷ word) rest at (inl is) = (at + 1, ap (λ w. words (lexed [] at ((b ∷ w) ++ rest))) is.1 ∙ ap words (lexed-mark b at rest is.0) ∙ ap (λ w. (b ∷ w) ∷ words (lexed [] (at + 1) rest)) (sym is.1))
token_here (b ∷ word) rest at (inr is) = (at + length (b ∷ word), ap words (lexed-word [] (b ∷ word) rest at is.0 ∙ word_ends b word rest (at + length (b ∷ word)) is.1))

-- the tokens that stand there are read
pub spaced_words : (ts : List (List ℕ)) (bytes : List ℕ) (at : ℕ) → IsSpaced ts bytes → words (lexed [] at bytes) ≡ ts
spaced_words [] bytes at blank = ap (λ l. words (lexed [] at l)) (sym (append-nil bytes)) ∙ ap words (lexed-gap bytes [] at blank)
spaced_words (token ∷ ts) bytes at (gap, rest, blank, text, is, later) =
    let here = token_here token rest (at + length gap) is in
    ap (λ l. words (lexed [] at l)) text ∙ ap words (lexed-gap gap (token ++ rest) at blank) ∙ here.1
    ∙ ap (λ l. token ∷ l) (spaced_words ts rest here.0 later)

-- ---- from the tokens to the bytes

-- a blank may stand in front
pub blank_before : (ts : List (List ℕ)) (bytes : List ℕ) (b : ℕ) → is_blank b ≡ true → IsSpaced ts bytes → IsSpaced ts (b ∷ bytes)
blank_before [] bytes b is blank = both_true (is_blank b) (list_all is_blank bytes) is blank
blank_before (t ∷ ts) bytes b is (gap, rest, blank, text, token, later) =
    (b ∷ gap, rest, both_true (is_blank b) (list_all is_blank gap) is blank, ap (λ l. b ∷ l) text, token, later)

-- the word so far is a token before what does not go on with it
word_before : (w : List ℕ) (at : ℕ) (later : List Placed) (rest : List ℕ) → AreWord w → BeginsNoWord rest → IsSpaced (words later) rest → IsSpaced (words (closed w at later)) (w ++ rest)
word_before [] at later rest all nope spaced = spaced
word_before (c ∷ w) at later rest all nope spaced = ([], rest, refl, refl, inr (all, nope), spaced)

pub lexed-closed : (w : List ℕ) (b : ℕ) (at : ℕ) (rest : List ℕ) → is_word_byte b ≡ false → lexed w at (b ∷ rest) ≡ closed w at (cond (is_blank b) (lexed [] (at + 1) rest) ((at, b ∷ []) ∷ lexed [] (at + 1) rest))
lexed-closed w b at rest nope = rw nope refl

-- the tokens that are read stand there
pub words_spaced : (bytes w : List ℕ) (at : ℕ) → AreWord w → IsSpaced (words (lexed w at bytes)) (w ++ bytes)
words_spaced [] w at all = word_before w at [] [] all tt refl
words_spaced (b ∷ bytes) w at all = elim (either (is_word_byte b)) [
  | inl word ↦
      subst (λ (l : List ℕ). IsSpaced (words (lexed w at (b ∷ bytes))) l) (append_assoc w (b ∷ []) bytes)
      (subst (λ (l : List Placed). IsSpaced (words l) ((w ++ b ∷ []) ++ bytes)) (sym (lexed-byte w b at bytes word)) (words_spaced bytes (w ++ b ∷ []) (at + 1) (word_push w b all word)))
  | inr other ↦
      let later = words_spaced bytes [] (at + 1) refl in
      elim (either (is_blank b)) [
        | inl blank ↦ subst (λ (l : List Placed). IsSpaced (words l) (w ++ b ∷ bytes)) (sym (lexed-closed w b at bytes other ∙ ap (λ x. closed w at (cond x (lexed [] (at + 1) bytes) ((at, b ∷ []) ∷ lexed [] (at + 1) bytes))) blank))
            (word_before w at (lexed [] (at + 1) bytes) (b ∷ bytes) all other (blank_before (words (lexed [] (at + 1) bytes)) bytes b blank later))
        | inr none ↦ subst (λ (l : List Placed). IsSpaced (words l) (w ++ b ∷ bytes)) (sym (lexed-closed w b at bytes other ∙ ap (λ x. closed w at (cond x (lexed [] (at + 1) bytes) ((at, b ∷ []) ∷ lexed [] (at + 1) bytes))) none))
            (word_before w at ((at, b ∷ []) ∷ lexed [] (at + 1) bytes) (b ∷ bytes) all other ([], bytes, refl, refl, inl (is_mark-from b other none, refl), later))
      ]
]
