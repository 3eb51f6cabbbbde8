-- What is printed of a list is read again.
use Rattle.std.proofs.Common.{◌≡◌, ◌⊎◌, ℕ, zero, suc, ◌+◌, ◌-◌, ◌<◌, ◌≤◌, Bool, true, false, cond, List, [], ◌∷◌, ◌++◌, length, Some, Ok, refl, sym, ◌∙◌, ap, subst, inl, inr, append_assoc, arith, eqb, length-append}
use Rattle.std.specs.Prelude.{bytes_eq, codes}
use Rattle.std.proofs.lemmas.Bool.Decides.{nat_tests}
use Rattle.std.proofs.lemmas.List.{append-nil}
use Rattle.prin_term.specs.declared.limits.TheConstants.{ENTRY_NODES}
use Rattle.prin_term.specs.Principal.{Principal}
use Rattle.prin_term.specs.Refusal.{FitsLimits}
use Rattle.byte_fields.specs.Steps.{◌>>=◌}
use Rattle.prin_term.specs.View.{Grant}
use Rattle.prin_text.specs.declared.limits.TheConstants.{MAX_ENTRIES}
use Rattle.prin_text.specs.Labels.{Labels, AreLabels}
use Rattle.prin_text.specs.Lists.{AreEntries, IsEntry, rights_at, who_at, entry_at, further, entries_at, list_of, list_in}
use Rattle.prin_text.specs.Meaning.{Written, Atom, Group, Pair, RoleOf, meaning, operator, tokens_of, IsProper}
use Rattle.prin_text.specs.Pieces.{Piece}
use Rattle.prin_text.specs.Printing.{rights_text, principal_text, entry_text, list_text}
use Rattle.prin_text.specs.Reading.{measured, piece_at}
use Rattle.prin_text.specs.Tokens.{Placed, closed, first_place, is_blank, is_word_byte, lexed, tokens_from}
use Rattle.prin_text.specs.Words.{rights_of}
use Rattle.prin_text.proofs.Again.{words, reads, standing}
use Rattle.prin_text.proofs.Pieced.{piece_of}
use Rattle.prin_text.proofs.Printed.{printed_text}
use Rattle.prin_text.proofs.Spacing.{AreWord, either, lexed-blank, lexed-byte, lexed-closed, lexed-word, spaced_words, word_ends}
use Rattle.prin_text.proofs.Whole.{finished-standing, measured-fits}

-- rights are read as they are printed, as a word
pub rights_again : (n : ℕ) → n < 16 → 0 < n → (rights_of (rights_text n) ≡ Some n) × (AreWord (rights_text n))
unfolding rights_of
rights_again zero lt some = absurd (omega arith)
rights_again (suc zero) lt some = (refl, refl)
rights_again (suc (suc zero)) lt some = (refl, refl)
rights_again (suc (suc (suc zero))) lt some = (refl, refl)
rights_again (suc (suc (suc (suc zero)))) lt some = (refl, refl)
rights_again (suc (suc (suc (suc (suc zero))))) lt some = (refl, refl)
rights_again (suc (suc (suc (suc (suc (suc zero)))))) lt some = (refl, refl)
rights_again (suc (suc (suc (suc (suc (suc (suc zero))))))) lt some = (refl, refl)
rights_again (suc (suc (suc (suc (suc (suc (suc (suc zero)))))))) lt some = (refl, refl)
rights_again (suc (suc (suc (suc (suc (suc (suc (suc (suc zero))))))))) lt some = (refl, refl)
rights_again (suc (suc (suc (suc (suc (suc (suc (suc (suc (suc zero)))))))))) lt some = (refl, refl)
rights_again (suc (suc (suc (suc (suc (suc (suc (suc (suc (suc (suc zero))))))))))) lt some = (refl, refl)
rights_again (suc (suc (suc (suc (suc (suc (suc (suc (suc (suc (suc (suc zero)))))))))))) lt some = (refl, refl)
rights_again (suc (suc (suc (suc (suc (suc (suc (suc (suc (suc (suc (suc (suc zero))))))))))))) lt some = (refl, refl)
rights_again (suc (suc (suc (suc (suc (suc (suc (suc (suc (suc (suc (suc (suc (suc zero)))))))))))))) lt some = (refl, refl)
rights_again (suc (suc (suc (suc (suc (suc (suc (suc (suc (suc (suc (suc (suc (suc (suc zero))))))))))))))) lt some = (refl, refl)
rights_again (suc (suc (suc (suc (suc (suc (suc (suc (suc (suc (suc (suc (suc (suc (suc (suc n)))))))))))))))) lt some = absurd (omega arith)

-- ---- tokens up to a `;`

closed-append : (w : List ℕ) (at : ℕ) (first second : List Placed) → closed w at first ++ second ≡ closed w at (first ++ second)
closed-append [] at first second = refl
closed-append (b ∷ w) at first second = refl

chosen_append : (b : Bool) (l more : List Placed) (at c : ℕ) → cond b (l ++ more) ((at, c ∷ []) ∷ (l ++ more)) ≡ cond b l ((at, c ∷ []) ∷ l) ++ more
chosen_append true l more at c = refl
chosen_append false l more at c = refl

lexed-semicolon : (x y w : List ℕ) (at : ℕ) → lexed w at (x ++ 59 ∷ y) ≡ lexed w at x ++ (at + length x, codes ";") ∷ lexed [] (at + length x + 1) y
lexed-semicolon [] y w at =
    let none : at + length (let l : List ℕ = [] in l) ≡ at = omega arith in
    sym (closed-append w at [] ((at, codes ";") ∷ lexed [] (at + 1) y)) ∙ ap (λ n. closed w at [] ++ (n, codes ";") ∷ lexed [] (n + 1) y) (sym none)
lexed-semicolon (b ∷ x) y w at =
    let place : at + 1 + length x ≡ at + length (b ∷ x) = omega arith in
    elim (either (is_word_byte b)) [
      | inl word ↦
          lexed-byte w b at (x ++ 59 ∷ y) word ∙ lexed-semicolon x y (w ++ b ∷ []) (at + 1)
          ∙ ap (λ n. lexed (w ++ b ∷ []) (at + 1) x ++ (n, codes ";") ∷ lexed [] (n + 1) y) place
          ∙ ap (λ l. l ++ (at + length (b ∷ x), codes ";") ∷ lexed [] (at + length (b ∷ x) + 1) y) (sym (lexed-byte w b at x word))
      | inr other ↦
          let more = (at + length (b ∷ x), codes ";") ∷ lexed [] (at + length (b ∷ x) + 1) y in
          let rest = lexed-semicolon x y [] (at + 1) ∙ ap (λ n. lexed [] (at + 1) x ++ (n, codes ";") ∷ lexed [] (n + 1) y) place in
          lexed-closed w b at (x ++ 59 ∷ y) other
          ∙ ap (λ l. closed w at (cond (is_blank b) l ((at, b ∷ []) ∷ l))) rest
          ∙ ap (closed w at) (chosen_append (is_blank b) (lexed [] (at + 1) x) more at b)
          ∙ sym (closed-append w at (cond (is_blank b) (lexed [] (at + 1) x) ((at, b ∷ []) ∷ lexed [] (at + 1) x)) more)
          ∙ ap (λ l. l ++ more) (sym (lexed-closed w b at x other))
    ]

-- ---- the first token

-- a token stands behind where the bytes begin
from_chosen : (b : Bool) (at c : ℕ) (l : List Placed) → (l ≡ []) ⊎ (at + 1 - length (let n : List ℕ = [] in n) ≤ first_place l 0) → (cond b l ((at, c ∷ []) ∷ l) ≡ []) ⊎ (at ≤ first_place (cond b l ((at, c ∷ []) ∷ l)) 0)
from_chosen true at c l (inl none) = inl none
from_chosen true at c l (inr le) = inr (omega arith)
from_chosen false at c l is = inr (omega arith)

from_closed : (w : List ℕ) (at : ℕ) (l whole : List Placed) → whole ≡ closed w at l → (l ≡ []) ⊎ (at ≤ first_place l 0) → (whole ≡ []) ⊎ (at - length w ≤ first_place whole 0)
from_closed [] at l whole e (inl none) = inl (e ∙ none)
from_closed [] at l whole e (inr le) = inr (subst (λ (x : List Placed). at - 0 ≤ first_place x 0) (sym e) (omega arith))
from_closed (c ∷ w) at l whole e is = inr (subst (λ (x : List Placed). at - length (c ∷ w) ≤ first_place x 0) (sym e) (omega arith))

first_from : (bytes w : List ℕ) (at : ℕ) → (lexed w at bytes ≡ []) ⊎ (at - length w ≤ first_place (lexed w at bytes) 0)
first_from [] [] at = inl refl
first_from [] (c ∷ w) at = inr (omega arith)
first_from (b ∷ bytes) w at = elim (either (is_word_byte b)) [
  | inl word ↦ elim (first_from bytes (w ++ b ∷ []) (at + 1)) [
    | inl none ↦ inl (lexed-byte w b at bytes word ∙ none)
    | inr le ↦ inr (subst (λ (l : List Placed). at - length w ≤ first_place l 0) (sym (lexed-byte w b at bytes word)) (omega (arith, le, length-append w (b ∷ []))))
  ]
  | inr other ↦ from_closed w at (cond (is_blank b) (lexed [] (at + 1) bytes) ((at, b ∷ []) ∷ lexed [] (at + 1) bytes)) (lexed w at (b ∷ bytes)) (lexed-closed w b at bytes other) (from_chosen (is_blank b) at b (lexed [] (at + 1) bytes) (first_from bytes [] (at + 1)))
]

-- ---- an entry

no_rights : (n : ℕ) → rights_of [] ≡ Some n → ⊥
unfolding rights_of
no_rights n e = cc

pub none_listed : (labels : Labels) (end : ℕ) (entries : List Grant) → entries_at labels end MAX_ENTRIES [] [] ≡ Ok entries → ⊥
unfolding entries_at entry_at
none_listed labels end entries e = cc

regrouped_list : (labels : Labels) (e f : Grant) (rest : List Grant) → list_text labels (e ∷ f ∷ rest) ≡ entry_text labels e ++ 59 ∷ (32 ∷ list_text labels (f ∷ rest))
regrouped_list labels e f rest = simp append_assoc

not_empty : (xs : List (List ℕ)) (y : List ℕ) (ys : List (List ℕ)) → xs ++ y ∷ ys ≡ [] → ⊥
not_empty [] y ys e = cc
not_empty (x ∷ xs) y ys e = cc

-- something written has a token
pub has_tokens : (w : Written) → tokens_of w ≡ [] → ⊥
has_tokens (Atom p word) e = cc
has_tokens (Group w) e = cc
has_tokens (Pair kind a b) e = not_empty (tokens_of a) (operator kind) (tokens_of b) e
has_tokens (RoleOf a r word) e = not_empty (tokens_of a) (codes "as") (word ∷ []) e

-- a token that stands further back is not there
behind_apart : (at : ℕ) (t : List ℕ) (ts : List Placed) (behind : ℕ) → ((at, t) ∷ ts ≡ []) ⊎ (behind < first_place ((at, t) ∷ ts) 0) → eqb at behind ≡ false
behind_apart at t ts behind (inl none) = absurd cc
behind_apart at t ts behind (inr lt) = grind (arith, nat_tests)

-- the tokens of a word, a blank and what follows
worded : (b : ℕ) (w text : List ℕ) (at : ℕ) → AreWord (b ∷ w) → lexed [] at ((b ∷ w) ++ 32 ∷ text) ≡ (at, b ∷ w) ∷ lexed [] (at + length (b ∷ w) + 1) text
worded b w text at word =
    let place : at + length (b ∷ w) - length (b ∷ w) ≡ at = omega arith in
    lexed-word [] (b ∷ w) (32 ∷ text) at word ∙ word_ends b w (32 ∷ text) (at + length (b ∷ w)) refl
    ∙ (λ i. (place i, b ∷ w) ∷ lexed-blank 32 (at + length (b ∷ w)) text refl i)

-- the list ends here, or goes on after a `;`
abbrev pub Stops : List Placed → Type 0
Stops [] = Unit {0}
Stops ((at, t) ∷ rest) = bytes_eq t (codes ";") ≡ true

module _ (labels : Labels) (are : AreLabels labels) (end : ℕ) where
  stops_read : (w : Written) (pc : Piece) (rest : List Placed) → Stops rest → piece_at labels end rest [] (standing w pc) ≡ Ok (pc, rest)
  unfolding piece_at
  stops_read w pc [] stops = rw (finished-standing end w pc) refl
  stops_read w pc ((at, t) ∷ rest) stops = rw (stops, finished-standing at w pc) refl

  who_read : (rights behind : ℕ) (w : Written) (p : Principal) (ts rest : List Placed) →
      IsProper labels w → meaning w ≡ p → FitsLimits ENTRY_NODES p → words ts ≡ tokens_of w →
      (ts ≡ []) ⊎ (behind < first_place ts 0) → Stops rest →
      who_at labels end rights behind (ts ++ rest) ≡ Ok (record { rights = rights; who = p }, rest)
  unfolding who_at
  who_read rights behind w p [] rest proper means fits same later stops = absurd (has_tokens w (sym same))
  who_read rights behind w p ((at, t) ∷ ts) rest proper means fits same later stops =
      let apart : eqb at behind ≡ false = behind_apart at t ts behind later in
      let read = (reads labels end w proper).1 ((at, t) ∷ ts) rest [] same ∙ stops_read w (piece_of (meaning w)) rest stops in
      let size = ap (λ q. measured ENTRY_NODES at (piece_of q)) means ∙ measured-fits ENTRY_NODES at p fits.nodes_fit fits.depth_fits in
      rw (apart, read, size) refl

  entry_tokens : (e : Grant) (at : ℕ) (letters : List ℕ) → letters ≡ rights_text e.rights → (rights_of letters ≡ Some e.rights) × AreWord letters → lexed [] at (letters ++ 32 ∷ principal_text labels e.who) ≡ (at, letters) ∷ lexed [] (at + length letters + 1) (principal_text labels e.who)
  entry_tokens e at [] same is = absurd (no_rights e.rights is.0)
  entry_tokens e at (b ∷ w) same is = worded b w (principal_text labels e.who) at is.1

  -- an entry is read as it is printed
  entry_read : (e : Grant) (at : ℕ) (rest : List Placed) → IsEntry e → Stops rest → entry_at labels end (lexed [] at (entry_text labels e) ++ rest) ≡ Ok (e, rest)
  unfolding entry_at
  entry_read e at rest is stops =
      let letters = rights_text e.rights in
      let again = rights_again e.rights is.rights is.some in
      let text = principal_text labels e.who in
      let behind = at + length letters in
      let ts = lexed [] (behind + 1) text in
      let written = printed_text labels are e.who is.who.numbers in
      let first : (ts ≡ []) ⊎ (behind < first_place ts 0) = elim (first_from text [] (behind + 1)) [ inl none ↦ inl none | inr le ↦ inr (omega (arith, le)) ] in
      let who = who_read e.rights behind written.written e.who ts rest written.proper written.means is.who (spaced_words (tokens_of written.written) text (behind + 1) written.spaced) first stops in
      ap (λ l. entry_at labels end (l ++ rest)) (entry_tokens e at letters refl again)
      ∙ ap (λ r. rights_at at r >>= λ n. who_at labels end n behind (ts ++ rest)) again.0
      ∙ who

  -- ---- a list

  -- the entries that are left are read as they are printed
  entries_read : (e : Grant) (rest : List Grant) (n at : ℕ) (before : List Grant) → length (e ∷ rest) ≤ n → AreEntries (e ∷ rest) → entries_at labels end n before (lexed [] at (list_text labels (e ∷ rest))) ≡ Ok (before ++ e ∷ rest)
  unfolding entries_at
  entries_read e rest zero at before le is = absurd (omega (arith, le))
  entries_read e [] (suc n) at before le is =
      let one = entry_read e at [] is.0 tt in
      ap (λ l. entries_at labels end (suc n) before (lexed [] at l)) (append-nil (entry_text labels e))
      ∙ ap (λ l. entry_at labels end l >>= λ x. further (entries_at labels end n) (before ++ x.0 ∷ []) x.1) (sym (append-nil (lexed [] at (entry_text labels e))))
      ∙ ap (λ r. r >>= λ x. further (entries_at labels end n) (before ++ x.0 ∷ []) x.1) one
  entries_read e (f ∷ rest) (suc n) at before le is =
      let text = entry_text labels e in
      let more = list_text labels (f ∷ rest) in
      let place = at + length text in
      let tail = (place, codes ";") ∷ lexed [] (place + 1) (32 ∷ more) in
      let one = entry_read e at tail is.0 refl in
      let next = entries_read f rest n (place + 1 + 1) (before ++ e ∷ []) (omega (arith, le)) is.1 in
      ap (λ l. entries_at labels end (suc n) before (lexed [] at l)) (regrouped_list labels e f rest)
      ∙ ap (λ l. entry_at labels end l >>= λ x. further (entries_at labels end n) (before ++ x.0 ∷ []) x.1) (lexed-semicolon text (32 ∷ more) [] at)
      ∙ ap (λ r. r >>= λ x. further (entries_at labels end n) (before ++ x.0 ∷ []) x.1) one
      ∙ ap (entries_at labels end n (before ++ e ∷ [])) (lexed-blank 32 (place + 1) more refl)
      ∙ next ∙ ap (λ l. Ok l) (append_assoc before (e ∷ []) (f ∷ rest))

-- a list that has an entry has a token
list_by : (labels : Labels) (end : ℕ) (ts : List Placed) (entries : List Grant) → entries_at labels end MAX_ENTRIES [] ts ≡ Ok entries → list_of labels end ts ≡ Ok entries
list_by labels end [] entries e = absurd (none_listed labels end entries e)
list_by labels end (t ∷ ts) entries e = e

-- what is printed of a list is read again
pub printed_list_is_read : (labels : Labels) (entries : List Grant) → AreLabels labels → AreEntries entries → length entries ≤ MAX_ENTRIES → list_in labels (list_text labels entries) ≡ Ok entries
unfolding list_in tokens_from
printed_list_is_read labels [] are is le = refl
printed_list_is_read labels (e ∷ rest) are is le =
    let bytes = list_text labels (e ∷ rest) in
    list_by labels (length bytes) (lexed [] 0 bytes) (e ∷ rest) (entries_read labels are (length bytes) e rest MAX_ENTRIES 0 [] le is)
