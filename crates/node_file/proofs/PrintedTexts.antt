-- The printed text of a principal can stand in a line, and is read behind a blank.
use Rattle.std.proofs.Common.{◌≡◌, ℕ, ◌/◌, ◌%◌, ◌<◌, ◌≤◌, Bool, true, false, cond, not, ◌&&◌, List, [], ◌∷◌, ◌++◌, length, Some, Ok, Err, refl, sym, ap, ◌∙◌, arith}
use Rattle.std.specs.Prelude.{◌==◌, codes, nat_le}
use Rattle.std.specs.Fmt.{decimal}
use Rattle.std.specs.List.{list_all}
use Rattle.std.proofs.lemmas.Bool.{false≢true, le-leb}
use Rattle.std.proofs.lemmas.Option.{none-some}
use Rattle.std.proofs.lemmas.Bool.Decides.{nat_tests}
use Rattle.prin_term.specs.Principal.{Principal, Key, Name, And, Quoting, InRole, For, HasSpelling, node_count}
use Rattle.prin_term.specs.Refusal.{FitsLimits}
use Rattle.byte_fields.specs.Steps.{◌>>=◌, with_fault}
use Rattle.prin_term.specs.declared.limits.TheConstants.{ENTRY_NODES}
use Rattle.prin_text.specs.Labels.{AreLabels, Labels, text_of}
use Rattle.prin_text.specs.Meaning.{IsSpaced, tokens_of}
use Rattle.prin_text.specs.Printing.{closing, letter_if, named, opening, principal_text, rights_text, text_within}
use Rattle.prin_text.specs.Reading.{principal_in}
use Rattle.prin_text.specs.Tokens.{is_blank, is_word_byte}
use Rattle.prin_text.specs.Words.{rights_of}
use Rattle.prin_text.proofs.Listed.{rights_again}
use Rattle.prin_text.proofs.Printed.{proper-printing}
use Rattle.prin_text.proofs.Whole.{meant_is_read, printed_is_read, read_is_meant}
use Rattle.prin_text.specs.declared.lines.fault.FileCause.TheVariants as causes
use Rattle.prin_text.specs.Lines.{is_plain, unblanked}
use Rattle.node_file.specs.NodeLines.{who_cause, who_said}
use Rattle.node_file.proofs.PrintedFields.{decimal_word, passes_too, word_append}
use Rattle.node_file.proofs.PrintedTables.{name_mark, named_word}
use Rattle.node_file.proofs.PrintedWords.{IsWord, plain_append}

-- ---- plain bytes, of which the first is no blank

-- bytes of a line, with a word in front
pub record IsShown (t : List ℕ) : Type 0 where
  pub plain : is_plain t ≡ true
  pub some : 0 < length (unblanked t)

some_more : (x y : List ℕ) → 0 < length (unblanked x) → 0 < length (unblanked (x ++ y))
some_more [] y some = absurd (omega (arith, some))
some_more (b ∷ x) y some = by (is_blank b) some (λ e. some_more x y e)
  where
    by : (t : Bool) → 0 < length (let l : List ℕ = cond t (unblanked x) (b ∷ x) in l) → (0 < length (unblanked x) → 0 < length (unblanked (x ++ y))) → 0 < length (let l : List ℕ = cond t (unblanked (x ++ y)) (b ∷ (x ++ y)) in l)
    by true some later = later some
    by false some later = omega arith

shown_more : (x y : List ℕ) → IsShown x → is_plain y ≡ true → IsShown (x ++ y)
shown_more x y first second = record { plain = plain_append x y first.plain second; some = some_more x y first.some }

word_shown : (w : List ℕ) → IsWord w → IsShown w
word_shown [] is = absurd (omega (arith, is.some))
word_shown (b ∷ w) is = by (is_blank b) refl (head_inner (not (is_blank b)) (list_all (λ b. not (is_blank b)) w) is.inner)
  where
    head_inner : (s t : Bool) → (s && t) ≡ true → s ≡ true
    head_inner true t e = refl
    head_inner false t e = absurd (false≢true e)

    by : (t : Bool) → is_blank b ≡ t → not (is_blank b) ≡ true → IsShown (b ∷ w)
    by true e inner = absurd (false≢true (sym (ap not e) ∙ inner))
    by false e inner = record { plain = is.plain; some = rw e (omega arith) }

-- a compound of two texts with an operator between
module _ (x between y : List ℕ) (first : IsShown x) (middle : is_plain between ≡ true) (second : is_plain y ≡ true) where
  pub compound_shown : (inside : Bool) → IsShown (opening inside ++ x ++ between ++ y ++ closing inside)
  compound_shown true = record {
    plain = plain_append (40 ∷ x ++ between ++ y) (41 ∷ []) (plain_append (40 ∷ x ++ between) y (plain_append (40 ∷ x) between first.plain middle) second) refl;
    some = omega arith;
  }
  compound_shown false =
      shown_more (x ++ between ++ y) [] (shown_more (x ++ between) y (shown_more x between first middle) second) refl

-- ---- principals

key_mark : IsWord (codes "key:")
key_mark = record { some = omega arith; inner = refl; plain = refl }

role_mark : IsWord (codes "role:")
role_mark = record { some = omega arith; inner = refl; plain = refl }

module _ (labels : Labels) (are : AreLabels labels) where
  pub text_shown : (inside : Bool) (p : Principal) → HasSpelling p → IsShown (text_within labels inside p)
  text_shown inside (Key k) small = word_shown (codes "key:" ++ decimal k) (word_append (codes "key:") (decimal k) key_mark (decimal_word k (omega (arith, small))))
  text_shown inside (Name n) small =
      let text = named (text_of labels.names n) (codes "name:") n in
      word_shown text (named_word labels.names (codes "name:") n text name_mark (proper-printing labels are false (Name n) small))
  text_shown inside (And a b) small = compound_shown (text_within labels true a) (codes " and ") (text_within labels true b) (text_shown true a small.0) refl (text_shown true b small.1).plain inside
  text_shown inside (Quoting a b) small = compound_shown (text_within labels true a) (codes "|") (text_within labels true b) (text_shown true a small.0) refl (text_shown true b small.1).plain inside
  text_shown inside (InRole a r) small =
      let text = named (text_of labels.roles r) (codes "role:") r in
      let proper = proper-printing labels are false (InRole a r) small in
      compound_shown (text_within labels true a) (codes " as ") text (text_shown true a small.0) refl (named_word labels.roles (codes "role:") r text role_mark proper.2).plain inside
  text_shown inside (For a b) small = compound_shown (text_within labels true a) (codes " for ") (text_within labels true b) (text_shown true a small.0) refl (text_shown true b small.1).plain inside

-- a blank more in front
blank_before : (ts : List (List ℕ)) (t : List ℕ) → IsSpaced ts t → IsSpaced ts (32 ∷ t)
blank_before [] t all = all
blank_before (token ∷ later) t is = (32 ∷ is.0, is.1, is.2, ap (λ (l : List ℕ). 32 ∷ l) is.3, is.4, is.5)

pub who_again : (labels : Labels) (p : Principal) → AreLabels labels → FitsLimits ENTRY_NODES p → who_said labels (32 ∷ principal_text labels p) ≡ Ok p
unfolding who_said
who_again labels p are fits =
    let text = principal_text labels p in
    let read = printed_is_read labels p are (record { numbers = fits.numbers; nodes_fit = omega (arith, fits.nodes_fit); depth_fits = fits.depth_fits }) in
    let meant = read_is_meant labels text p read in
    let spaced = blank_before (tokens_of meant.text.written) text meant.text.spaced in
    let again : principal_in labels (32 ∷ text) ≡ Ok p = meant_is_read labels (32 ∷ text) p (record { text = record { written = meant.text.written; proper = meant.text.proper; means = meant.text.means; spaced = spaced }; nodes_fit = meant.nodes_fit; depth_fits = meant.depth_fits }) in
    let few : nat_le (node_count p) ENTRY_NODES ≡ true = le-leb (node_count p) ENTRY_NODES fits.nodes_fit in
    ap (λ r. with_fault who_cause r >>= λ p. cond (nat_le (node_count p) ENTRY_NODES) (Ok p) (Err causes.Principal)) again ∙ (rw few refl)

-- ---- rights

word_inner : (b : ℕ) → is_word_byte b ≡ true → not (is_blank b) ≡ true
word_inner b e = grind (arith, nat_tests, e)

letter_plain : (b : Bool) (letter : List ℕ) → is_plain letter ≡ true → is_plain (letter_if b letter) ≡ true
letter_plain true letter plain = plain
letter_plain false letter plain = refl

no_rights : (n : ℕ) → rights_of [] ≡ Some n → ⊥
unfolding rights_of
no_rights n e = none-some n e

some_letters : (w : List ℕ) (n : ℕ) → rights_of w ≡ Some n → 0 < length w
some_letters [] n e = absurd (no_rights n e)
some_letters (b ∷ w) n e = omega arith

pub rights_word : (n : ℕ) → 1 ≤ n → n ≤ 15 → IsWord (rights_text n)
rights_word n some few =
    let again = rights_again n (omega (arith, few)) (omega (arith, some)) in
    record {
      some = some_letters (rights_text n) n again.0;
      inner = passes_too is_word_byte (λ b. not (is_blank b)) (rights_text n) word_inner again.1;
      plain = rights_plain;
    }
  where
    rights_plain : is_plain (rights_text n) ≡ true
    rights_plain =
        plain_append (letter_if (n % 2 == 1) (codes "r") ++ letter_if (n / 2 % 2 == 1) (codes "w") ++ letter_if (n / 4 % 2 == 1) (codes "c")) (letter_if (n / 8 % 2 == 1) (codes "m"))
        (plain_append (letter_if (n % 2 == 1) (codes "r") ++ letter_if (n / 2 % 2 == 1) (codes "w")) (letter_if (n / 4 % 2 == 1) (codes "c"))
        (plain_append (letter_if (n % 2 == 1) (codes "r")) (letter_if (n / 2 % 2 == 1) (codes "w")) (letter_plain (n % 2 == 1) (codes "r") refl) (letter_plain (n / 2 % 2 == 1) (codes "w") refl)) (letter_plain (n / 4 % 2 == 1) (codes "c") refl)) (letter_plain (n / 8 % 2 == 1) (codes "m") refl)
