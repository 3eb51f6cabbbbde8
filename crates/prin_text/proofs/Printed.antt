-- What is printed is a text of what was printed.
use Rattle.std.proofs.Common.{◌≡◌, ℕ, ◌^◌, ◌<◌, Bool, true, false, cond, List, [], ◌∷◌, ◌++◌, Option, Some, None, refl, sym, ◌∙◌, ap, subst, inl, inr, append_assoc, arith, eqb, suc}
use Rattle.std.specs.Prelude.{All, codes, IsTrue}
use Rattle.std.specs.Fmt.{decimal}
use Rattle.std.specs.List.{list_all}
use Rattle.std.proofs.lemmas.Bool.{false≢true}
use Rattle.std.proofs.lemmas.Bool.Decides.{nat_tests}
use Rattle.std.proofs.lemmas.Fmt.{digits_decimal}
use Rattle.std.proofs.lemmas.List.{append-nil}
use Rattle.prin_term.specs.Principal.{Principal, Key, Name, And, Quoting, InRole, For, HasSpelling}
use Rattle.prin_term.specs.Kind.{Kind, pair}
use Rattle.prin_term.specs.Kind as kinds
use Rattle.prin_text.specs.Labels.{Labels, Rows, AreLabels, IsRow, IsTable, is_digit, is_label, is_label_byte, text_of}
use Rattle.prin_text.specs.Meaning.{Written, Atom, Group, Pair, RoleOf, meaning, operator, tokens_of, IsOperand, IsProper, IsNamed, BeginsNoWord, IsSpaced, IsText}
use Rattle.prin_text.specs.Printing.{named, opening, closing, text_within}
use Rattle.prin_text.specs.Tokens.{is_mark, is_word_byte}
use Rattle.prin_text.specs.declared.limits.TheConstants.{MAX_NAMES, MAX_ROLES}
use Rattle.prin_text.proofs.Decimals.{own}
use Rattle.prin_text.proofs.Spacing.{AreWord, and_true, both_true, blank_before}
use Rattle.prin_text.proofs.Texts.{number_of-text_of, some_is}

-- in parentheses, where it stands within another
abbrev pub within : Bool → Written → Written
within true w = Group w
within false w = w

-- how a principal is printed
abbrev pub printing : Labels → Bool → Principal → Written
printing labels inside (Key k) = Atom (Key k) (codes "key:" ++ decimal k)
printing labels inside (Name n) = Atom (Name n) (named (text_of labels.names n) (codes "name:") n)
printing labels inside (And a b) = within inside (Pair kinds.And (printing labels true a) (printing labels true b))
printing labels inside (Quoting a b) = within inside (Pair kinds.Quoting (printing labels true a) (printing labels true b))
printing labels inside (InRole a r) = within inside (RoleOf (printing labels true a) r (named (text_of labels.roles r) (codes "role:") r))
printing labels inside (For a b) = within inside (Pair kinds.For (printing labels true a) (printing labels true b))

meaning-within : (inside : Bool) (w : Written) → meaning (within inside w) ≡ meaning w
meaning-within true w = refl
meaning-within false w = refl

-- it means the principal
pub meaning-printing : (labels : Labels) (inside : Bool) (p : Principal) → meaning (printing labels inside p) ≡ p
meaning-printing labels inside (Key k) = refl
meaning-printing labels inside (Name n) = refl
meaning-printing labels inside (And a b) = meaning-within inside _ ∙ (λ i. And (meaning-printing labels true a i) (meaning-printing labels true b i))
meaning-printing labels inside (Quoting a b) = meaning-within inside _ ∙ (λ i. Quoting (meaning-printing labels true a i) (meaning-printing labels true b i))
meaning-printing labels inside (InRole a r) = meaning-within inside _ ∙ (λ i. InRole (meaning-printing labels true a i) r)
meaning-printing labels inside (For a b) = meaning-within inside _ ∙ (λ i. For (meaning-printing labels true a i) (meaning-printing labels true b i))

-- ---- it is written properly

label_here : (m : ℕ) (t : List ℕ) (rows : Rows) (n : ℕ) (text : List ℕ) (here : Bool) → IsTrue (is_label t) → (text_of rows n ≡ Some text → IsTrue (is_label text)) → cond here (Some t) (text_of rows n) ≡ Some text → IsTrue (is_label text)
label_here m t rows n text true is later e = subst (λ (x : List ℕ). IsTrue (is_label x)) (some_is t text e) is
label_here m t rows n text false is later e = later e

-- the texts of a table are texts
label_found : (rows : Rows) (n : ℕ) (text : List ℕ) → All IsRow rows → text_of rows n ≡ Some text → IsTrue (is_label text)
label_found [] n text all e = absurd cc
label_found ((m, t) ∷ rows) n text all e = label_here m t rows n text (eqb m n) (all 0 (0, []) (omega arith)).1 (label_found rows n text (λ k d lt. all (suc k) d (omega arith))) e

-- a number is printed as its text or by itself
names_by : (room : ℕ) (rows : Rows) (sort : List ℕ) (n : ℕ) (found : Option (List ℕ)) → IsTable room rows → text_of rows n ≡ found → n < 2 ^ 32 → IsNamed rows sort n (named found sort n)
names_by room rows sort n None table e lt = inl (lt, refl)
names_by room rows sort n (Some text) table e lt = inr (label_found rows n text table.whole e, number_of-text_of rows n text table.differ e)

proper-within : (labels : Labels) (inside : Bool) (w : Written) → IsProper labels w → IsProper labels (within inside w)
proper-within labels true w proper = proper
proper-within labels false w proper = proper

operand-printing : (labels : Labels) (p : Principal) → IsOperand (printing labels true p)
operand-printing labels (Key k) = tt
operand-printing labels (Name n) = tt
operand-printing labels (And a b) = tt
operand-printing labels (Quoting a b) = tt
operand-printing labels (InRole a r) = tt
operand-printing labels (For a b) = tt

pub proper-printing : (labels : Labels) → AreLabels labels → (inside : Bool) (p : Principal) → HasSpelling p → IsProper labels (printing labels inside p)
proper-printing labels are inside (Key k) fits = (fits, refl)
proper-printing labels are inside (Name n) fits = names_by MAX_NAMES labels.names (codes "name:") n (text_of labels.names n) are.names refl fits
proper-printing labels are inside (And a b) fits = proper-within labels inside _ ((operand-printing labels a, operand-printing labels b), (proper-printing labels are true a fits.0, proper-printing labels are true b fits.1))
proper-printing labels are inside (Quoting a b) fits = proper-within labels inside _ ((operand-printing labels a, operand-printing labels b), (proper-printing labels are true a fits.0, proper-printing labels are true b fits.1))
proper-printing labels are inside (InRole a r) fits = proper-within labels inside _ (operand-printing labels a, proper-printing labels are true a fits.0, names_by MAX_ROLES labels.roles (codes "role:") r (text_of labels.roles r) are.roles refl fits.1)
proper-printing labels are inside (For a b) fits = proper-within labels inside _ ((operand-printing labels a, operand-printing labels b), (proper-printing labels are true a fits.0, proper-printing labels are true b fits.1))

-- ---- and its tokens stand there, with blanks between

-- bytes of words
word_append : (x y : List ℕ) → AreWord x → AreWord y → AreWord (x ++ y)
word_append [] y first second = second
word_append (b ∷ x) y first second =
    let parts = and_true (is_word_byte b) (list_all is_word_byte x) first in
    both_true (is_word_byte b) (list_all is_word_byte (x ++ y)) parts.0 (word_append x y parts.1 second)

digit_in_word : (b : ℕ) → is_digit b ≡ true → is_word_byte b ≡ true
digit_in_word b is = grind (arith, nat_tests)

label_in_word : (b : ℕ) → is_label_byte b ≡ true → is_word_byte b ≡ true
label_in_word b is = grind (arith, nat_tests)

digits_are_word : (ds : List ℕ) → list_all is_digit ds ≡ true → AreWord ds
digits_are_word [] all = refl
digits_are_word (b ∷ ds) all =
    let parts = and_true (is_digit b) (list_all is_digit ds) all in
    both_true (is_word_byte b) (list_all is_word_byte ds) (digit_in_word b parts.0) (digits_are_word ds parts.1)

label_bytes_are_word : (bs : List ℕ) → list_all is_label_byte bs ≡ true → AreWord bs
label_bytes_are_word [] all = refl
label_bytes_are_word (b ∷ bs) all =
    let parts = and_true (is_label_byte b) (list_all is_label_byte bs) all in
    both_true (is_word_byte b) (list_all is_word_byte bs) (label_in_word b parts.0) (label_bytes_are_word bs parts.1)

-- a word of one byte or more
abbrev pub IsWord : List ℕ → Type 0
IsWord [] = ⊥
IsWord (b ∷ w) = AreWord (b ∷ w)

label_word : (t : List ℕ) → IsTrue (is_label t) → IsWord t
unfolding is_label
label_word [] is = absurd (false≢true is)
label_word (b ∷ t) is =
    let outer = and_true _ _ is in
    let inner = and_true _ _ outer.0 in
    label_bytes_are_word (b ∷ t) inner.1

sort_word : (b : ℕ) (sort : List ℕ) (n : ℕ) → AreWord (b ∷ sort) → n < 2 ^ 32 → IsWord ((b ∷ sort) ++ decimal n)
sort_word b sort n front lt = word_append (b ∷ sort) (decimal n) front (digits_are_word (decimal n) (digits_decimal own n (omega arith)))

named_word : (b : ℕ) (sort : List ℕ) (rows : Rows) (n : ℕ) (found : Option (List ℕ)) → AreWord (b ∷ sort) → n < 2 ^ 32 → All IsRow rows → text_of rows n ≡ found → IsWord (named found (b ∷ sort) n)
named_word b sort rows n None front lt all e = sort_word b sort n front lt
named_word b sort rows n (Some text) front lt all e = label_word text (label_found rows n text all e)

-- a token in front
word_first : (word rest : List ℕ) (later : List (List ℕ)) → IsWord word → BeginsNoWord rest → IsSpaced later rest → IsSpaced (word ∷ later) (word ++ rest)
word_first [] rest later is nope spaced = absurd is
word_first (b ∷ word) rest later is nope spaced = ([], rest, refl, refl, inr (is, nope), spaced)

mark_first : (b : ℕ) (rest : List ℕ) (later : List (List ℕ)) → is_mark b ≡ true → IsSpaced later rest → IsSpaced ((b ∷ []) ∷ later) (b ∷ rest)
mark_first b rest later is spaced = ([], rest, refl, refl, inl (is, refl), spaced)

-- these tokens, whatever stands behind them
abbrev Stands : List (List ℕ) → List ℕ → Type 0
Stands ts text = (later : List (List ℕ)) (rest : List ℕ) → BeginsNoWord rest → IsSpaced later rest → IsSpaced (ts ++ later) (text ++ rest)

word_stands : (word : List ℕ) → IsWord word → Stands (word ∷ []) word
word_stands word is later rest nope spaced = word_first word rest later is nope spaced

regrouped : (left op right rest : List ℕ) → (left ++ (32 ∷ (op ++ (32 ∷ right)))) ++ rest ≡ left ++ (32 ∷ (op ++ (32 ∷ (right ++ rest))))
regrouped left op right rest = simp append_assoc

-- an operator that is a word has a blank at each side
word_between : (op : List ℕ) (ts us : List (List ℕ)) (left right : List ℕ) → IsWord op → Stands ts left → Stands us right → Stands (ts ++ op ∷ us) (left ++ (32 ∷ (op ++ (32 ∷ right))))
word_between op ts us left right is first second later rest nope spaced =
    let after = blank_before (us ++ later) (right ++ rest) 32 refl (second later rest nope spaced) in
    let middle = blank_before (op ∷ (us ++ later)) (op ++ (32 ∷ (right ++ rest))) 32 refl (word_first op (32 ∷ (right ++ rest)) (us ++ later) is refl after) in
    let whole = first (op ∷ (us ++ later)) (32 ∷ (op ++ (32 ∷ (right ++ rest)))) refl middle in
    subst (λ (l : List ℕ). IsSpaced ((ts ++ op ∷ us) ++ later) l) (sym (regrouped left op right rest))
    (subst (λ (l : List (List ℕ)). IsSpaced l (left ++ (32 ∷ (op ++ (32 ∷ (right ++ rest)))))) (sym (append_assoc ts (op ∷ us) later)) whole)

bar_between : (ts us : List (List ℕ)) (left right : List ℕ) → Stands ts left → Stands us right → Stands (ts ++ codes "|" ∷ us) (left ++ (124 ∷ right))
bar_between ts us left right first second later rest nope spaced =
    let middle = mark_first 124 (right ++ rest) (us ++ later) refl (second later rest nope spaced) in
    let whole = first (codes "|" ∷ (us ++ later)) (124 ∷ (right ++ rest)) refl middle in
    subst (λ (l : List ℕ). IsSpaced ((ts ++ codes "|" ∷ us) ++ later) l) (sym (append_assoc left (124 ∷ right) rest))
    (subst (λ (l : List (List ℕ)). IsSpaced l (left ++ (124 ∷ (right ++ rest)))) (sym (append_assoc ts (codes "|" ∷ us) later)) whole)

grouped_stands : (ts : List (List ℕ)) (text : List ℕ) → Stands ts text → Stands (codes "(" ∷ (ts ++ codes ")" ∷ [])) (40 ∷ (text ++ (41 ∷ [])))
grouped_stands ts text stands later rest nope spaced =
    let last = mark_first 41 rest later refl spaced in
    let whole = mark_first 40 (text ++ (41 ∷ rest)) (ts ++ (codes ")" ∷ later)) refl (stands (codes ")" ∷ later) (41 ∷ rest) refl last) in
    subst (λ (l : List ℕ). IsSpaced ((codes "(" ∷ (ts ++ codes ")" ∷ [])) ++ later) l) (ap (λ l. 40 ∷ l) (sym (append_assoc text (41 ∷ []) rest)))
    (subst (λ (l : List (List ℕ)). IsSpaced l (40 ∷ (text ++ (41 ∷ rest)))) (ap (λ l. codes "(" ∷ l) (sym (append_assoc ts (codes ")" ∷ []) later))) whole)

-- in parentheses or not
within_stands : (inside : Bool) (w : Written) (text whole : List ℕ) → Stands (tokens_of w) text → whole ≡ opening inside ++ (text ++ closing inside) → Stands (tokens_of (within inside w)) whole
within_stands true w text whole stands same = subst (λ (l : List ℕ). Stands (tokens_of (Group w)) l) (sym same) (grouped_stands (tokens_of w) text stands)
within_stands false w text whole stands same = subst (λ (l : List ℕ). Stands (tokens_of w) l) (sym (same ∙ append-nil text)) stands

module _ (labels : Labels) (are : AreLabels labels) where
  prints_word : (op : List ℕ) (kind : Kind) (inside : Bool) (a b : Written) (left right : List ℕ) →
      IsWord op → operator kind ≡ op → Stands (tokens_of a) left → Stands (tokens_of b) right →
      Stands (tokens_of (within inside (Pair kind a b))) (opening inside ++ left
      ++ (32 ∷ (op ++ 32 ∷ [])) ++ right ++ closing inside)
  prints_word op kind inside a b left right is same first second =
      within_stands inside (Pair kind a b) (left ++ (32 ∷ (op ++ (32 ∷ right)))) _
      (subst (λ (o : List ℕ). Stands (tokens_of a ++ o ∷ tokens_of b) (left ++ (32 ∷ (op ++ (32 ∷ right))))) (sym same) (word_between op (tokens_of a) (tokens_of b) left right is first second))
      (simp append_assoc)

  -- the tokens of what is printed stand in the text
  pub prints : (inside : Bool) (p : Principal) → HasSpelling p → Stands (tokens_of (printing labels inside p)) (text_within labels inside p)
  prints inside (Key k) fits = word_stands (codes "key:" ++ decimal k) (sort_word 107 (codes "ey:") k refl fits)
  prints inside (Name n) fits = word_stands (named (text_of labels.names n) (codes "name:") n) (named_word 110 (codes "ame:") labels.names n (text_of labels.names n) refl fits are.names.whole refl)
  prints inside (And a b) fits = prints_word (codes "and") kinds.And inside (printing labels true a) (printing labels true b) (text_within labels true a) (text_within labels true b) refl refl (prints true a fits.0) (prints true b fits.1)
  prints inside (Quoting a b) fits =
      within_stands inside (Pair kinds.Quoting (printing labels true a) (printing labels true b)) (text_within labels true a ++ (124 ∷ text_within labels true b)) _
      (bar_between (tokens_of (printing labels true a)) (tokens_of (printing labels true b)) (text_within labels true a) (text_within labels true b) (prints true a fits.0) (prints true b fits.1))
      (simp append_assoc)
  prints inside (InRole a r) fits =
      within_stands inside (RoleOf (printing labels true a) r (named (text_of labels.roles r) (codes "role:") r)) (text_within labels true a ++ (32 ∷ (codes "as" ++ (32 ∷ named (text_of labels.roles r) (codes "role:") r)))) _
      (word_between (codes "as") (tokens_of (printing labels true a))
      (named (text_of labels.roles r) (codes "role:") r ∷ []) (text_within labels true a)
      (named (text_of labels.roles r) (codes "role:") r) refl (prints true a fits.0)
      (word_stands (named (text_of labels.roles r) (codes "role:") r)
      (named_word 114 (codes "ole:") labels.roles r (text_of labels.roles r) refl fits.1
      are.roles.whole refl)))
      (simp append_assoc)
  prints inside (For a b) fits = prints_word (codes "for") kinds.For inside (printing labels true a) (printing labels true b) (text_within labels true a) (text_within labels true b) refl refl (prints true a fits.0) (prints true b fits.1)

  -- what is printed is a text of the principal
  pub printed_text : (p : Principal) → HasSpelling p → IsText labels p (text_within labels false p)
  printed_text p fits = record {
    written = printing labels false p;
    proper = proper-printing labels are false p fits;
    means = meaning-printing labels false p;
    spaced = subst (λ (l : List ℕ). IsSpaced (tokens_of (printing labels false p)) l) (append-nil (text_within labels false p)) (subst (λ (l : List (List ℕ)). IsSpaced l (text_within labels false p ++ [])) (append-nil (tokens_of (printing labels false p))) (prints false p fits [] [] tt refl));
  }
