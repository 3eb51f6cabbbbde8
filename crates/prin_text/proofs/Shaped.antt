-- Words that may stand somewhere, whatever they stand for.
use Rattle.std.proofs.Common.{◌≡◌, ◌⊎◌, ℕ, ◌^◌, Bool, true, false, cond, List, ◌∷◌, ◌++◌, length, drop, Option, Some, None, Result, Ok, Err, refl, sym, ◌∙◌, ap, subst, inl, inr, get_or, arith}
use Rattle.std.specs.Prelude.{codes, nat_lt, IsTrue}
use Rattle.std.specs.Fmt.{decimal}
use Rattle.std.proofs.lemmas.Bool.{false≢true}
use Rattle.prin_term.specs.Principal.{Principal, Key, Name, And, Quoting, InRole, For}
use Rattle.byte_fields.specs.Steps.{◌>>=◌}
use Rattle.prin_text.specs.declared.fault.TextCause.{TextCause}
use Rattle.prin_text.specs.declared.fault.TextCause.TheVariants.{Syntax, Number, UnknownName}
use Rattle.prin_text.specs.Labels.{Labels, Rows, is_label, number_of}
use Rattle.prin_text.specs.Meaning.{Written, Atom, Group, Pair, RoleOf, IsAtom, IsProper, IsNamed}
use Rattle.prin_text.specs.Refusing.{is_number, IsNumbered, IsOperandWord, IsRoleWord, IsShaped}
use Rattle.prin_text.specs.Words.{are_digits, begins, has_leading_zero, has_sign, known_as, number_in, operand_of, role_of, some_or_unknown, value_after}
use Rattle.prin_text.proofs.Decimals.{is_number-decimal}
use Rattle.prin_text.proofs.Spacing.{either}
use Rattle.prin_text.proofs.Wording.{begins_true, key_is_no_label, name_is_no_label, role_is_no_label}

-- what reading a number answers, which is one or not
pub data NumberAnswer (number : Bool) (r : Result ℕ TextCause) : Type 0 where
  NumberRead : (n : ℕ) → r ≡ Ok n → number ≡ true → NumberAnswer number r
  NumberRefused : r ≡ Err Number → number ≡ true → NumberAnswer number r
  NumberNone : r ≡ Err Syntax → number ≡ false → NumberAnswer number r

number_by : (n : ℕ) (sign others digits lead fits : Bool) → NumberAnswer (cond sign others digits) (cond sign (cond others (Err Number) (Err Syntax)) (cond digits (cond lead (Err Number) (cond fits (Ok n) (Err Number))) (Err Syntax)))
number_by n true true digits lead fits = NumberRefused refl refl
number_by n true false digits lead fits = NumberNone refl refl
number_by n false others true true fits = NumberRefused refl refl
number_by n false others true false true = NumberRead n refl refl
number_by n false others true false false = NumberRefused refl refl
number_by n false others false lead fits = NumberNone refl refl

number_answer : (ds : List ℕ) → NumberAnswer (is_number ds) (number_in ds)
unfolding number_in
number_answer ds = number_by (value_after 0 ds) (has_sign ds) (are_digits (drop 1 ds)) (are_digits ds) (has_leading_zero ds) (nat_lt (value_after 0 ds) (2 ^ 32))

-- What reading a word answers, which is a text or not, and may stand there or not.
pub data WordAnswer {A : Type 0} (Shaped : Type 0) (label : Bool) (r : Result A TextCause) : Type 0 where
  WordRead : (x : A) → r ≡ Ok x → Shaped → WordAnswer Shaped label r
  WordNumber : r ≡ Err Number → Shaped → label ≡ false → WordAnswer Shaped label r
  WordUnknown : r ≡ Err UnknownName → Shaped → label ≡ true → WordAnswer Shaped label r
  WordNone : r ≡ Err Syntax → (Shaped → ⊥) → WordAnswer Shaped label r

-- a number after a sort
after_sort : {A : Type 0} (make : ℕ → Result A TextCause) (Shaped : Type 0) (label number : Bool) (r : Result ℕ TextCause) → ((n : ℕ) → (x : A) × (make n ≡ Ok x)) → label ≡ false → (number ≡ true → Shaped) → (number ≡ false → Shaped → ⊥) → NumberAnswer number r → WordAnswer Shaped label (r >>= make)
after_sort make Shaped label number r makes no_label numbered unnumbered (NumberRead n is num) = let x = makes n in WordRead x.0 (ap (λ q. q >>= make) is ∙ x.1) (numbered num)
after_sort make Shaped label number r makes no_label numbered unnumbered (NumberRefused is num) = WordNumber (ap (λ q. q >>= make) is) (numbered num) no_label
after_sort make Shaped label number r makes no_label numbered unnumbered (NumberNone is num) = WordNone (ap (λ q. q >>= make) is) (unnumbered num)

-- a word that may be a text
known_answer : {A : Type 0} (make : ℕ → Result A TextCause) (Shaped : Type 0) (label : Bool) (found : Option ℕ) → ((n : ℕ) → (x : A) × (make n ≡ Ok x)) → (label ≡ true → Shaped) → (label ≡ false → Shaped → ⊥) → WordAnswer Shaped label (cond label (some_or_unknown found) (Err Syntax) >>= make)
known_answer make Shaped true (Some n) makes is nope = let x = makes n in WordRead x.0 x.1 (is refl)
known_answer make Shaped true None makes is nope = WordUnknown refl (is refl) refl
known_answer make Shaped false found makes is nope = WordNone refl (nope refl)

-- the digits after one sort are one list
digits_same : (sort ds es : List ℕ) (n : ℕ) (word : List ℕ) → word ≡ sort ++ ds → word ≡ sort ++ es → drop (length sort) (sort ++ ds) ≡ ds → drop (length sort) (sort ++ es) ≡ es → ds ≡ es
digits_same sort ds es n word first second x y = sym x ∙ ap (drop (length sort)) (sym first ∙ second) ∙ y

clash : (b : Bool) → b ≡ true → b ≡ false → ⊥
clash b x y = false≢true (sym y ∙ x)

no_number : (sort : List ℕ) (word ds : List ℕ) → ((es : List ℕ) → drop (length sort) (sort ++ es) ≡ es) → word ≡ sort ++ ds → is_number ds ≡ false → IsNumbered sort word → ⊥
no_number sort word ds drops is nope (es, e, num) = clash (is_number ds) (ap is_number (digits_same sort ds es 0 word is e (drops ds) (drops es)) ∙ num) nope

starts_apart : (word xs ys : List ℕ) (a b : ℕ) → (a ≡ b → ⊥) → word ≡ a ∷ xs → word ≡ b ∷ ys → ⊥
starts_apart word xs ys a b apart first second = apart (ap (λ l. get_or l 0 0) (sym first ∙ second))

module _ (word : List ℕ) where
  key_shape : (ds : List ℕ) → word ≡ codes "key:" ++ ds → is_number ds ≡ false → IsOperandWord word → ⊥
  key_shape ds is nope (inl label) = clash (is_label word) label (ap is_label is ∙ key_is_no_label ds)
  key_shape ds is nope (inr (inl numbered)) = no_number (codes "key:") word ds (λ es. refl) is nope numbered
  key_shape ds is nope (inr (inr numbered)) = starts_apart word _ _ 107 110 (λ e. omega (arith, e)) is numbered.1

  name_shape : (ds : List ℕ) → word ≡ codes "name:" ++ ds → is_number ds ≡ false → IsOperandWord word → ⊥
  name_shape ds is nope (inl label) = clash (is_label word) label (ap is_label is ∙ name_is_no_label ds)
  name_shape ds is nope (inr (inl numbered)) = starts_apart word _ _ 110 107 (λ e. omega (arith, e)) is numbered.1
  name_shape ds is nope (inr (inr numbered)) = no_number (codes "name:") word ds (λ es. refl) is nope numbered

  role_shape : (ds : List ℕ) → word ≡ codes "role:" ++ ds → is_number ds ≡ false → IsRoleWord word → ⊥
  role_shape ds is nope (inl label) = clash (is_label word) label (ap is_label is ∙ role_is_no_label ds)
  role_shape ds is nope (inr numbered) = no_number (codes "role:") word ds (λ es. refl) is nope numbered

  text_shape : begins (codes "key:") word ≡ false → begins (codes "name:") word ≡ false → is_label word ≡ false → IsOperandWord word → ⊥
  text_shape no_key no_name no_label (inl label) = clash (is_label word) label no_label
  text_shape no_key no_name no_label (inr (inl numbered)) = clash (begins (codes "key:") word) (ap (begins (codes "key:")) numbered.1) no_key
  text_shape no_key no_name no_label (inr (inr numbered)) = clash (begins (codes "name:") word) (ap (begins (codes "name:")) numbered.1) no_name

  role_text_shape : begins (codes "role:") word ≡ false → is_label word ≡ false → IsRoleWord word → ⊥
  role_text_shape no_role no_label (inl label) = clash (is_label word) label no_label
  role_text_shape no_role no_label (inr numbered) = clash (begins (codes "role:") word) (ap (begins (codes "role:")) numbered.1) no_role

  pub operand_answer : (names : Rows) → WordAnswer (IsOperandWord word) (is_label word) (operand_of names word)
  unfolding operand_of
  operand_answer names = elim (either (begins (codes "key:") word)) [
    | inl key ↦
        let is = begins_true (codes "key:") word key in
        rw key (after_sort (λ n. Ok (Key n)) (IsOperandWord word) (is_label word)
        (is_number (drop 4 word)) (number_in (drop 4 word)) (λ n. (Key n, refl))
        (ap is_label is ∙ key_is_no_label (drop 4 word))
        (λ num. inr (inl (drop 4 word, is, num))) (key_shape (drop 4 word) is)
        (number_answer (drop 4 word)))
    | inr no_key ↦ elim (either (begins (codes "name:") word)) [
      | inl name ↦
          let is = begins_true (codes "name:") word name in
          rw (no_key, name) (after_sort (λ n. Ok (Name n)) (IsOperandWord word) (is_label word)
          (is_number (drop 5 word)) (number_in (drop 5 word)) (λ n. (Name n, refl))
          (ap is_label is ∙ name_is_no_label (drop 5 word))
          (λ num. inr (inr (drop 5 word, is, num))) (name_shape (drop 5 word) is)
          (number_answer (drop 5 word)))
      | inr no_name ↦ rw (no_key, no_name) (known_answer (λ n. Ok (Name n)) (IsOperandWord word) (is_label word) (number_of names word) (λ n. (Name n, refl)) (λ label. inl label) (text_shape no_key no_name))
    ]
  ]

  same_or : (r : Result ℕ TextCause) → (r >>= λ n. Ok n) ≡ r
  same_or (Ok n) = refl
  same_or (Err e) = refl

  pub role_answer : (roles : Rows) → WordAnswer (IsRoleWord word) (is_label word) (role_of roles word)
  unfolding role_of
  role_answer roles = elim (either (begins (codes "role:") word)) [
    | inl role ↦
        let is = begins_true (codes "role:") word role in
        rw role (subst (λ (r : Result ℕ TextCause). WordAnswer (IsRoleWord word) (is_label word) r)
        (same_or (number_in (drop 5 word)))
        (after_sort (λ n. Ok n) (IsRoleWord word) (is_label word) (is_number (drop 5 word))
        (number_in (drop 5 word)) (λ n. (n, refl))
        (ap is_label is ∙ role_is_no_label (drop 5 word)) (λ num. inr (drop 5 word, is, num))
        (role_shape (drop 5 word) is) (number_answer (drop 5 word))))
    | inr no_role ↦ rw no_role (subst (λ (r : Result ℕ TextCause). WordAnswer (IsRoleWord word) (is_label word) r) (same_or (known_as roles word)) (known_answer (λ n. Ok n) (IsRoleWord word) (is_label word) (number_of roles word) (λ n. (n, refl)) (λ label. inl label) (role_text_shape no_role)))
  ]

-- what stands for something may stand there
shaped_names : (rows : Rows) (sort : List ℕ) (n : ℕ) (word : List ℕ) → IsNamed rows sort n word → IsTrue (is_label word) ⊎ IsNumbered sort word
shaped_names rows sort n word (inl is) = inr (decimal n, is.1, is_number-decimal n is.0)
shaped_names rows sort n word (inr is) = inl is.0

shaped_atom : (labels : Labels) (p : Principal) (word : List ℕ) → IsAtom labels p word → IsOperandWord word
shaped_atom labels (Key k) word is = inr (inl (decimal k, is.1, is_number-decimal k is.0))
shaped_atom labels (Name n) word is = elim (shaped_names labels.names (codes "name:") n word is) [ inl label ↦ inl label | inr numbered ↦ inr (inr numbered) ]
shaped_atom labels (And a b) word is = absurd is
shaped_atom labels (Quoting a b) word is = absurd is
shaped_atom labels (InRole a r) word is = absurd is
shaped_atom labels (For a b) word is = absurd is

pub shaped : (labels : Labels) (w : Written) → IsProper labels w → IsShaped w
shaped labels (Atom p word) proper = shaped_atom labels p word proper
shaped labels (Group w) proper = shaped labels w proper
shaped labels (Pair kind a b) proper = (proper.0, (shaped labels a proper.1.0, shaped labels b proper.1.1))
shaped labels (RoleOf a r word) proper = (proper.0, shaped labels a proper.1, shaped_names labels.roles (codes "role:") r word proper.2)
