-- Words, and what they stand for.
use Rattle.std.proofs.Common.{◌≡◌, ◌≢◌, ◌⊎◌, ℕ, ◌^◌, ◌<◌, Bool, true, false, cond, ◌&&◌, List, [], ◌∷◌, ◌++◌, length, take, drop, Option, Some, None, Ok, Err, refl, sym, ◌∙◌, ap, subst, inl, inr}
use Rattle.std.specs.Prelude.{codes, IsTrue}
use Rattle.std.specs.Fmt.{decimal}
use Rattle.std.proofs.lemmas.Bool.{false≢true}
use Rattle.std.proofs.lemmas.List.{take-append-drop}
use Rattle.prin_term.specs.Principal.{Principal, Key, Name, And, Quoting, InRole, For}
use Rattle.byte_fields.specs.Steps.{◌>>=◌}
use Rattle.byte_fields.proofs.Results.{bind_ok, ok_is}
use Rattle.prin_text.specs.declared.fault.TextCause.{TextCause}
use Rattle.prin_text.specs.declared.fault.TextCause.TheVariants.{Syntax}
use Rattle.prin_text.specs.Labels.{Labels, Rows, is_label, number_of}
use Rattle.prin_text.specs.Words.{begins, known_as, some_or_unknown, number_in, operand_of, role_of}
use Rattle.prin_text.specs.Meaning.{IsAtom, IsNamed}
use Rattle.prin_text.proofs.Decimals.{number_in-decimal, number_in-ok}
use Rattle.prin_text.proofs.Texts.{texts_tell}

-- what stands after a front that the word begins with
pub begins_true : (front word : List ℕ) → begins front word ≡ true → word ≡ front ++ drop (length front) word
begins_true front word is = elim (texts_tell front (take (length front) word)) [
  | inl same ↦ sym (take-append-drop (length front) word) ∙ ap (λ x. x ++ drop (length front) word) (sym same.1)
  | inr other ↦ absurd (false≢true (sym other.0 ∙ is))
]

known_by : (labels : Bool) (found : Option ℕ) (n : ℕ) → cond labels (some_or_unknown found) (Err Syntax) ≡ Ok n → IsTrue labels × (found ≡ Some n)
known_by true None n e = absurd cc
known_by true (Some m) n e = (refl, cc)
known_by false found n e = absurd cc

-- a word that is known is a text that has the number
known_as-ok : (rows : Rows) (word : List ℕ) (n : ℕ) → known_as rows word ≡ Ok n → IsTrue (is_label word) × (number_of rows word ≡ Some n)
known_as-ok rows word n e = known_by (is_label word) (number_of rows word) n e

known_as-known : (rows : Rows) (word : List ℕ) (n : ℕ) → IsTrue (is_label word) → number_of rows word ≡ Some n → known_as rows word ≡ Ok n
known_as-known rows word n is found = rw (is, found) refl

and_false : (b c : Bool) → (b && false && c) ≡ false
and_false true c = refl
and_false false c = refl

-- no text begins with a sort, since a colon is no byte of a text
pub key_is_no_label : (rest : List ℕ) → is_label (codes "key:" ++ rest) ≡ false
unfolding is_label
key_is_no_label rest = and_false _ _

pub name_is_no_label : (rest : List ℕ) → is_label (codes "name:" ++ rest) ≡ false
unfolding is_label
name_is_no_label rest = and_false _ _

pub role_is_no_label : (rest : List ℕ) → is_label (codes "role:" ++ rest) ≡ false
unfolding is_label
role_is_no_label rest = and_false _ _

not_true : (b : Bool) → (b ≡ true → ⊥) → b ≡ false
not_true true nope = absurd (nope refl)
not_true false nope = refl

-- so a text does not begin with this front
no_front : (front word : List ℕ) → ((rest : List ℕ) → is_label (front ++ rest) ≡ false) → IsTrue (is_label word) → begins front word ≡ false
no_front front word none is = not_true (begins front word) (λ b. false≢true (sym (none (drop (length front) word)) ∙ ap is_label (sym (begins_true front word b)) ∙ is))

module _ (names : Rows) where
  key_is_read : (k : ℕ) → k < 2 ^ 32 → operand_of names (codes "key:" ++ decimal k) ≡ Ok (Key k)
  unfolding operand_of
  key_is_read k lt = rw (number_in-decimal k lt) refl

  name_is_read : (n : ℕ) → n < 2 ^ 32 → operand_of names (codes "name:" ++ decimal n) ≡ Ok (Name n)
  unfolding operand_of
  name_is_read n lt = rw (number_in-decimal n lt) refl

  text_is_read : (n : ℕ) (word : List ℕ) → IsTrue (is_label word) → number_of names word ≡ Some n → operand_of names word ≡ Ok (Name n)
  unfolding operand_of
  text_is_read n word is found = rw (no_front (codes "key:") word key_is_no_label is, no_front (codes "name:") word name_is_no_label is, known_as-known names word n is found) refl

  -- a word that stands for an atom is read as that
  pub atom_is_read : (labels : Labels) → names ≡ labels.names → (p : Principal) (word : List ℕ) → IsAtom labels p word → operand_of names word ≡ Ok p
  atom_is_read labels same (Key k) word is = rw is.1 (key_is_read k is.0)
  atom_is_read labels same (Name n) word (inl is) = rw is.1 (name_is_read n is.0)
  atom_is_read labels same (Name n) word (inr is) = text_is_read n word is.0 (ap (λ (r : Rows). number_of r word) same ∙ is.1)
  atom_is_read labels same (And a b) word is = absurd is
  atom_is_read labels same (Quoting a b) word is = absurd is
  atom_is_read labels same (InRole a r) word is = absurd is
  atom_is_read labels same (For a b) word is = absurd is

-- what was read as a key, a name or a text
operand_by : (labels : Labels) (p : Principal) (word : List ℕ) (key name : Bool) →
    key ≡ begins (codes "key:") word → name ≡ begins (codes "name:") word →
    (cond key (number_in (drop 4 word) >>= λ n. Ok (Key n))
    (cond name (number_in (drop 5 word) >>= λ n. Ok (Name n))
    (known_as labels.names word >>= λ n. Ok (Name n)))) ≡ Ok p → IsAtom labels p word
operand_by labels p word true name is_key is_name e =
    let read = bind_ok _ _ p e in
    let value = number_in-ok (drop 4 word) read.0 read.1 in
    subst (λ (q : Principal). IsAtom labels q word) (ok_is TextCause (Key read.0) p read.2)
    (value.0, begins_true (codes "key:") word (sym is_key) ∙ ap (λ ds. codes "key:" ++ ds) value.1)
operand_by labels p word false true is_key is_name e =
    let read = bind_ok _ _ p e in
    let value = number_in-ok (drop 5 word) read.0 read.1 in
    subst (λ (q : Principal). IsAtom labels q word) (ok_is TextCause (Name read.0) p read.2)
    (inl (value.0, begins_true (codes "name:") word (sym is_name) ∙ ap (λ ds. codes "name:" ++ ds) value.1))
operand_by labels p word false false is_key is_name e =
    let read = bind_ok _ _ p e in
    subst (λ (q : Principal). IsAtom labels q word) (ok_is TextCause (Name read.0) p read.2)
    (inr (known_as-ok labels.names word read.0 read.1))

-- a word that is read stands for what it is read as
pub operand_of-ok : (labels : Labels) (p : Principal) (word : List ℕ) → operand_of labels.names word ≡ Ok p → IsAtom labels p word
unfolding operand_of
operand_of-ok labels p word e = operand_by labels p word (begins (codes "key:") word) (begins (codes "name:") word) refl refl e

-- the same of a role
role_by : (rows : Rows) (r : ℕ) (word : List ℕ) (role : Bool) → role ≡ begins (codes "role:") word → (cond role (number_in (drop 5 word)) (known_as rows word)) ≡ Ok r → IsNamed rows (codes "role:") r word
role_by rows r word true is_role e =
    let value = number_in-ok (drop 5 word) r e in
    inl (value.0, begins_true (codes "role:") word (sym is_role) ∙ ap (λ ds. codes "role:" ++ ds) value.1)
role_by rows r word false is_role e = inr (known_as-ok rows word r e)

pub role_of-ok : (rows : Rows) (r : ℕ) (word : List ℕ) → role_of rows word ≡ Ok r → IsNamed rows (codes "role:") r word
unfolding role_of
role_of-ok rows r word e = role_by rows r word (begins (codes "role:") word) refl e

pub role_is_read : (rows : Rows) (r : ℕ) (word : List ℕ) → IsNamed rows (codes "role:") r word → role_of rows word ≡ Ok r
unfolding role_of
role_is_read rows r word (inl is) = rw is.1 (number_in-decimal r is.0)
role_is_read rows r word (inr is) = rw (no_front (codes "role:") word role_is_no_label is.0) (known_as-known rows word r is.0 is.1)

-- a mark stands for nothing
pub mark_is_no_operand : (names : Rows) (p : Principal) (b : ℕ) → (b ≡ 40) ⊎ (b ≡ 59) → operand_of names (b ∷ []) ≢ Ok p
unfolding operand_of is_label
mark_is_no_operand names p b (inl is) e = let f = rw is at e in absurd cc
mark_is_no_operand names p b (inr is) e = let f = rw is at e in absurd cc

pub semicolon_is_no_role : (rows : Rows) (r : ℕ) → role_of rows (59 ∷ []) ≢ Ok r
unfolding role_of is_label
semicolon_is_no_role rows r e = absurd cc
