-- What is written but for what its words stand for is read, or refused for a word.
use Rattle.std.proofs.Common.{◌≡◌, ◌⊎◌, ℕ, false, List, [], ◌∷◌, ◌++◌, Result, Ok, Err, refl, sym, ◌∙◌, ap, subst, inl, inr, append_assoc}
use Rattle.std.specs.Prelude.{bytes_eq, codes}
use Rattle.prin_term.specs.Principal.{Principal}
use Rattle.prin_term.specs.Kind.{Kind}
use Rattle.prin_text.specs.declared.fault.TextCause.{TextCause}
use Rattle.prin_text.specs.declared.fault.TextCause.TheVariants.{Syntax, Number, UnknownName}
use Rattle.prin_text.specs.declared.fault.TextFault.TheVariants.{Bad}
use Rattle.prin_text.specs.Labels.{Labels, is_label}
use Rattle.prin_text.specs.Meaning.{Written, Atom, Group, Pair, RoleOf, operator, tokens_of, IsOperand}
use Rattle.prin_text.specs.Pieces.{Piece, Built, joined, in_role}
use Rattle.prin_text.specs.Reading.{Pending, First, Second, Stage, Operand, One, Role, Whole, filled, at_operand, at_role, step, piece_at}
use Rattle.prin_text.specs.Refusing.{IsOperandWord, IsRoleWord, IsShaped}
use Rattle.prin_text.specs.Tokens.{Placed}
use Rattle.prin_text.specs.Words.{operand_of, role_of}
use Rattle.prin_text.proofs.Again.{words, splits, standing, none_placed, goes_on, opens, closes, joins, takes_role, operator_goes_on, fills, no_mark, no_semicolon}
use Rattle.prin_text.proofs.Shaped.{WordAnswer, WordRead, WordNumber, WordUnknown, WordNone, operand_answer, role_answer}
use Rattle.prin_text.proofs.Texts.{texts_tell}

-- faults that are one have one cause
err_cause : (c d : TextCause) → (let x : Result Principal TextCause = Err c in x) ≡ Err d → c ≡ d
err_cause c d e = cc

err_role : (c d : TextCause) → (let x : Result ℕ TextCause = Err c in x) ≡ Err d → c ≡ d
err_role c d e = cc

module _ (labels : Labels) (end : ℕ) where
  -- reading goes on behind the tokens, or is refused for a word
  pub data Goes (tokens : List Placed) (stack : List Pending) (place : Stage) (rest : List Placed) (after : Piece → Stage) : Type 0 where
    Passed : (pc : Piece) → piece_at labels end tokens stack place ≡ piece_at labels end rest stack (after pc) → Goes tokens stack place rest after
    Failed : (at : ℕ) (cause : TextCause) → piece_at labels end tokens stack place ≡ Err (Bad at cause) → (cause ≡ Syntax → ⊥) → Goes tokens stack place rest after

  -- reading comes to where it goes on
  after_same : (ts us rest : List Placed) (stack : List Pending) (p q : Stage) (after : Piece → Stage) → piece_at labels end ts stack p ≡ piece_at labels end us stack q → Goes us stack q rest after → Goes ts stack p rest after
  after_same ts us rest stack p q after come (Passed pc e) = Passed pc (come ∙ e)
  after_same ts us rest stack p q after come (Failed at cause e other) = Failed at cause (come ∙ e) other

  -- a word that is not read is refused for what it is
  pub refused_word : (at : ℕ) (word : List ℕ) (rest : List Placed) (stack : List Pending) (place : Stage) (cause : TextCause) → bytes_eq word (codes ";") ≡ false → step labels at word stack place ≡ Err (Bad at cause) → piece_at labels end ((at, word) ∷ rest) stack place ≡ Err (Bad at cause)
  unfolding piece_at
  refused_word at word rest stack place cause other e = rw (other, e) refl

  number_no_syntax : Number ≡ Syntax → ⊥
  number_no_syntax e = cc

  unknown_no_syntax : UnknownName ≡ Syntax → ⊥
  unknown_no_syntax e = cc

  -- a mark is no word that may stand anywhere
  mark_answer : (b : ℕ) → (b ≡ 40) ⊎ (b ≡ 59) → operand_of labels.names (b ∷ []) ≡ Err Syntax
  unfolding operand_of is_label
  mark_answer b (inl is) = rw is refl
  mark_answer b (inr is) = rw is refl

  semicolon_answer : role_of labels.roles (codes ";") ≡ Err Syntax
  unfolding role_of is_label
  semicolon_answer = refl

  word_no_mark : (word : List ℕ) (b : ℕ) → (b ≡ 40) ⊎ (b ≡ 59) → (operand_of labels.names word ≡ Err Syntax → ⊥) → bytes_eq word (b ∷ []) ≡ false
  word_no_mark word b is nope = elim (texts_tell word (b ∷ [])) [
    | inl same ↦ absurd (nope (ap (λ w. operand_of labels.names w) same.1 ∙ mark_answer b is))
    | inr other ↦ other.0
  ]

  role_no_semicolon : (word : List ℕ) → (role_of labels.roles word ≡ Err Syntax → ⊥) → bytes_eq word (codes ";") ≡ false
  role_no_semicolon word nope = elim (texts_tell word (codes ";")) [
    | inl same ↦ absurd (nope (ap (λ w. role_of labels.roles w) same.1 ∙ semicolon_answer))
    | inr other ↦ other.0
  ]

  operand_refused : (at : ℕ) (word : List ℕ) (stack : List Pending) (due : Pending) (cause : TextCause) → operand_of labels.names word ≡ Err cause → (cause ≡ Syntax → ⊥) → step labels at word stack (Operand due) ≡ Err (Bad at cause)
  unfolding at_operand
  operand_refused at word stack due cause e other = rw (word_no_mark word 40 (inl refl) (λ f. other (err_cause cause Syntax (sym e ∙ f))), e) refl

  pub role_refused : (at : ℕ) (word : List ℕ) (stack : List Pending) (pc : Piece) (cause : TextCause) → role_of labels.roles word ≡ Err cause → step labels at word stack (Role pc) ≡ Err (Bad at cause)
  unfolding at_role
  role_refused at word stack pc cause e = rw e refl

  pub role_taken : (at : ℕ) (word : List ℕ) (stack : List Pending) (pc : Piece) (r : ℕ) → role_of labels.roles word ≡ Ok r → step labels at word stack (Role pc) ≡ Ok (stack, Whole (in_role pc r))
  unfolding at_role
  role_taken at word stack pc r e = rw e refl

  word_goes : (at : ℕ) (word : List ℕ) (rest : List Placed) (stack : List Pending) (due : Pending) → WordAnswer (IsOperandWord word) (is_label word) (operand_of labels.names word) → IsOperandWord word → Goes ((at, word) ∷ rest) stack (Operand due) rest (filled due)
  word_goes at word rest stack due (WordRead p e is) shape = Passed (Built p 1) (goes_on labels end at word rest stack (Operand due) (stack, filled due (Built p 1)) (no_mark labels end word p 59 (inr refl) e) (fills labels end at word p stack due e))
  word_goes at word rest stack due (WordNumber e is label) shape =
      Failed at Number (refused_word at word rest stack (Operand due) Number
      (word_no_mark word 59 (inr refl)
      (λ f. number_no_syntax (err_cause Number Syntax (sym e ∙ f))))
      (operand_refused at word stack due Number e number_no_syntax)) number_no_syntax
  word_goes at word rest stack due (WordUnknown e is label) shape =
      Failed at UnknownName (refused_word at word rest stack (Operand due) UnknownName
      (word_no_mark word 59 (inr refl)
      (λ f. unknown_no_syntax (err_cause UnknownName Syntax (sym e ∙ f))))
      (operand_refused at word stack due UnknownName e unknown_no_syntax)) unknown_no_syntax
  word_goes at word rest stack due (WordNone e nope) shape = absurd (nope shape)

  role_goes : (at : ℕ) (word : List ℕ) (rest : List Placed) (stack : List Pending) (pc : Piece) → WordAnswer (IsRoleWord word) (is_label word) (role_of labels.roles word) → IsRoleWord word → Goes ((at, word) ∷ rest) stack (Role pc) rest Whole
  role_goes at word rest stack pc (WordRead r e is) shape = Passed (in_role pc r) (goes_on labels end at word rest stack (Role pc) (stack, Whole (in_role pc r)) (no_semicolon labels end word r e) (role_taken at word stack pc r e))
  role_goes at word rest stack pc (WordNumber e is label) shape = Failed at Number (refused_word at word rest stack (Role pc) Number (role_no_semicolon word (λ f. number_no_syntax (err_role Number Syntax (sym e ∙ f)))) (role_refused at word stack pc Number e)) number_no_syntax
  role_goes at word rest stack pc (WordUnknown e is label) shape = Failed at UnknownName (refused_word at word rest stack (Role pc) UnknownName (role_no_semicolon word (λ f. unknown_no_syntax (err_role UnknownName Syntax (sym e ∙ f)))) (role_refused at word stack pc UnknownName e)) unknown_no_syntax
  role_goes at word rest stack pc (WordNone e nope) shape = absurd (nope shape)

  abbrev pub GoesAs : Written → Type 0
  GoesAs w = (IsOperand w → (ts rest : List Placed) (stack : List Pending) (due : Pending) → words ts ≡ tokens_of w → Goes (ts ++ rest) stack (Operand due) rest (filled due))
      × ((ts rest : List Placed) (stack : List Pending) → words ts ≡ tokens_of w → Goes (ts ++ rest) stack (Operand First) rest (standing w))

  atom_goes : (word : List ℕ) → IsOperandWord word → (ts rest : List Placed) (stack : List Pending) (due : Pending) → words ts ≡ word ∷ [] → Goes (ts ++ rest) stack (Operand due) rest (filled due)
  atom_goes word shape ts rest stack due is =
      let s = splits ts [] word [] is in
      let front = none_placed s.before s.front_words in
      let back = none_placed s.after s.back_words in
      let alone : ts ≡ (s.at, word) ∷ [] = s.whole ∙ (λ i. front i ++ (s.at, word) ∷ back i) in
      subst (λ (l : List Placed). Goes (l ++ rest) stack (Operand due) rest (filled due)) (sym alone) (word_goes s.at word rest stack due (operand_answer word labels.names) shape)

  -- what stands in parentheses is ended
  group_ends : (w : Written) (at : ℕ) (us rest : List Placed) (stack : List Pending)
      (due : Pending) → Goes (us ++ (at, codes ")") ∷ rest) (due ∷ stack) (Operand First)
      ((at, codes ")") ∷ rest) (standing w) → (ts : List Placed) →
      piece_at labels end ts stack (Operand due)
      ≡ piece_at labels end (us ++ (at, codes ")") ∷ rest) (due ∷ stack) (Operand First) →
      Goes ts stack (Operand due) rest (filled due)
  group_ends w at us rest stack due (Passed pc e) ts come = Passed pc (come ∙ e ∙ goes_on labels end at (codes ")") rest (due ∷ stack) (standing w pc) (stack, filled due pc) refl (closes labels end w at stack due pc))
  group_ends w at us rest stack due (Failed o cause e other) ts come = Failed o cause (come ∙ e) other

  group_goes : (w : Written) → GoesAs w → (ts rest : List Placed) (stack : List Pending) (due : Pending) → words ts ≡ tokens_of (Group w) → Goes (ts ++ rest) stack (Operand due) rest (filled due)
  group_goes w goes ts rest stack due is =
      let s = splits ts [] (codes "(") (tokens_of w ++ codes ")" ∷ []) is in
      let front = none_placed s.before s.front_words in
      let u = splits s.after (tokens_of w) (codes ")") [] s.back_words in
      let back = none_placed u.after u.back_words in
      let closed : s.after ≡ u.before ++ (u.at, codes ")") ∷ [] = u.whole ∙ ap (λ l. u.before ++ (u.at, codes ")") ∷ l) back in
      let whole : ts ++ rest ≡ (s.at, codes "(") ∷ (u.before ++ (u.at, codes ")") ∷ rest) = ap (λ l. l ++ rest) (s.whole ∙ (λ i. front i ++ (s.at, codes "(") ∷ closed i)) ∙ ap (λ l. (s.at, codes "(") ∷ l) (append_assoc u.before ((u.at, codes ")") ∷ []) rest) in
      group_ends w u.at u.before rest stack due (goes.1 u.before ((u.at, codes ")") ∷ rest) (due ∷ stack) u.front_words) (ts ++ rest)
      (ap (λ l. piece_at labels end l stack (Operand due)) whole ∙ goes_on labels end s.at (codes "(") (u.before ++ (u.at, codes ")") ∷ rest) stack (Operand due) (due ∷ stack, Operand First) refl (opens labels end s.at stack due))

  -- the second operand goes on as the compound
  as_whole : (kind : Kind) (left : Piece) (ts us rest : List Placed) (stack : List Pending)
      (p : Stage) → piece_at labels end ts stack p
      ≡ piece_at labels end us stack (Operand (Second left kind)) →
      Goes us stack (Operand (Second left kind)) rest (filled (Second left kind)) →
      Goes ts stack p rest Whole
  as_whole kind left ts us rest stack p come (Passed pc e) = Passed (joined kind left pc) (come ∙ e)
  as_whole kind left ts us rest stack p come (Failed at cause e other) = Failed at cause (come ∙ e) other

  after_first : (kind : Kind) (b : Written) → IsOperand b → GoesAs b →
      (at : ℕ) (us rest : List Placed) (stack : List Pending) → words us ≡ tokens_of b →
      (ts vs : List Placed) → piece_at labels end ts stack (Operand First)
      ≡ piece_at labels end vs stack (Operand First) →
      Goes vs stack (Operand First) ((at, operator kind) ∷ (us ++ rest)) (filled First) →
      Goes ts stack (Operand First) rest Whole
  after_first kind b is_b goes_b at us rest stack is ts vs come (Passed left e) =
      as_whole kind left ts (us ++ rest) rest stack (Operand First)
      (come ∙ e ∙ goes_on labels end at (operator kind) (us ++ rest) stack (One left) (stack, Operand (Second left kind)) (operator_goes_on labels end kind) (joins labels end kind at stack left))
      (goes_b.0 is_b us rest stack (Second left kind) is)
  after_first kind b is_b goes_b at us rest stack is ts vs come (Failed o cause e other) = Failed o cause (come ∙ e) other

  pair_goes : (kind : Kind) (a b : Written) → IsOperand a → IsOperand b → GoesAs a → GoesAs b → (ts rest : List Placed) (stack : List Pending) → words ts ≡ tokens_of (Pair kind a b) → Goes (ts ++ rest) stack (Operand First) rest Whole
  pair_goes kind a b is_a is_b goes_a goes_b ts rest stack is =
      let s = splits ts (tokens_of a) (operator kind) (tokens_of b) is in
      let whole : ts ++ rest ≡ s.before ++ ((s.at, operator kind) ∷ (s.after ++ rest)) = ap (λ l. l ++ rest) s.whole ∙ append_assoc s.before ((s.at, operator kind) ∷ s.after) rest in
      after_first kind b is_b goes_b s.at s.after rest stack s.back_words (ts ++ rest) (s.before
      ++ ((s.at, operator kind) ∷ (s.after ++ rest)))
      (ap (λ l. piece_at labels end l stack (Operand First)) whole)
      (goes_a.0 is_a s.before ((s.at, operator kind) ∷ (s.after ++ rest)) stack First
      s.front_words)

  after_base : (word : List ℕ) → IsRoleWord word →
      (at next : ℕ) (rest : List Placed) (stack : List Pending) (ts vs : List Placed) →
      piece_at labels end ts stack (Operand First) ≡ piece_at labels end vs stack (Operand First) →
      Goes vs stack (Operand First) ((at, codes "as") ∷ ((next, word) ∷ rest)) (filled First) →
      Goes ts stack (Operand First) rest Whole
  after_base word shape at next rest stack ts vs come (Passed left e) =
      after_same ts ((next, word) ∷ rest) rest stack (Operand First) (Role left) Whole
      (come ∙ e ∙ goes_on labels end at (codes "as") ((next, word) ∷ rest) stack (One left) (stack, Role left) refl (takes_role labels end at stack left))
      (role_goes next word rest stack left (role_answer word labels.roles) shape)
  after_base word shape at next rest stack ts vs come (Failed o cause e other) = Failed o cause (come ∙ e) other

  role_goes_on : (a : Written) (r : ℕ) (word : List ℕ) → IsOperand a → IsRoleWord word → GoesAs a → (ts rest : List Placed) (stack : List Pending) → words ts ≡ tokens_of (RoleOf a r word) → Goes (ts ++ rest) stack (Operand First) rest Whole
  role_goes_on a r word is_a shape goes_a ts rest stack is =
      let s = splits ts (tokens_of a) (codes "as") (word ∷ []) is in
      let u = splits s.after [] word [] s.back_words in
      let front = none_placed u.before u.front_words in
      let back = none_placed u.after u.back_words in
      let last : s.after ≡ (u.at, word) ∷ [] = u.whole ∙ (λ i. front i ++ (u.at, word) ∷ back i) in
      let whole : ts ++ rest ≡ s.before ++ ((s.at, codes "as") ∷ ((u.at, word) ∷ rest)) = ap (λ l. l ++ rest) (s.whole ∙ ap (λ l. s.before ++ (s.at, codes "as") ∷ l) last) ∙ append_assoc s.before ((s.at, codes "as") ∷ (u.at, word) ∷ []) rest in
      after_base word shape s.at u.at rest stack (ts ++ rest) (s.before ++ ((s.at, codes "as") ∷ ((u.at, word) ∷ rest))) (ap (λ l. piece_at labels end l stack (Operand First)) whole) (goes_a.0 is_a s.before ((s.at, codes "as") ∷ ((u.at, word) ∷ rest)) stack First s.front_words)

  -- everything that is shaped so
  pub goes : (w : Written) → IsShaped w → GoesAs w
  goes (Atom p word) shape = (λ _. atom_goes word shape, λ ts rest stack is. atom_goes word shape ts rest stack First is)
  goes (Group w) shape =
      let below = goes w shape in
      (λ _. group_goes w below, λ ts rest stack is. group_goes w below ts rest stack First is)
  goes (Pair kind a b) shape = (λ none. absurd none, pair_goes kind a b shape.0.0 shape.0.1 (goes a shape.1.0) (goes b shape.1.1))
  goes (RoleOf a r word) shape = (λ none. absurd none, role_goes_on a r word shape.0 shape.2 (goes a shape.1))
