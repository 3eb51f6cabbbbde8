-- What is written is read token by token.
use Rattle.std.proofs.Common.{◌≡◌, ◌⊎◌, ℕ, false, List, [], ◌∷◌, ◌++◌, map, Ok, refl, sym, ◌∙◌, ap, inl, inr, append_assoc}
use Rattle.std.specs.Prelude.{bytes_eq, codes}
use Rattle.prin_term.specs.Principal.{Principal, Key, Name, And, Quoting, InRole, For}
use Rattle.prin_term.specs.Kind.{Kind, pair}
use Rattle.prin_term.specs.Kind as kinds
use Rattle.prin_text.specs.Labels.{Labels}
use Rattle.prin_text.specs.Meaning.{Written, Atom, Group, Pair, RoleOf, meaning, operator, tokens_of, IsAtom, IsOperand, IsProper}
use Rattle.prin_text.specs.Pieces.{Piece, Built}
use Rattle.prin_text.specs.Reading.{Pending, First, Second, Stage, Operand, One, Role, Whole, State, filled, at_operand, at_one, at_role, at_whole, step, piece_at}
use Rattle.prin_text.specs.Tokens.{Placed}
use Rattle.prin_text.specs.Words.{operand_of, role_of}
use Rattle.prin_text.proofs.Pieced.{piece_of, joined-piece_of, in_role-piece_of}
use Rattle.prin_text.proofs.Texts.{texts_tell}
use Rattle.prin_text.proofs.Wording.{atom_is_read, role_is_read, mark_is_no_operand, semicolon_is_no_role}

-- the bytes of tokens
abbrev pub words : List Placed → List (List ℕ)
words ts = map (λ t. t.1) ts

-- tokens before and after one of them
pub record Splits (ts : List Placed) (front : List (List ℕ)) (token : List ℕ) (back : List (List ℕ)) : Type 0 where
  pub before : List Placed
  pub at : ℕ
  pub after : List Placed
  pub whole : ts ≡ before ++ (at, token) ∷ after
  pub front_words : words before ≡ front
  pub back_words : words after ≡ back

heads_are : (x y : List ℕ) (xs ys : List (List ℕ)) → x ∷ xs ≡ y ∷ ys → (x ≡ y) × (xs ≡ ys)
heads_are x y xs ys e = (cc, cc)

-- the tokens that have these bytes are split as the bytes are
pub splits : (ts : List Placed) (front : List (List ℕ)) (token : List ℕ) (back : List (List ℕ)) → words ts ≡ front ++ token ∷ back → Splits ts front token back
splits [] [] token back e = absurd cc
splits [] (x ∷ front) token back e = absurd cc
splits ((at, t) ∷ ts) [] token back e =
    let parts = heads_are t token (words ts) back e in
    record { before = []; at = at; after = ts; whole = ap (λ x. (at, x) ∷ ts) parts.0; front_words = refl; back_words = parts.1 }
splits ((at, t) ∷ ts) (x ∷ front) token back e =
    let parts = heads_are t x (words ts) (front ++ token ∷ back) e in
    let rest = splits ts front token back parts.1 in
    record { before = (at, t) ∷ rest.before; at = rest.at; after = rest.after; whole = ap (λ l. (at, t) ∷ l) rest.whole; front_words = (λ i. parts.0 i ∷ rest.front_words i); back_words = rest.back_words }

-- tokens without bytes are none
pub none_placed : (ts : List Placed) → words ts ≡ [] → ts ≡ []
none_placed [] e = refl
none_placed (t ∷ ts) e = absurd cc

-- what stands there after something written
abbrev pub standing : Written → Piece → Stage
standing (Atom p word) pc = One pc
standing (Group w) pc = One pc
standing (Pair kind a b) pc = Whole pc
standing (RoleOf a r word) pc = Whole pc

-- the piece of an atom
pub atom_piece : (labels : Labels) (p : Principal) (word : List ℕ) → IsAtom labels p word → Built p 1 ≡ piece_of p
atom_piece labels (Key k) word is = refl
atom_piece labels (Name n) word is = refl
atom_piece labels (And a b) word is = absurd is
atom_piece labels (Quoting a b) word is = absurd is
atom_piece labels (InRole a r) word is = absurd is
atom_piece labels (For a b) word is = absurd is

module _ (labels : Labels) (end : ℕ) where
  -- a token that is no `;` is read by a step
  pub goes_on : (at : ℕ) (token : List ℕ) (rest : List Placed) (stack : List Pending) (place : Stage) (s : State) → bytes_eq token (codes ";") ≡ false → step labels at token stack place ≡ Ok s → piece_at labels end ((at, token) ∷ rest) stack place ≡ piece_at labels end rest s.0 s.1
  unfolding piece_at
  goes_on at token rest stack place s other e = rw (other, e) refl

  pub opens : (at : ℕ) (stack : List Pending) (due : Pending) → step labels at (codes "(") stack (Operand due) ≡ Ok (due ∷ stack, Operand First)
  unfolding at_operand
  opens at stack due = refl

  pub closes : (w : Written) (at : ℕ) (stack : List Pending) (due : Pending) (pc : Piece) → step labels at (codes ")") (due ∷ stack) (standing w pc) ≡ Ok (stack, filled due pc)
  unfolding at_one at_whole
  closes (Atom p word) at stack due pc = refl
  closes (Group w) at stack due pc = refl
  closes (Pair kind a b) at stack due pc = refl
  closes (RoleOf a r word) at stack due pc = refl

  pub joins : (kind : Kind) (at : ℕ) (stack : List Pending) (pc : Piece) → step labels at (operator kind) stack (One pc) ≡ Ok (stack, Operand (Second pc kind))
  unfolding at_one
  joins kinds.And at stack pc = refl
  joins kinds.Quoting at stack pc = refl
  joins kinds.For at stack pc = refl

  pub operator_goes_on : (kind : Kind) → bytes_eq (operator kind) (codes ";") ≡ false
  operator_goes_on kinds.And = refl
  operator_goes_on kinds.Quoting = refl
  operator_goes_on kinds.For = refl

  pub takes_role : (at : ℕ) (stack : List Pending) (pc : Piece) → step labels at (codes "as") stack (One pc) ≡ Ok (stack, Role pc)
  unfolding at_one
  takes_role at stack pc = refl

  -- a word that is read as an operand is neither a parenthesis nor a `;`
  pub no_mark : (word : List ℕ) (p : Principal) (b : ℕ) → (b ≡ 40) ⊎ (b ≡ 59) → operand_of labels.names word ≡ Ok p → bytes_eq word (b ∷ []) ≡ false
  no_mark word p b is e = elim (texts_tell word (b ∷ [])) [
    | inl same ↦ absurd (mark_is_no_operand labels.names p b is (ap (λ w. operand_of labels.names w) (sym same.1) ∙ e))
    | inr other ↦ other.0
  ]

  pub fills : (at : ℕ) (word : List ℕ) (p : Principal) (stack : List Pending) (due : Pending) → operand_of labels.names word ≡ Ok p → step labels at word stack (Operand due) ≡ Ok (stack, filled due (Built p 1))
  unfolding at_operand
  fills at word p stack due e = rw (no_mark word p 40 (inl refl) e, e) refl

  roles : (at : ℕ) (word : List ℕ) (r : ℕ) (stack : List Pending) (a : Principal) → role_of labels.roles word ≡ Ok r → step labels at word stack (Role (piece_of a)) ≡ Ok (stack, Whole (piece_of (InRole a r)))
  unfolding at_role
  roles at word r stack a e = rw (e, in_role-piece_of a r) refl

  pub no_semicolon : (word : List ℕ) (r : ℕ) → role_of labels.roles word ≡ Ok r → bytes_eq word (codes ";") ≡ false
  no_semicolon word r e = elim (texts_tell word (codes ";")) [
    | inl same ↦ absurd (semicolon_is_no_role labels.roles r (ap (λ w. role_of labels.roles w) (sym same.1) ∙ e))
    | inr other ↦ other.0
  ]

  -- what was written is read: as an operand where one is due, and as a principal
  abbrev pub ReadsAs : Written → Type 0
  ReadsAs w = (IsOperand w → (ts rest : List Placed) (stack : List Pending) (due : Pending) → words ts ≡ tokens_of w → piece_at labels end (ts ++ rest) stack (Operand due) ≡ piece_at labels end rest stack (filled due (piece_of (meaning w))))
      × ((ts rest : List Placed) (stack : List Pending) → words ts ≡ tokens_of w → piece_at labels end (ts ++ rest) stack (Operand First) ≡ piece_at labels end rest stack (standing w (piece_of (meaning w))))

  atom_reads : (p : Principal) (word : List ℕ) → operand_of labels.names word ≡ Ok p →
      Built p 1 ≡ piece_of p → (ts rest : List Placed) (stack : List Pending) (due : Pending) →
      words ts ≡ word ∷ [] → piece_at labels end (ts ++ rest) stack (Operand due)
      ≡ piece_at labels end rest stack (filled due (piece_of p))
  atom_reads p word e one ts rest stack due is =
      let s = splits ts [] word [] is in
      let front = none_placed s.before s.front_words in
      let back = none_placed s.after s.back_words in
      let alone : ts ≡ (s.at, word) ∷ [] = s.whole ∙ (λ i. front i ++ (s.at, word) ∷ back i) in
      ap (λ l. piece_at labels end (l ++ rest) stack (Operand due)) alone
      ∙ goes_on s.at word rest stack (Operand due) (stack, filled due (Built p 1)) (no_mark word p 59 (inr refl) e) (fills s.at word p stack due e)
      ∙ ap (λ x. piece_at labels end rest stack (filled due x)) one

  group_reads : (w : Written) → ReadsAs w → (ts rest : List Placed) (stack : List Pending) (due : Pending) → words ts ≡ tokens_of (Group w) → piece_at labels end (ts ++ rest) stack (Operand due) ≡ piece_at labels end rest stack (filled due (piece_of (meaning w)))
  group_reads w reads ts rest stack due is =
      let s = splits ts [] (codes "(") (tokens_of w ++ codes ")" ∷ []) is in
      let front = none_placed s.before s.front_words in
      let u = splits s.after (tokens_of w) (codes ")") [] s.back_words in
      let back = none_placed u.after u.back_words in
      let pc = piece_of (meaning w) in
      let closed : s.after ≡ u.before ++ (u.at, codes ")") ∷ [] = u.whole ∙ ap (λ l. u.before ++ (u.at, codes ")") ∷ l) back in
      let whole : ts ++ rest ≡ (s.at, codes "(") ∷ (u.before ++ (u.at, codes ")") ∷ rest) = ap (λ l. l ++ rest) (s.whole ∙ (λ i. front i ++ (s.at, codes "(") ∷ closed i)) ∙ ap (λ l. (s.at, codes "(") ∷ l) (append_assoc u.before ((u.at, codes ")") ∷ []) rest) in
      ap (λ l. piece_at labels end l stack (Operand due)) whole
      ∙ goes_on s.at (codes "(") (u.before ++ (u.at, codes ")") ∷ rest) stack (Operand due) (due ∷ stack, Operand First) refl (opens s.at stack due)
      ∙ reads.1 u.before ((u.at, codes ")") ∷ rest) (due ∷ stack) u.front_words
      ∙ goes_on u.at (codes ")") rest (due ∷ stack) (standing w pc) (stack, filled due pc) refl (closes w u.at stack due pc)

  pair_reads : (kind : Kind) (a b : Written) → IsOperand a → IsOperand b → ReadsAs a → ReadsAs b →
      (ts rest : List Placed) (stack : List Pending) → words ts ≡ tokens_of (Pair kind a b) →
      piece_at labels end (ts ++ rest) stack (Operand First)
      ≡ piece_at labels end rest stack (Whole (piece_of (pair kind (meaning a) (meaning b))))
  pair_reads kind a b is_a is_b reads_a reads_b ts rest stack is =
      let s = splits ts (tokens_of a) (operator kind) (tokens_of b) is in
      let left = piece_of (meaning a) in
      let right = piece_of (meaning b) in
      let whole : ts ++ rest ≡ s.before ++ ((s.at, operator kind) ∷ (s.after ++ rest)) = ap (λ l. l ++ rest) s.whole ∙ append_assoc s.before ((s.at, operator kind) ∷ s.after) rest in
      ap (λ l. piece_at labels end l stack (Operand First)) whole
      ∙ reads_a.0 is_a s.before ((s.at, operator kind) ∷ (s.after ++ rest)) stack First s.front_words
      ∙ goes_on s.at (operator kind) (s.after ++ rest) stack (One left) (stack, Operand (Second left kind)) (operator_goes_on kind) (joins kind s.at stack left)
      ∙ reads_b.0 is_b s.after rest stack (Second left kind) s.back_words
      ∙ ap (λ x. piece_at labels end rest stack (Whole x)) (joined-piece_of kind (meaning a) (meaning b))

  role_reads : (a : Written) (r : ℕ) (word : List ℕ) → IsOperand a →
      role_of labels.roles word ≡ Ok r → ReadsAs a →
      (ts rest : List Placed) (stack : List Pending) → words ts ≡ tokens_of (RoleOf a r word) →
      piece_at labels end (ts ++ rest) stack (Operand First)
      ≡ piece_at labels end rest stack (Whole (piece_of (InRole (meaning a) r)))
  role_reads a r word is_a e reads_a ts rest stack is =
      let s = splits ts (tokens_of a) (codes "as") (word ∷ []) is in
      let u = splits s.after [] word [] s.back_words in
      let front = none_placed u.before u.front_words in
      let back = none_placed u.after u.back_words in
      let left = piece_of (meaning a) in
      let last : s.after ≡ (u.at, word) ∷ [] = u.whole ∙ (λ i. front i ++ (u.at, word) ∷ back i) in
      let whole : ts ++ rest ≡ s.before ++ ((s.at, codes "as") ∷ ((u.at, word) ∷ rest)) = ap (λ l. l ++ rest) (s.whole ∙ ap (λ l. s.before ++ (s.at, codes "as") ∷ l) last) ∙ append_assoc s.before ((s.at, codes "as") ∷ (u.at, word) ∷ []) rest in
      ap (λ l. piece_at labels end l stack (Operand First)) whole
      ∙ reads_a.0 is_a s.before ((s.at, codes "as") ∷ ((u.at, word) ∷ rest)) stack First s.front_words
      ∙ goes_on s.at (codes "as") ((u.at, word) ∷ rest) stack (One left) (stack, Role left) refl (takes_role s.at stack left)
      ∙ goes_on u.at word rest stack (Role left) (stack, Whole (piece_of (InRole (meaning a) r))) (no_semicolon word r e) (roles u.at word r stack (meaning a) e)

  -- everything that is written properly
  pub reads : (w : Written) → IsProper labels w → ReadsAs w
  reads (Atom p word) proper =
      let e = atom_is_read labels.names labels refl p word proper in
      let one = atom_piece labels p word proper in
      (λ _. atom_reads p word e one, λ ts rest stack is. atom_reads p word e one ts rest stack First is)
  reads (Group w) proper =
      let below = reads w proper in
      (λ _. group_reads w below, λ ts rest stack is. group_reads w below ts rest stack First is)
  reads (Pair kind a b) proper =
      (λ none. absurd none, pair_reads kind a b proper.0.0 proper.0.1 (reads a proper.1.0) (reads b proper.1.1))
  reads (RoleOf a r word) proper =
      (λ none. absurd none, role_reads a r word proper.0 (role_is_read labels.roles r word proper.2) (reads a proper.1))
