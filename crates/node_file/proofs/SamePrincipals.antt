-- A principal's text is read alike by any tables in which look-ups find the same.
use Rattle.std.proofs.Common.{◌≡◌, ◌↔◌, ℕ, ◌≤◌, IsTrue, arith, inl, inr, Bool, false, cond, List, [], ◌∷◌, length, Result, Ok, Err, refl, sym, ap, ◌∙◌}
use Rattle.std.specs.Prelude.{bytes_eq, codes}
use Rattle.std.proofs.lemmas.Bool.{false≢true}
use Rattle.std.proofs.lemmas.Bool.Decides.{leb_tells}
use Rattle.prin_term.specs.Principal.{Principal, depth, node_count}
use Rattle.prin_text.proofs.Pieced.{depth-le-node_count}
use Rattle.prin_text.specs.declared.lines.fault.FileCause.TheVariants as causes
use Rattle.byte_fields.specs.Steps.{◌>>=◌}
use Rattle.prin_text.specs.Labels.{Labels, Rows, is_label}
use Rattle.prin_text.specs.Pieces.{Piece}
use Rattle.prin_text.specs.Reading.{Pending, Stage, Operand, One, Role, Whole, State, at_operand, at_role, finished, piece_at, principal_in, step}
use Rattle.prin_text.specs.Tokens.{Placed, tokens_from}
use Rattle.prin_text.specs.Words.{known_as, operand_of, role_of, some_or_unknown}
use Rattle.prin_text.specs.declared.fault.TextCause.TheVariants.{Syntax}
use Rattle.prin_text.specs.declared.fault.TextFault.{TextFault}
use Rattle.prin_text.specs.Held.{HoldsRows}
use Rattle.node_file.specs.NodeLines.{name_said, who_said}

same_known : (table rows : Rows) → HoldsRows table rows → (word : List ℕ) → known_as table word ≡ known_as rows word
same_known table rows held word = ap (λ o. cond (is_label word) (some_or_unknown o) (Err Syntax)) (held.numbers word)

same_operand : (table rows : Rows) → HoldsRows table rows → (word : List ℕ) → operand_of table word ≡ operand_of rows word
unfolding operand_of
same_operand table rows held word = rw (same_known table rows held word) refl

same_role : (table rows : Rows) → HoldsRows table rows → (word : List ℕ) → role_of table word ≡ role_of rows word
unfolding role_of
same_role table rows held word = rw (same_known table rows held word) refl

pub same_name : (table rows : Rows) → HoldsRows table rows → (word : List ℕ) → name_said table word ≡ name_said rows word
unfolding name_said
same_name table rows held word = rw (held.numbers word) refl

module _ (a b : Labels) (names : HoldsRows a.names b.names) (roles : HoldsRows a.roles b.roles) where
  same_step : (at : ℕ) (token : List ℕ) (stack : List Pending) (place : Stage) → step a at token stack place ≡ step b at token stack place
  unfolding at_operand at_role
  same_step at token stack (Operand due) = rw (same_operand a.names b.names names token) refl
  same_step at token stack (One p) = refl
  same_step at token stack (Role p) = rw (same_role a.roles b.roles roles token) refl
  same_step at token stack (Whole p) = refl

  after : (r : Result State TextFault) (f g : State → Result (Piece × List Placed) TextFault) → ((s : State) → f s ≡ g s) → (r >>= f) ≡ (r >>= g)
  after (Ok s) f g same = same s
  after (Err e) f g same = refl

  same_piece : (end : ℕ) (tokens : List Placed) (stack : List Pending) (place : Stage) → piece_at a end tokens stack place ≡ piece_at b end tokens stack place
  unfolding piece_at
  same_piece end [] stack place = refl
  same_piece end ((at, token) ∷ rest) stack place =
      ap (λ r. cond (bytes_eq token (codes ";")) (finished at stack place >>= λ p. Ok (p, (at, token) ∷ rest)) r)
      (ap (λ (r : Result State TextFault). r >>= λ s. piece_at a end rest s.0 s.1) (same_step at token stack place)
      ∙ after (step b at token stack place) _ _ (λ s. same_piece end rest s.0 s.1))

  same_principal : (text : List ℕ) → principal_in a text ≡ principal_in b text
  unfolding principal_in
  same_principal text = rw (same_piece (length text) (tokens_from text 0) [] _) refl

  pub same_who : (text : List ℕ) → who_said a text ≡ who_said b text
  unfolding who_said
  same_who text = rw (same_principal text) refl

-- a principal that does not fit has too many nodes, since it is no deeper than it has nodes
pub who_large : (labels : Labels) (text : List ℕ) (p : Principal) (b : Bool) → principal_in labels text ≡ Ok p → (IsTrue b ↔ ((node_count p ≤ 16) × (depth p ≤ 16))) → b ≡ false → who_said labels text ≡ Err causes.Principal
unfolding who_said
who_large labels text p b read says is = elim (leb_tells (node_count p) 16) [
  | inl few ↦ absurd (false≢true (sym is ∙ says.1 (few.1, omega (arith, few.1, depth-le-node_count p))))
  | inr many ↦ rw (read, many.0) refl
]
