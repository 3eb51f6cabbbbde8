-- Where reading a principal stops, and what it gives there.
use Rattle.std.proofs.Common.{◌≡◌, ◌≢◌, ℕ, ◌+◌, ◌<◌, ◌≤◌, Bool, false, cond, List, [], ◌∷◌, length, Ok, Err, ◌↔◌, refl, sym, ◌∙◌, ap, inl, inr, arith}
use Rattle.std.specs.Prelude.{IsTrue, bytes_eq, codes, slice_index, slice_range}
use Rattle.std.proofs.lemmas.Bool.{false≢true}
use Rattle.std.proofs.lemmas.Bool.Decides.{leb_tells}
use Rattle.prin_term.specs.declared.limits.TheConstants.{CERT_NODES}
use Rattle.prin_term.specs.Principal.{Principal, node_count, depth}
use Rattle.byte_fields.specs.Steps.{◌>>=◌}
use Rattle.prin_text.specs.declared.fault.TextCause.TheVariants.{Syntax, TooLarge}
use Rattle.prin_text.specs.declared.fault.TextFault.{TextFault}
use Rattle.prin_text.specs.declared.fault.TextFault.TheVariants.{Bad}
use Rattle.prin_text.specs.Labels.{Labels}
use Rattle.prin_text.specs.Pieces.{Piece, Built}
use Rattle.prin_text.specs.Reading.{Pending, First, Stage, Operand, State, alone, finished, measured, piece_at, principal_in, step}
use Rattle.prin_text.specs.Tokens.{Placed, StopsAt, first_place, is_mark, tokens_from}
use Rattle.prin_text.proofs.Again.{goes_on}
use Rattle.prin_text.proofs.Pieced.{depth-le-node_count}
use Rattle.prin_text.proofs.Scans.{mark_token, no_tokens, other_token}

-- the token of a `;`
pub semicolon_token : (bytes : List ℕ) (at : ℕ) → at < length bytes → slice_index bytes at ≡ 59 → tokens_from bytes at ≡ (at, codes ";") ∷ tokens_from bytes (at + 1)
semicolon_token bytes at lt is = mark_token bytes at lt (ap is_mark is) ∙ ap (λ b. (at, b ∷ []) ∷ tokens_from bytes (at + 1)) is

module _ (labels : Labels) (bytes : List ℕ) where
  end_read : (stack : List Pending) (place : Stage) → piece_at labels (length bytes) [] stack place ≡ (finished (length bytes) stack place >>= λ p. Ok (p, []))
  unfolding piece_at
  end_read stack place = refl

  semicolon_read : (at : ℕ) (rest : List Placed) (stack : List Pending) (place : Stage) → piece_at labels (length bytes) ((at, codes ";") ∷ rest) stack place ≡ (finished at stack place >>= λ p. Ok (p, (at, codes ";") ∷ rest))
  unfolding piece_at
  semicolon_read at rest stack place = refl

  -- where reading stops the principal is finished
  pub at_stop : (at : ℕ) (stack : List Pending) (place : Stage) → StopsAt bytes at → piece_at labels (length bytes) (tokens_from bytes at) stack place ≡ (finished at stack place >>= λ p. Ok (p, tokens_from bytes at))
  at_stop at stack place (inl is) =
      let none = no_tokens bytes at (omega arith) in
      ap (λ ts. piece_at labels (length bytes) ts stack place) none ∙ end_read stack place
      ∙ ap (λ n. finished n stack place >>= λ p. Ok (p, [])) (sym is) ∙ ap (λ ts. finished at stack place >>= λ p. Ok (p, ts)) (sym none)
  at_stop at stack place (inr is) =
      let semicolon = semicolon_token bytes at is.0 is.1 in
      ap (λ ts. piece_at labels (length bytes) ts stack place) semicolon ∙ semicolon_read at (tokens_from bytes (at + 1)) stack place
      ∙ ap (λ ts. finished at stack place >>= λ p. Ok (p, ts)) (sym semicolon)

  -- what was finished there is what is read
  pub stop_reads : (at : ℕ) (stack : List Pending) (place : Stage) (pc : Piece) → StopsAt bytes at → Ok pc ≡ finished at stack place → piece_at labels (length bytes) (tokens_from bytes at) stack place ≡ Ok (pc, tokens_from bytes at)
  stop_reads at stack place pc stops e = at_stop at stack place stops ∙ ap (λ r. r >>= λ p. Ok (p, tokens_from bytes at)) (sym e)

  pub stop_fails : (at : ℕ) (stack : List Pending) (place : Stage) (f : TextFault) → StopsAt bytes at → Err f ≡ finished at stack place → piece_at labels (length bytes) (tokens_from bytes at) stack place ≡ Err f
  stop_fails at stack place f stops e = at_stop at stack place stops ∙ ap (λ r. r >>= λ p. Ok (p, tokens_from bytes at)) (sym e)

  step_fails : (at : ℕ) (token : List ℕ) (rest : List Placed) (stack : List Pending) (place : Stage) (f : TextFault) → bytes_eq token (codes ";") ≡ false → step labels at token stack place ≡ Err f → piece_at labels (length bytes) ((at, token) ∷ rest) stack place ≡ Err f
  unfolding piece_at
  step_fails at token rest stack place f other e = rw (other, e) refl

  -- a token that is read by a step
  pub token_read : (at next : ℕ) (stack : List Pending) (place : Stage) (s : State) → at < next →
      next ≤ length bytes → slice_index bytes at ≢ 59 →
      tokens_from bytes at ≡ (at, slice_range bytes at next) ∷ tokens_from bytes next →
      step labels at (slice_range bytes at next) stack place ≡ Ok s →
      piece_at labels (length bytes) (tokens_from bytes at) stack place
      ≡ piece_at labels (length bytes) (tokens_from bytes next) s.0 s.1
  token_read at next stack place s lt within other token e =
      ap (λ ts. piece_at labels (length bytes) ts stack place) token ∙ goes_on labels (length bytes) at (slice_range bytes at next) (tokens_from bytes next) stack place s (other_token bytes at next lt within other) e

  -- and one that is refused
  pub token_fails : (at next : ℕ) (stack : List Pending) (place : Stage) (f : TextFault) →
      at < next → next ≤ length bytes → slice_index bytes at ≢ 59 →
      tokens_from bytes at ≡ (at, slice_range bytes at next) ∷ tokens_from bytes next →
      step labels at (slice_range bytes at next) stack place ≡ Err f →
      piece_at labels (length bytes) (tokens_from bytes at) stack place ≡ Err f
  token_fails at next stack place f lt within other token e =
      ap (λ ts. piece_at labels (length bytes) ts stack place) token ∙ step_fails at (slice_range bytes at next) (tokens_from bytes next) stack place f (other_token bytes at next lt within other) e

  -- something is left behind the principal
  pub left_over : (at : ℕ) (pc : Piece) → piece_at labels (length bytes) (tokens_from bytes 0) [] (Operand First) ≡ Ok (pc, tokens_from bytes at) → at < length bytes → StopsAt bytes at → principal_in labels bytes ≡ Err (Bad at Syntax)
  unfolding principal_in
  left_over at pc e lt (inl is) = absurd (omega (arith, is))
  left_over at pc e lt (inr is) =
      ap (λ r. r >>= alone >>= measured CERT_NODES (first_place (tokens_from bytes 0) (length bytes))) (e ∙ ap (λ ts. Ok (pc, ts)) (semicolon_token bytes at is.0 is.1))

  -- nothing is left
  pub none_left : (at : ℕ) (pc : Piece) → piece_at labels (length bytes) (tokens_from bytes 0) [] (Operand First) ≡ Ok (pc, tokens_from bytes at) → length bytes ≤ at → principal_in labels bytes ≡ measured CERT_NODES (first_place (tokens_from bytes 0) (length bytes)) pc
  unfolding principal_in
  none_left at pc e le =
      ap (λ r. r >>= alone >>= measured CERT_NODES (first_place (tokens_from bytes 0) (length bytes))) (e ∙ ap (λ ts. Ok (pc, ts)) (no_tokens bytes at le))

-- a principal that does not fit has too many nodes, since it is no deeper than it has nodes
pub too_large : (nodes at levels : ℕ) (p : Principal) (b : Bool) → (IsTrue b ↔ ((node_count p ≤ nodes) × (depth p ≤ nodes))) → b ≡ false → measured nodes at (Built p levels) ≡ Err (Bad at TooLarge)
too_large nodes at levels p b says is = elim (leb_tells (node_count p) nodes) [
  | inl few ↦ absurd (false≢true (sym is ∙ says.1 (few.1, omega (arith, few.1, depth-le-node_count p))))
  | inr many ↦ ap (λ x. cond x (Ok p) (Err (Bad at TooLarge))) many.0
]
