-- Codes stand at their places.
use Rattle.std.proofs.Common.{◌≡◌, ℕ, zero, suc, ◌<◌, get_or, List, [], ◌∷◌, ◌++◌, ap, ◌∙◌, sym, arith}
use Rattle.std.specs.Prelude.{decimal}
use Rattle.std.proofs.lemmas.Fmt.{decimal_digit, decimal_step}
use Rattle.node_telling.specs.Page.{answers}

-- of one digit
pub code_at : (code : ℕ) → code < 6 → get_or answers code [] ≡ decimal code
code_at zero lt = sym (decimal_digit 0 (omega arith))
code_at (suc zero) lt = sym (decimal_digit 1 (omega arith))
code_at (suc (suc zero)) lt = sym (decimal_digit 2 (omega arith))
code_at (suc (suc (suc zero))) lt = sym (decimal_digit 3 (omega arith))
code_at (suc (suc (suc (suc zero)))) lt = sym (decimal_digit 4 (omega arith))
code_at (suc (suc (suc (suc (suc zero))))) lt = sym (decimal_digit 5 (omega arith))
code_at (suc (suc (suc (suc (suc (suc n)))))) lt = absurd (omega (arith, lt))

-- and the one of two
pub eleven : 49 ∷ 49 ∷ [] ≡ decimal 11
eleven = sym (decimal_step 11 (omega arith) (omega arith) ∙ ap (λ (l : List ℕ). l ++ 49 ∷ []) (decimal_digit 1 (omega arith)))
