-- One level of reading.
use Rattle.std.proofs.Common.{◌≡◌, ℕ, zero, suc, ◌-◌, List, [], ◌∷◌, refl, arith}
use Rattle.prin_term.specs.Reading.{front_with, front_term}

-- no operand is read where no level is left
pub front_term-is : (end levels nodes : ℕ) (bytes : List ℕ) → front_term end levels nodes bytes ≡ front_with (front_term end (levels - 1)) end levels nodes bytes
unfolding front_term front_with
front_term-is end zero nodes [] = refl
front_term-is end zero nodes (tag ∷ rest) = refl
front_term-is end (suc levels) nodes bytes = let e : suc levels - 1 ≡ levels = omega arith in rw e refl
