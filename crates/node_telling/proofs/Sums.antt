-- The sums of the first counts.
use Rattle.std.proofs.Common.{◌≡◌, ℕ, ◌+◌, ◌<◌, List, [], ◌∷◌, ◌++◌, length, take, get_or, arith, ap, ◌∙◌, sym}
use Rattle.std.specs.Prelude.{sum}
use Rattle.std.proofs.lemmas.List.{take_all, take_more}
use Rattle.std.proofs.lemmas.List.Sums.{sum_by-append}

-- one count more
pub sum_more : (counts : List ℕ) (i : ℕ) → i < length counts →
    sum (take (i + 1) counts) ≡ sum (take i counts) + get_or counts i 0
sum_more counts i lt =
    let more : sum (take (i + 1) counts) ≡ sum (take i counts ++ get_or counts i 0 ∷ []) = ap sum (take_more counts i 0 lt) in
    let apart : sum (take i counts ++ get_or counts i 0 ∷ []) ≡ sum (take i counts) + (0 + get_or counts i 0) =
    sum_by-append (λ x. x) (take i counts) (get_or counts i 0 ∷ []) in
    omega (arith, more, apart)

-- with the last count it is the sum of all
pub sum_last : (counts : List ℕ) (i : ℕ) → length counts ≡ i + 1 →
    sum counts ≡ sum (take i counts) + get_or counts i 0
sum_last counts i last =
    ap sum (sym (take_all (i + 1) counts (omega (arith, last)))) ∙ sum_more counts i (omega (arith, last))
