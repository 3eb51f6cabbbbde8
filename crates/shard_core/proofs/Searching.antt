-- A number that a search did not find among ascending numbers is not there.
use Rattle.std.proofs.Common.{◌≡◌, ℕ, ◌<◌, ◌≤◌, List, length, get_or, Err, Contains, ap, ◌∙◌, arith}
use Rattle.std.specs.List.Sorted.{IsBinarySearchResult, IsStrictlyIncreasing}
use Rattle.std.specs.Ordering.{nat_cmp}
use Rattle.std.proofs.lemmas.List.{get_or_default}
use Rattle.std.proofs.lemmas.List.Kept.{AllPairs-from_increasing}
use Rattle.std.proofs.lemmas.List.Sorted.{searched}

rises : (xs : List ℕ) → IsStrictlyIncreasing xs → (i j : ℕ) → i ≤ j → j < length xs → get_or xs i 0 ≤ get_or xs j 0
rises xs up i j le lt = grind (arith, AllPairs-from_increasing xs up i j 0, λ (same : i ≡ j). ap (λ k. get_or xs k 0) same)

pub not_found : (xs : List ℕ) (x i : ℕ) → IsStrictlyIncreasing xs → IsBinarySearchResult (λ y. nat_cmp y x) xs (Err i) → Contains xs x → ⊥
not_found xs x i up result has =
    let gap = searched xs x (Err i) result (rises xs up) in
    let there : get_or xs has.0 0 ≡ x = get_or_default xs has.0 0 x has.1 ∙ has.2 in
    grind (arith, gap.1 has.0, gap.2 has.0)
