-- Numbers of which none was visited and none comes twice.
use Rattle.std.proofs.Common.{◌≡◌, ◌≢◌, ℕ, zero, suc, ◌<◌, List, [], ◌∷◌, ◌++◌, length, get_or, refl, sym, subst, ◌∙◌, arith, inl, inr, All}
use Rattle.std.specs.Prelude.{AllPairs, Contains}
use Rattle.std.proofs.lemmas.List.Elements.{Contains-get_or, Contains-append_left, Contains-push, Contains-push_cases}
use Rattle.std.proofs.lemmas.List.Kept.{AllPairs-cons}
use Rattle.relay_path.proofs.Passing.{AreApart}

abbrev Differ : ℕ → ℕ → Type 0
Differ m n = m ≢ n

later_is : (n : ℕ) (later : List ℕ) (x : ℕ) → Contains later x → Contains (n ∷ later) x
later_is n later x (k, below, is) = (suc k, omega (arith, below), is)

-- none of the numbers was visited
pub none_visited : (visited route : List ℕ) → AreApart visited route → (x : ℕ) → Contains route x → ¬ Contains visited x
none_visited visited [] apart x (k, below, is) = absurd (omega (arith, below))
none_visited visited (n ∷ later) apart x (zero, below, is) = λ c. apart.0 (subst (Contains visited) (sym is) c)
none_visited visited (n ∷ later) apart x (suc k, below, is) =
    λ c. none_visited (visited ++ n ∷ []) later apart.1 x (k, omega (arith, below), is) (Contains-append_left visited (n ∷ []) x c)

pub apart_pairs : (visited route : List ℕ) → AreApart visited route → AllPairs Differ route
apart_pairs visited [] apart = λ i j d less below. absurd (omega (arith, below))
apart_pairs visited (n ∷ later) apart =
    AllPairs-cons Differ n later
    (λ k d below same. none_visited (visited ++ n ∷ []) later apart.1 (get_or later k d) (Contains-get_or later k d below) (subst (Contains (visited ++ n ∷ [])) same (Contains-push visited n)))
    (apart_pairs (visited ++ n ∷ []) later apart.1)

pub pairs_apart : (visited route : List ℕ) → AllPairs Differ route → ((x : ℕ) → Contains route x → ¬ Contains visited x) → AreApart visited route
pairs_apart visited [] pairs new = tt
pairs_apart visited (n ∷ later) pairs new = (
  new n (zero, omega arith, refl),
  pairs_apart (visited ++ n ∷ []) later (λ i j d less below. pairs (suc i) (suc j) d (omega (arith, less)) (omega (arith, below)))
      (λ x there c. elim (Contains-push_cases visited n x c) [
        | inl old ↦ new x (later_is n later x there) old
        | inr same ↦ pairs 0 (suc there.0) x (omega arith) (omega (arith, there.1)) (same ∙ sym there.2)
      ]),
)
