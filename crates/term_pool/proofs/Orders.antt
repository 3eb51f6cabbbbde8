-- Two numbers, and how they lie.
use Rattle.std.proofs.Common.{◌≡◌, ◌≢◌, ◌⊎◌, inl, inr, ℕ, ◌+◌, ◌-◌, ◌<◌, ◌≤◌, arith}

pub below_or_not : (k n : ℕ) → (k < n) ⊎ ((m : ℕ) × (k ≡ n + m))
below_or_not k n = go (le_or k n)
  where
    le_or : (k n : ℕ) → (k < n) ⊎ (n ≤ k)
    le_or k n = grind arith

    go : (k < n) ⊎ (n ≤ k) → (k < n) ⊎ ((m : ℕ) × (k ≡ n + m))
    go (inl h) = inl h
    go (inr h) = inr (k - n, omega arith)

pub same_or_not : (d c : ℕ) → (d ≡ c) ⊎ (d ≢ c)
same_or_not d c = go (three d c)
  where
    three : (d c : ℕ) → (d < c) ⊎ ((c < d) ⊎ (d ≡ c))
    three d c = grind arith

    go : (d < c) ⊎ ((c < d) ⊎ (d ≡ c)) → (d ≡ c) ⊎ (d ≢ c)
    go (inl h) = inr (λ e. omega arith)
    go (inr (inl h)) = inr (λ e. omega arith)
    go (inr (inr e)) = inl e
