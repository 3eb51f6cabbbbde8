-- Which files are refused, by the exit status.
use Rattle.std.specs.Prelude.{◌≡◌, ◌≢◌, ◌⊎◌, ℕ, List, Some}
use Rattle.frame_link.specs.Streams.{Stream}
use Rattle.node_commands.specs.Files.{IsSteady}

-- Which files are refused: one that means nothing is, and every other is not, unless its count rises
-- or memory is refused.
pub record FileDecides {A : Type 0} (Means : A → List ℕ → Type 0) (file0 file1 : Stream)
    (status : ℕ) : Type 0 where
  pub opens : (bytes : List ℕ) (a : A) → file0.told ≡ Some bytes → Means a bytes → status ≢ 2
  pub refuses : (bytes : List ℕ) → file0.told ≡ Some bytes → ((a : A) → Means a bytes → ⊥) →
      IsSteady file0 file1 → (status ≡ 2) ⊎ (status ≡ 6)
