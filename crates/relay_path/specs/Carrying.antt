-- Certificates on their way from domain to domain: those that one visited stand before its body.
use Rattle.std.specs.Prelude.{◌≡◌, ℕ, ◌<◌, ◌≤◌, ◌^◌, List, [], ◌∷◌, length, All, flat_map}
use Rattle.std.specs.Int.{w32, to_be_bytes}
use Rattle.stmt_codec.specs.Certificates.{Certificate}
use Rattle.sealed_cert.specs.declared.kind.TheConstants.{ISSUED}
use Rattle.sealed_cert.specs.Seals.{SpellsAfter, sealed_after}
use Rattle.relay_path.specs.declared.limits.TheConstants.{CARRIED, MAX_VISITED}

-- what stands before the body of a certificate that visited these domains, in order; of one that
-- visited none, the byte of an issuer's seal
abbrev pub front_of : List ℕ → List ℕ
front_of [] = ISSUED ∷ []
front_of (first ∷ more) =
    CARRIED ∷ length (first ∷ more) ∷ flat_map (to_be_bytes w32) (first ∷ more)

-- its form under a key
abbrev pub carried : List ℕ → List ℕ → Certificate → List ℕ
carried visited key c = sealed_after (front_of visited) key c

-- the bytes are c after these visited domains, and as many more as a tag has, whichever they are
pub record Presents (visited bytes : List ℕ) (c : Certificate) (tag : List ℕ) : Type 0 where
  pub few : length visited ≤ MAX_VISITED
  pub numbers : All (λ n. n < 2 ^ 32) visited
  pub spelled : SpellsAfter (front_of visited) bytes c tag

-- the bytes begin as those of a certificate that visited some domain
abbrev pub IsCarried : List ℕ → Type 0
IsCarried bytes = (rest : List ℕ) × (bytes ≡ CARRIED ∷ rest)
