-- Chosen certificates by the numbers of a table, and what they say.
use Rattle.std.specs.Prelude.{◌≡◌, ℕ, ◌<◌, List, Some, slice_get, slice_index_or}
use Rattle.prin_term.specs.Principal.{Principal}
use Rattle.taos_calculus.specs.Rules.{Claim}
use Rattle.term_pool.specs.declared.cited.Cited.{Cited}

-- what a certificate says, where p gives the principal of each number
abbrev pub claim_by : (ℕ → Principal) → Cited → Claim
claim_by p c = record { speaker = p c.speaker; left = p c.left; right = p c.right }

-- a chosen certificate as a place and a claim, where p gives the principal of each number
abbrev pub chosen_by : (ℕ → Principal) → Cited → ℕ × Claim
chosen_by p c = (c.place, claim_by p c)

-- the certificate is this statement by this speaker
pub record IsSaying (c : Cited) (speaker left right : ℕ) : Type 0 where
  pub speaker_is : c.speaker ≡ speaker
  pub left_is : c.left ≡ left
  pub right_is : c.right ≡ right

-- the numbers of a certificate are below n
pub record CitedIn (n : ℕ) (c : Cited) : Type 0 where
  pub speaker : c.speaker < n
  pub left : c.left < n
  pub right : c.right < n

-- the certificate of a number
abbrev pub cited_or : List Cited → ℕ → Cited
cited_or cited k = slice_index_or cited k (record { place = 0; speaker = 0; left = 0; right = 0 })

-- the place of the certificate of a number
abbrev pub place_at : List Cited → ℕ → ℕ
place_at cited k = (cited_or cited k).place

-- no place comes twice
abbrev pub ArePlacesApart : List (ℕ × Claim) → Type 0
ArePlacesApart chosen =
    (i j place : ℕ) (x y : Claim) → slice_get chosen i ≡ Some (place, x) →
    slice_get chosen j ≡ Some (place, y) → i ≡ j
