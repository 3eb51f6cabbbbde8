-- The order in which certificates that are not live are looked at again.
use Rattle.std.specs.Prelude.{◌≡◌, ℕ, List, Some, slice_get, Contains, AllPairs, ◌↔◌, if◌then◌else◌}
use Rattle.std.specs.Ordering.{nat_cmp, ordering_then}
use Rattle.std.specs.declared.cmp.Ordering.{Ordering}
use Rattle.std.specs.declared.cmp.Ordering.TheVariants.{Less, Greater}
use Rattle.std.specs.Cmp.Lexicographic.{slice_cmp}
use Rattle.stmt_codec.specs.Certificates.{Certificate, digest_of, is_dead, IsLive}

-- those that have ended before the early ones; of two that have ended the later end first, of two
-- early ones the earlier beginning
abbrev pub by_time : ℕ → Certificate → Certificate → Ordering
by_time moment c d =
    if is_dead moment c then (if is_dead moment d then nat_cmp d.until c.until else Less)
    else (if is_dead moment d then Greater else nat_cmp c.from d.from)

-- the certificate c at place i against d at j: by their times, then the lesser digest first, then
-- the lesser place
abbrev pub order : ℕ → ℕ → Certificate → ℕ → Certificate → Ordering
order moment i c j d =
    ordering_then
    (ordering_then (by_time moment c d) (slice_cmp nat_cmp (digest_of c) (digest_of d)))
    (nat_cmp i j)

-- the certificate at place i comes before the one at j
abbrev pub GoesBefore : ℕ → List Certificate → ℕ → ℕ → Type 0
GoesBefore moment certs i j =
    (c d : Certificate) → slice_get certs i ≡ Some c →
    slice_get certs j ≡ Some d → order moment i c j d ≡ Less

-- the certificate at the place is so
abbrev pub IsAt : List Certificate → (Certificate → Type 0) → ℕ → Type 0
IsAt certs P i = (c : Certificate) × (slice_get certs i ≡ Some c) × P c

-- the certificate at the place is not live
abbrev pub IsOut : List Certificate → ℕ → ℕ → Type 0
IsOut certs moment i = IsAt certs (λ c. IsLive moment c → ⊥) i

-- the places of all that are not live, each before those that the order has after it
pub record OutInOrder (certs : List Certificate) (moment : ℕ) (places : List ℕ) : Type 0 where
  pub out : (i : ℕ) → Contains places i ↔ IsOut certs moment i
  pub in_order : AllPairs (GoesBefore moment certs) places
