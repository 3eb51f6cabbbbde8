-- Proofs that are kept: a list of few, the most recently used first.
use Rattle.std.specs.Prelude.{◌≡◌, ℕ, ◌-◌, ◌≤◌, ◌==◌, Bool, false, true, not, ◌&&◌, nat_le, List, ◌∷◌, ◌++◌, length, All, filter, take, bytes_eq, slice_get, Option, Some, None}
use Rattle.std.specs.List.{AllPairs, list_any}
use Rattle.std.specs.Arc.{arc_value}
use Rattle.prin_term.specs.Principal.{Principal, Key, Quoting}
use Rattle.stmt_codec.specs.Certificates.{digest_of}
use Rattle.stmt_codec.specs.Distinct.{same_principal}
use Rattle.proof_cache.specs.Cached.{Cached, cached}
use Rattle.proof_cache.specs.declared.cached.Cached.{Cached as CachedValue}
use Rattle.proof_cache.specs.declared.row.Row.{Row}
use Rattle.proof_cache.specs.declared.row.TheConstants.{MAX_KEPT}

-- the proof is kept for this subject and for this principal, for whom it speaks
abbrev pub is_for : Principal → Principal → Cached → Bool
is_for subject who c = same_principal c.subject subject && same_principal c.who who

-- few proofs, no two of which are kept for the same
pub record IsCache (proofs : List Cached) : Type 0 where
  pub few : length proofs ≤ MAX_KEPT
  pub apart : AllPairs (λ c d. is_for d.subject d.who c ≡ false) proofs

-- those that do not pass the test, in their order
abbrev pub without : (Cached → Bool) → List Cached → List Cached
without test proofs = filter (λ c. not (test c)) proofs

-- those that pass the test, before all others
abbrev pub to_front : (Cached → Bool) → List Cached → List Cached
to_front test proofs = filter test proofs ++ without test proofs

-- the new proof in front: one that was kept for the same goes, and of as many as can be the last
abbrev pub keeping : Cached → List Cached → List Cached
keeping c proofs = c ∷ take (MAX_KEPT - 1) (without (is_for c.subject c.who) proofs)

-- its lease has ended by the moment
abbrev pub has_lapsed : ℕ → Cached → Bool
has_lapsed moment c = nat_le c.lease moment

-- it cites a certificate of this digest
abbrev pub cites_it : List ℕ → Cached → Bool
cites_it digest c = list_any (λ x. bytes_eq (digest_of x) digest) c.cites

-- it cites a certificate of this issuer
abbrev pub cites_issuer : ℕ → Cached → Bool
cites_issuer issuer c = list_any (λ x. x.issuer == issuer) c.cites

-- the principal is the channel's key, alone or quoting another
abbrev pub speaks_on : ℕ → Principal → Bool
speaks_on channel (Key k) = k == channel
speaks_on channel (Quoting (Key k) quoted) = k == channel
speaks_on channel _ = false

-- its subject speaks on this channel
abbrev pub is_of_channel : ℕ → Cached → Bool
is_of_channel channel c = speaks_on channel c.subject

-- ---- in memory

-- what a row keeps
abbrev pub kept : Row → Cached
kept row = cached (arc_value {X = CachedValue} row.proof)

-- the place has the first proof that passes the test, or none does
abbrev pub IsPlaceOf : (Cached → Bool) → List Cached → Option ℕ → Type 0
IsPlaceOf test proofs (Some place) = (c : Cached) × (slice_get proofs place ≡ Some c)
    × (test c ≡ true)
IsPlaceOf test proofs None = All (λ c. test c ≡ false) proofs
