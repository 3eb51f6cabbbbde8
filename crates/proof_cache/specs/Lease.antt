-- When a proof ends: with the first of the certificates that it cites.
use Rattle.std.specs.Prelude.{ℕ, ◌-◌, ◌^◌, min, List, [], ◌∷◌}
use Rattle.stmt_codec.specs.Certificates.{Certificate}

-- the least end of these certificates, or the largest u64 where there is none
abbrev pub lease_of : List Certificate → ℕ
lease_of [] = 2 ^ 64 - 1
lease_of (c ∷ cs) = min c.until (lease_of cs)
