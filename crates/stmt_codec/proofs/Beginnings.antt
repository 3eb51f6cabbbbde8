-- The version of a body, and the bytes of its beginning.
use Rattle.std.proofs.Common.{◌≡◌, ℕ, zero, suc, ◌<◌, ◌≤◌, ◌^◌, true, length, refl, sym, ap, arith}
use Rattle.std.specs.Prelude.{◌==◌, not}
use Rattle.std.specs.Int.{w64, to_be_bytes}
use Rattle.std.proofs.Math.Dec.{eqb-suc-zero}
use Rattle.stmt_codec.specs.Certificates.{from_bytes, version_of}

pub version_of-suc : (n : ℕ) → version_of (suc n) ≡ 2
version_of-suc n = rw (eqb-suc-zero n) refl

pub from_bytes-suc : (n : ℕ) → from_bytes (suc n) ≡ to_be_bytes w64 (suc n)
from_bytes-suc n = rw (eqb-suc-zero n) refl

pub version_within : (n : ℕ) → (1 ≤ version_of n) × (version_of n ≤ 2)
version_within zero = (omega arith, omega arith)
version_within (suc n) = (omega (arith, version_of-suc n), omega (arith, version_of-suc n))

pub from_short : (n : ℕ) → length (from_bytes n) ≤ 8
from_short zero = omega arith
from_short (suc n) = omega (arith, ap length (from_bytes-suc n))

-- a beginning that a body of this version has
abbrev pub BeginsBy : ℕ → ℕ → Type 0
BeginsBy version from = (from < 2 ^ 64) × (version ≡ version_of from)

-- version 1 has none
pub none_is : (n : ℕ) → BeginsBy 1 n → n ≡ 0
none_is zero is = refl
none_is (suc n) is = absurd (omega (arith, is.1, version_of-suc n))

-- version 2 has one that is not 0, spelled in 8 bytes
pub some_is : (n : ℕ) → (n < 2 ^ 64) × (not (n == 0) ≡ true) → BeginsBy 2 n × (to_be_bytes w64 n ≡ from_bytes n)
some_is zero is = absurd cc
some_is (suc n) is = ((is.0, sym (version_of-suc n)), sym (from_bytes-suc n))

pub begins_some : (n : ℕ) → BeginsBy 2 n → (n < 2 ^ 64) × (not (n == 0) ≡ true)
begins_some zero is = absurd (omega (arith, is.1))
begins_some (suc n) is = (is.0, rw (eqb-suc-zero n) refl)
