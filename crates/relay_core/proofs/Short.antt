-- There is room for a certificate under a seal.
use Rattle.std.proofs.Common.{◌≡◌, ℕ, ◌+◌, ◌≤◌, List, [], length, ap, arith}
use Rattle.stmt_codec.specs.Certificates.{Certificate, IsWithinLimits}
use Rattle.sealed_cert.specs.Seals.{sealed}
use Rattle.sealed_cert.proofs.Sizes.{short_sealed}

pub has_room : (key old bytes : List ℕ) (c : Certificate) → IsWithinLimits c → old ≡ [] → bytes ≡ sealed 2 key c → length old + length bytes ≤ 2048
has_room key old bytes c limits none is = sum (sealed 2 key c) (short_sealed 2 key c limits) is
  where
    sum : (text : List ℕ) → length text ≤ 1023 → bytes ≡ text → length old + length bytes ≤ 2048
    sum text fits e = omega (arith, ap length none, ap length e, fits)
