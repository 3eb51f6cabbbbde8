-- A certificate within the limits is short under a seal.
use Rattle.std.proofs.Common.{◌≡◌, ℕ, ◌≤◌, List, ◌∷◌, ◌++◌, length, arith, length-append}
use Rattle.keyed_seal.specs.Tag.{tag_of}
use Rattle.keyed_seal.proofs.Tags.{length-tag_of}
use Rattle.stmt_codec.specs.Certificates.{Certificate, body_spelling, IsWithinLimits}
use Rattle.stmt_codec.proofs.BodyLengths.{short_body}
use Rattle.sealed_cert.specs.Seals.{sealed, sealed_text}

-- a text and its tag
sealed_length : (kind : ℕ) (body tag : List ℕ) → length body ≤ 990 → length tag ≡ 32 → length ((kind ∷ body) ++ tag) ≤ 1023
sealed_length kind body tag fits whole = omega (arith, length-append (kind ∷ body) tag)

pub short_sealed : (kind : ℕ) (key : List ℕ) (c : Certificate) → IsWithinLimits c → length (sealed kind key c) ≤ 1023
short_sealed kind key c limits = sealed_length kind (body_spelling c) (tag_of key (sealed_text kind c)) (short_body c limits) (length-tag_of key (sealed_text kind c))
