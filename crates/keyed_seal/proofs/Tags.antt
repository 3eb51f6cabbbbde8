-- What a tag looks like.
use Rattle.std.proofs.Common.{◌≡◌, ℕ, zero, suc, ◌<◌, ◌^◌, List, length, All, arith}
use Rattle.std.specs.Int.{bytes_high_first, byte_at, to_be_bytes, w32}
use Rattle.std.specs.Prelude.{slice_index}
use Rattle.std.proofs.lemmas.List.Elements.{All-append, All-cons, All-nil}
use Rattle.sha2.specs.Sha256.{digest_bytes, sha256}
use Rattle.sha2.proofs.Facts256.{length-sha256}
use Rattle.keyed_seal.specs.Tag.{tag_of}

abbrev IsByte : ℕ → Type 0
IsByte byte = byte < 2 ^ 8

-- a tag has 32 bytes
pub length-tag_of : (key text : List ℕ) → length (tag_of key text) ≡ 32
unfolding tag_of
length-tag_of key text = length-sha256 _

byte_at-lt : (k n : ℕ) → byte_at k n < 2 ^ 8
byte_at-lt zero n = omega arith
byte_at-lt (suc k) n = omega arith

bytes-high_first : (k n : ℕ) → All (λ byte. byte < 2 ^ 8) (bytes_high_first k n)
bytes-high_first zero n = All-nil IsByte
bytes-high_first (suc k) n = All-cons IsByte (byte_at k n) (bytes_high_first k n) (byte_at-lt k n) (bytes-high_first k n)

bytes-digest : (h : List ℕ) (n : ℕ) → All (λ byte. byte < 2 ^ 8) (digest_bytes h n)
unfolding digest_bytes
bytes-digest h zero = All-nil IsByte
bytes-digest h (suc n) = All-append IsByte (digest_bytes h n) (to_be_bytes w32 (slice_index h n)) (bytes-digest h n) (bytes-high_first 4 (slice_index h n))

bytes-sha256 : (m : List ℕ) → All (λ byte. byte < 2 ^ 8) (sha256 m)
unfolding sha256
bytes-sha256 m = bytes-digest _ 8

-- each below 256
pub bytes-tag_of : (key text : List ℕ) → All (λ byte. byte < 2 ^ 8) (tag_of key text)
unfolding tag_of
bytes-tag_of key text = bytes-sha256 _
