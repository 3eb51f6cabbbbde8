-- Tags: HMAC (RFC 2104) over SHA-256, whose blocks are 64 bytes long.
use Rattle.std.specs.Prelude.{ℕ, ◌-◌, List, ◌++◌, length, map, replicate, bit_xor, nat_le}
use Rattle.std.specs.Prelude.{if◌then◌else◌}
use Rattle.sha2.specs.Sha256.{sha256}

-- the byte that the RFC's ipad repeats
abbrev pub inner_pad : ℕ
inner_pad = 0x36

-- the byte that the RFC's opad repeats
abbrev pub outer_pad : ℕ
outer_pad = 0x5c

-- a key that is longer than a block is hashed first
abbrev pub short_key : List ℕ → List ℕ
short_key key = if nat_le (length key) 64 then key else sha256 key

-- K0 of the RFC: the key, with zeros after it up to the length of a block
unfoldable pub block_key : List ℕ → List ℕ
block_key key = short_key key ++ replicate (64 - length (short_key key)) 0

-- the block xor the byte `pad` repeated
abbrev pub masked : List ℕ → ℕ → List ℕ
masked block pad = map (λ byte. bit_xor byte pad) block

-- the tag of a text under a key, 32 bytes: H((K0 xor opad) ++ H((K0 xor ipad) ++ text))
unfoldable pub tag_of : List ℕ → List ℕ → List ℕ
tag_of key text =
    sha256 (masked (block_key key) outer_pad ++ sha256 (masked (block_key key) inner_pad ++ text))
