-- What a sealer keeps beside its key.
use Rattle.std.specs.Prelude.{List, ℕ}
use Rattle.sha2.specs.declared.Sha256.{Sha256}
use Rattle.sha2.specs.Hashers.{Holds256}
use Rattle.keyed_seal.specs.Tag.{block_key, masked, inner_pad, outer_pad}

-- two hashers, each of which holds the key's block under one of the pads
pub record AreReady (inner outer : Sha256) (key : List ℕ) : Type 0 where
  pub inner_holds : Holds256 inner (masked (block_key key) inner_pad)
  pub outer_holds : Holds256 outer (masked (block_key key) outer_pad)
