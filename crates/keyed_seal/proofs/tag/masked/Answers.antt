use Rattle.std.proofs.Common.{arith}
use Rattle.keyed_seal.proofs.Masking.{masked_more, masked_all}
use Rattle.keyed_seal.proofs.tag.masked.Goals as goal

pub bytes-preserved : goal.bytes-preserved
bytes-preserved c = masked_more _ _ _ _ (omega arith) c.bytes.invariant

pub returns : goal.returns
returns c = masked_all _ _ _ _ (omega arith) c.bytes.invariant
