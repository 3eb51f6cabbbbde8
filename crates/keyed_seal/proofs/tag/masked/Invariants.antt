use Rattle.keyed_seal.proofs.Masking.{IsMaskedBelow}
use Rattle.keyed_seal.proofs.tag.masked.Given as goal

abbrev pub invariant-bytes : goal.invariant-bytes
invariant-bytes l = IsMaskedBelow l.block l.pad l.out l.i
