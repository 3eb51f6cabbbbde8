use Rattle.keyed_seal.proofs.Comparing.{AgreesBelow}
use Rattle.keyed_seal.proofs.tag.is_same.Given as goal

abbrev pub invariant-bytes : goal.invariant-bytes
invariant-bytes l = AgreesBelow l.made l.tag l.differing l.i
