use Rattle.std.proofs.Common.{◌≡◌, take}
use Rattle.stmt_codec.specs.View.{certificates}
use Rattle.proof_cache.specs.Lease as math
use Rattle.proof_cache.proofs.cached.lease_of.Given as goal

abbrev pub invariant-loop-cert : goal.invariant-loop-cert
invariant-loop-cert l = l.lease ≡ math.lease_of (certificates (take l.cert-index l.cites))
