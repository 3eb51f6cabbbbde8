use Rattle.std.proofs.Common.{◌≡◌, false, take}
use Rattle.stmt_codec.specs.Certificates.{certificate}
use Rattle.agent_core.specs.Held.{among}
use Rattle.shard_core.specs.Names.{certs_named}
use Rattle.shard_core.proofs.held.newness.is_among.Given as goal

abbrev pub invariant-loop-place : goal.invariant-loop-place
invariant-loop-place l = among (certs_named l.book (take l.place l.names.items)) (certificate l.cert.body) ≡ false
