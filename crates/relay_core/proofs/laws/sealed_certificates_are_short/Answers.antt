use Rattle.sealed_cert.proofs.Sizes.{short_sealed}
use Rattle.relay_core.proofs.laws.sealed_certificates_are_short.Goals as goal

pub returns : goal.returns
returns c = short_sealed
