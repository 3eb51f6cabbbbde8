use Rattle.sealed_cert.proofs.Lengths.{relayed_longer, issued_longer}
use Rattle.sealed_cert.proofs.laws.bytes_behind_are_refused.Goals as goal

pub returns-clause-relayed : goal.returns-clause-relayed
returns-clause-relayed c = relayed_longer

pub returns-clause-issued : goal.returns-clause-issued
returns-clause-issued c = issued_longer
