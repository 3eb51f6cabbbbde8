use Rattle.sealed_cert.proofs.Apart.{relayed_is_wrong, issued_is_wrong, kinds_differ}
use Rattle.sealed_cert.proofs.laws.kinds_are_apart.Goals as goal

pub returns-clause-relayed : goal.returns-clause-relayed
returns-clause-relayed c = relayed_is_wrong

pub returns-clause-issued : goal.returns-clause-issued
returns-clause-issued c = issued_is_wrong

pub returns-clause-apart : goal.returns-clause-apart
returns-clause-apart c = kinds_differ
