use Rattle.sealed_cert.proofs.Apart.{relayed_opens, issued_opens}
use Rattle.sealed_cert.proofs.laws.a_sealed_body_opens.Goals as goal

pub returns-clause-relayed : goal.returns-clause-relayed
returns-clause-relayed c = relayed_opens

pub returns-clause-issued : goal.returns-clause-issued
returns-clause-issued c = issued_opens
