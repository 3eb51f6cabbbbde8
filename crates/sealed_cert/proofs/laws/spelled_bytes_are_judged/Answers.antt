use Rattle.sealed_cert.proofs.Judged.{issued_unknown, issued_bad, relayed_bad}
use Rattle.sealed_cert.proofs.laws.spelled_bytes_are_judged.Goals as goal

pub returns-clause-unknown : goal.returns-clause-unknown
returns-clause-unknown c = issued_unknown

pub returns-clause-issued : goal.returns-clause-issued
returns-clause-issued c = issued_bad

pub returns-clause-relayed : goal.returns-clause-relayed
returns-clause-relayed c = relayed_bad
