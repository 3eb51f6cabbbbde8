use Rattle.std.proofs.Common.{sym}
use Rattle.sealed_cert.proofs.Lengths.{relayed_cut, issued_cut}
use Rattle.sealed_cert.proofs.laws.cut_seals_are_refused.Goals as goal

pub returns-clause-relayed : goal.returns-clause-relayed
returns-clause-relayed c = λ key other bytes more d is some. relayed_cut key other bytes more d is.numbers is.limits (sym is.text) some

pub returns-clause-issued : goal.returns-clause-issued
returns-clause-issued c = λ entries key bytes more d is some. issued_cut entries key bytes more d is.numbers is.limits (sym is.text) some
