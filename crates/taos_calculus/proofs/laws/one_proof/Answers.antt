use Rattle.taos_calculus.proofs.ProofLaws.{spelled_once}
use Rattle.taos_calculus.proofs.laws.one_proof.Goals as goal

pub returns : goal.returns
returns c = spelled_once
