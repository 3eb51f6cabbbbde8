use Rattle.byte_fields.proofs.FieldLaws.{bytes_are}
use Rattle.taos_calculus.proofs.ProofForms.{never_memory}
use Rattle.taos_calculus.proofs.ProofLaws.{proof_again, proof_takes}
use Rattle.taos_calculus.proofs.laws.proofs_are_read.Goals as goal

pub returns : goal.returns
returns c = record {
  read = λ bytes p all. (proof_takes bytes (bytes_are bytes all) p, proof_again bytes p);
  refused = λ bytes. never_memory bytes;
}
