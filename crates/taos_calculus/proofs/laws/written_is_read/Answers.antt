use Rattle.std.proofs.Common.{refl}
use Rattle.taos_calculus.specs.Tables.{lines_of}
use Rattle.taos_calculus.specs.Spelling.{proof_spelling}
use Rattle.taos_calculus.proofs.ProofLaws.{proof_again, lines_again}
use Rattle.taos_calculus.proofs.laws.written_is_read.Goals as goal

pub returns : goal.returns
returns c = record {
  spelled = λ p fits. record { limits = fits; text = refl };
  read = λ p fits. proof_again (proof_spelling (lines_of p)) p (record { limits = fits; text = refl });
  lines = λ lines fits. lines_again lines fits;
}
