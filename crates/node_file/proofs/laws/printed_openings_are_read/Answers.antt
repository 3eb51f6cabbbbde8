use Rattle.node_file.proofs.PrintedOpening.{file_again}
use Rattle.node_file.proofs.laws.printed_openings_are_read.Goals as goal

pub returns : goal.returns
returns c = λ o fits. file_again o fits
