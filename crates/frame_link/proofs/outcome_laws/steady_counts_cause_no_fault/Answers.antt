use Rattle.frame_link.proofs.Complete.{no_fault}
use Rattle.frame_link.proofs.outcome_laws.steady_counts_cause_no_fault.Goals as goal

pub returns : goal.returns
returns c = record { none = no_fault }
