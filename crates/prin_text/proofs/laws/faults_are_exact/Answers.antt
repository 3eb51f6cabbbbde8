use Rattle.prin_text.proofs.Outcomes.{fault_is_refusal, refusal_is_fault}
use Rattle.prin_text.proofs.laws.faults_are_exact.Goals as goal

pub returns : goal.returns
returns c = λ labels bytes offset cause. (fault_is_refusal labels bytes offset cause, refusal_is_fault labels bytes offset cause)
