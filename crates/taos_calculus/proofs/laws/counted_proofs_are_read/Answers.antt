use Rattle.byte_fields.proofs.FieldLaws.{IsBytes, bytes_are}
use Rattle.taos_calculus.proofs.Counted.{proof_takes, proof_again, form_proof}
use Rattle.taos_calculus.proofs.laws.counted_proofs_are_read.Goals as goal

pub returns-clause-read : goal.returns-clause-read
returns-clause-read c = λ bytes lines at end le all.
    (λ e. proof_takes bytes (bytes_are bytes all) lines at end le e, λ is. proof_again bytes lines at end is.0 is.1)

pub returns-clause-refused : goal.returns-clause-refused
returns-clause-refused c = λ bytes at f le all e. ((form_proof {Right = IsBytes}).stays bytes (bytes_are bytes all)).refuses at f le e
