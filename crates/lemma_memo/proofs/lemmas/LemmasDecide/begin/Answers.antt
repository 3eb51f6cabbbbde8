use Rattle.std.proofs.Common.{◌∙◌, map, sym, subst, arith}
use Rattle.std.proofs.lemmas.List.{length-map}
use Rattle.prin_term.specs.View.{grant, principal}
use Rattle.stmt_codec.specs.View.{certificate_of, certificates}
use Rattle.taos_calculus.specs.Question.{Question}
use Rattle.lemma_memo.specs.Question.{FitsQuestion}
use Rattle.lemma_memo.proofs.Again.{fits_question}
use Rattle.lemma_memo.proofs.lemmas.LemmasDecide.begin.Goals as goal

pub begin-requires-clause-certs : goal.begin-requires-clause-certs
begin-requires-clause-certs g c = omega (arith, c.requires.certs_fit, length-map c.args.certs.now certificate_of)

pub begin-requires-clause-chosen : goal.begin-requires-clause-chosen
begin-requires-clause-chosen g c = c.requires.chosen_fit ∙ length-map c.args.certs.now certificate_of

-- what is known is so of the question that was asked
pub invariant_of-self : goal.invariant_of-self
invariant_of-self g c =
    subst (λ (q : Question). FitsQuestion q c.begin.new.self) (sym c.begin-2.ensures)
    (fits_question c.args.anchors.now (certificates c.args.certs.now) c.args.chosen.now c.self.inside.memory c.begin.new.self (principal c.args.subject.now) (map grant c.args.list.now) c.begin.ensures)
