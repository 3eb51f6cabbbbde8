use Rattle.std.proofs.Common.{◌≡◌, List, ap, ◌∙◌}
use Rattle.std.proofs.lemmas.Result.{IfOk-weaker}
use Rattle.prin_term.specs.View.{principal}
use Rattle.taos_calculus.specs.declared.line.Node.{Node}
use Rattle.taos_calculus.specs.Question.{Question, IsProofOf}
use Rattle.taos_calculus.specs.Tables.{lines_of, named}
use Rattle.goal_search.specs.Asked.{seen}
use Rattle.goal_search.specs.Replaying.{IsQuestionOf}
use Rattle.goal_search.specs.Searching.{core}
use Rattle.goal_search.proofs.Seen.{proof_seen, searched, searched_question}
use Rattle.goal_search.proofs.asked.Asked.take_proof.Goals as goal

pub replay-requires-clause-left_in : goal.replay-requires-clause-left_in
replay-requires-clause-left_in c = rw c.decide.ensures.same.nodes_are c.number-i.ensures.number_in

pub replay-requires-clause-right_in : goal.replay-requires-clause-right_in
replay-requires-clause-right_in c = rw c.decide.ensures.same.nodes_are c.number-j.ensures.number_in

-- it is derivable, so the search knows it
pub replay-requires-clause-known : goal.replay-requires-clause-known
replay-requires-clause-known c =
    c.decide.ensures.known (c.decide.ensures.answer.1 (rw (c.number-i.ensures.named_is, c.number-j.ensures.named_is) c.requires.derivable))

pub replay-requires-clause-asked : goal.replay-requires-clause-asked
replay-requires-clause-asked c = (searched c.decide.new.self, searched_question c.decide.new.self c.decide.ensures.asked)

pub returns-clause-seen_is : goal.returns-clause-seen_is
returns-clause-seen_is c = c.decide.ensures.same.seen_is

pub returns-clause-proof : goal.returns-clause-proof
returns-clause-proof c =
    let a = c.decide.new.self in
    let old = c.args.self.now in
    let same = c.decide.ensures.same in
    let nodes = a.search.nodes.items in
    let is : IsQuestionOf (core a.search) (searched a) = searched_question a c.decide.ensures.asked in
    let left : named nodes c.number-i.result ≡ principal c.args.left.now = ap (λ (ns : List Node). named ns c.number-i.result) same.nodes_are ∙ c.number-i.ensures.named_is in
    let right : named nodes c.number-j.result ≡ principal c.args.right.now = ap (λ (ns : List Node). named ns c.number-j.result) same.nodes_are ∙ c.number-j.ensures.named_is in
    IfOk-weaker c.replay.result
    (λ t. (q : Question) → IsQuestionOf (core a.search) q → IsProofOf q (named nodes c.number-i.result) (named nodes c.number-j.result) (lines_of t.proof) t.cites.items)
    (λ t. IsProofOf (seen old) (principal c.args.left.now) (principal c.args.right.now) (lines_of t.proof) t.cites.items)
    (λ t proves. rw (same.seen_is, left, right) at (proof_seen a c.decide.ensures.asked _ _ _ _ (proves (searched a) is))) c.replay.ensures
