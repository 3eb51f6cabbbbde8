use Rattle.std.proofs.Common.{◌<◌, ◌↔◌, List, length, refl, subst}
use Rattle.std.specs.Prelude.{IsTrue}
use Rattle.taos_calculus.specs.declared.line.Node.{Node}
use Rattle.taos_calculus.specs.Question.{Question, MayAnswer}
use Rattle.taos_calculus.specs.Tables.{named}
use Rattle.goal_search.specs.Asked.{seen}
use Rattle.goal_search.proofs.Answered.{answers_all, answers_yes, same_itself, same_then}
use Rattle.goal_search.proofs.asked.Asked.decide.Goals as goal

pub returns-then-has-clause-same : goal.returns-then-has-clause-same
returns-then-has-clause-same c = same_itself c.args.self.now

pub returns-then-has-clause-answer : goal.returns-then-has-clause-answer
returns-then-has-clause-answer c =
    (λ t. answers_yes c.args.self.now c.requires.asked c.args.left c.args.right c.requires.left_in c.requires.right_in (c.if-has.ensures.0 refl), λ m. refl)

pub returns-clause-same : goal.returns-clause-same
returns-clause-same c = same_then c.args.self.now c.want.new.self c.search_on.new.self c.want.ensures.same c.search_on.ensures.same

pub returns-clause-answer : goal.returns-clause-answer
returns-clause-answer c =
    let same = same_then c.args.self.now c.want.new.self c.search_on.new.self c.want.ensures.same c.search_on.ensures.same in
    let a = c.search_on.new.self in
    let left_in : c.args.left < length a.search.nodes.items = rw same.nodes_are c.requires.left_in in
    let right_in : c.args.right < length a.search.nodes.items = rw same.nodes_are c.requires.right_in in
    let old = c.args.self.now in
    let answers : IsTrue c.has-2.result ↔ MayAnswer (seen a) (named a.search.nodes.items c.args.left) (named a.search.nodes.items c.args.right) = (
      (λ t. answers_yes a c.search_on.ensures.asked c.args.left c.args.right left_in right_in (c.has-2.ensures.0 t)),
      (λ m. c.has-2.ensures.1 (answers_all a c.search_on.ensures.asked c.args.left c.args.right left_in right_in c.search_on.ensures.wanted c.search_on.ensures.done m)),
    ) in
    subst (λ (q : Question). IsTrue c.has-2.result ↔ MayAnswer q (named old.search.nodes.items c.args.left) (named old.search.nodes.items c.args.right)) same.seen_is
    (subst (λ (ns : List Node). IsTrue c.has-2.result ↔ MayAnswer (seen a) (named ns c.args.left) (named ns c.args.right)) same.nodes_are answers)
