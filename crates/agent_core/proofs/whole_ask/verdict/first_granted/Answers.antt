-- the decider was asked about the live certificates
use Rattle.std.proofs.Common.{Bool, List, ap, ◌∙◌, map}
use Rattle.prin_term.specs.View.{grant, principal}
use Rattle.stmt_codec.specs.View.{certificates}
use Rattle.taos_calculus.specs.Question.{question_of}
use Rattle.denial_link.proofs.Entries.{entry_is_term, part_of_subject}
use Rattle.denial_link.proofs.Reaching.{part_itself}
use Rattle.agent_core.proofs.Marks.{found_live}
use Rattle.agent_core.proofs.whole_ask.verdict.first_granted.Goals as goal

pub first_derivable-requires-clause-asking : goal.first_derivable-requires-clause-asking
first_derivable-requires-clause-asking g c =
    part_of_subject c.args.anchors.now (certificates c.args.certs.now) (principal c.args.subject.now) (map grant c.args.list.now)
    (g.D.Decide.question c.begin.new.self) _ c.begin.ensures _ (part_itself (principal c.args.subject.now))

pub first_derivable-requires-clause-asked : goal.first_derivable-requires-clause-asked
first_derivable-requires-clause-asked g c =
    entry_is_term c.args.anchors.now (certificates c.args.certs.now) (principal c.args.subject.now) (map grant c.args.list.now) (g.D.Decide.question c.begin.new.self) _ c.begin.ensures

pub returns-clause-found : goal.returns-clause-found
returns-clause-found g c =
    let asked = c.begin.ensures ∙ ap (λ (marks : List Bool). question_of c.args.anchors.now (certificates c.args.certs.now) marks (principal c.args.subject.now) (map grant c.args.list.now)) (c.deref.ensures.0 ∙ c.marks_of-marks.ensures) in
    found_live c.args.anchors.now (certificates c.args.certs.now) c.args.moment (principal c.args.subject.now) (map grant c.args.list.now) c.args.right (g.D.Decide.question c.begin.new.self) asked c.first_derivable.result c.first_derivable.ensures.found

pub returns-clause-asked : goal.returns-clause-asked
returns-clause-asked g c =
    c.first_derivable.ensures.same ∙ c.begin.ensures ∙
    ap (λ (marks : List Bool). question_of c.args.anchors.now (certificates c.args.certs.now) marks (principal c.args.subject.now) (map grant c.args.list.now)) (c.deref.ensures.0 ∙ c.marks_of-marks.ensures)
