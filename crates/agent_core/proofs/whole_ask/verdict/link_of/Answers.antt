-- the marks of the live ones are those of all
use Rattle.std.proofs.Common.{Bool, true, ℕ, List, ap, ◌∙◌, map, replicate}
use Rattle.prin_term.specs.View.{grant, principal}
use Rattle.stmt_codec.specs.View.{certificates}
use Rattle.taos_calculus.specs.Question.{question_of}
use Rattle.denial_link.proofs.Places.{certificate_count}
use Rattle.agent_core.proofs.Marks.{all_marked}
use Rattle.agent_core.proofs.whole_ask.verdict.link_of.Goals as goal

pub first_link_by_all-requires-clause-by_all : goal.first_link_by_all-requires-clause-by_all
first_link_by_all-requires-clause-by_all g c =
    c.requires.asked ∙
    ap (λ (marks : List Bool). question_of c.args.anchors.now (certificates c.args.certs.now) marks (principal c.args.subject.now) (map grant c.args.list.now))
    (all_marked (certificates c.args.certs.now) c.args.moment (c.are_live.ensures.0 c.if-are_live.true) ∙ ap (λ (n : ℕ). replicate n true) (certificate_count c.args.certs.now))
