use Rattle.std.proofs.Common.{◌≡◌, ◌∙◌, sym}
use Rattle.std.proofs.lemmas.Option.{same_Some}
use Rattle.taos_calculus.specs.Numbered.{quoting}
use Rattle.taos_calculus.specs.declared.line.Node.{Node}
use Rattle.goal_search.proofs.search.Search.tell_quoted.Goals as goal

pub tell_speaks-requires-clause-gives : goal.tell_speaks-requires-clause-gives
tell_speaks-requires-clause-gives c = quoting c.in-Quote.ensures.stands c.in-Quote-node.ensures.stands c.in-Some.ensures.told.0 c.in-Some.ensures.told.1

pub returns-in-None-clause-told : goal.returns-in-None-clause-told
returns-in-None-clause-told c = λ x y z w e f p q.
    let one : Node.Quote x y ≡ Node.Quote c.in-Quote.a c.in-Quote.b = same_Some (Node.Quote x y) (Node.Quote c.in-Quote.a c.in-Quote.b) (sym e ∙ c.in-Quote.ensures.stands) in
    let two : Node.Quote z w ≡ Node.Quote c.in-Quote-node.c c.in-Quote-node.d = same_Some (Node.Quote z w) (Node.Quote c.in-Quote-node.c c.in-Quote-node.d) (sym f ∙ c.in-Quote-node.ensures.stands) in
    let qx : x ≡ c.in-Quote.a = cc in
    let qy : y ≡ c.in-Quote.b = cc in
    let qz : z ≡ c.in-Quote-node.c = cc in
    let qw : w ≡ c.in-Quote-node.d = cc in
    absurd (c.in-None.ensures.told (rw (qx, qz) at p) (rw (qy, qw) at q))
