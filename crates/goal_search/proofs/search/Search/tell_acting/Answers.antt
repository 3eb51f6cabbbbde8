use Rattle.std.proofs.Common.{◌≡◌, ◌∙◌, sym}
use Rattle.std.proofs.lemmas.Option.{same_Some}
use Rattle.taos_calculus.specs.Numbered.{for_both}
use Rattle.taos_calculus.specs.declared.line.Node.{Node}
use Rattle.goal_search.proofs.search.Search.tell_acting.Goals as goal

pub tell_speaks-requires-clause-gives : goal.tell_speaks-requires-clause-gives
tell_speaks-requires-clause-gives c = for_both c.in-For.ensures.stands c.in-For-node.ensures.stands c.in-Some.ensures.told.0 c.in-Some.ensures.told.1

pub returns-in-None-clause-told : goal.returns-in-None-clause-told
returns-in-None-clause-told c = λ x y z w e f p q.
    let one : Node.For x y ≡ Node.For c.in-For.a c.in-For.b = same_Some (Node.For x y) (Node.For c.in-For.a c.in-For.b) (sym e ∙ c.in-For.ensures.stands) in
    let two : Node.For z w ≡ Node.For c.in-For-node.c c.in-For-node.d = same_Some (Node.For z w) (Node.For c.in-For-node.c c.in-For-node.d) (sym f ∙ c.in-For-node.ensures.stands) in
    let qx : x ≡ c.in-For.a = cc in
    let qy : y ≡ c.in-For.b = cc in
    let qz : z ≡ c.in-For-node.c = cc in
    let qw : w ≡ c.in-For-node.d = cc in
    absurd (c.in-None.ensures.told (rw (qx, qz) at p) (rw (qy, qw) at q))
