use Rattle.std.proofs.Common.{◌≡◌, ℕ, Some, slice_get, ◌∙◌, sym, subst}
use Rattle.std.proofs.lemmas.Option.{same_Some}
use Rattle.taos_calculus.specs.Numbered.{role_under}
use Rattle.taos_calculus.specs.declared.line.Node.{Node}
use Rattle.goal_search.proofs.search.Search.tell_under.Goals as goal

pub tell_speaks-requires-clause-gives : goal.tell_speaks-requires-clause-gives
tell_speaks-requires-clause-gives c =
    role_under c.in-AsRole.ensures.stands
    (subst (λ (r : ℕ). slice_get c.args.self.now.nodes.items c.args.to ≡ Some (Node.AsRole c.in-AsRole-node.c r)) (sym c.if-role-other.true) c.in-AsRole-node.ensures.stands)
    c.in-Some.ensures

pub returns-in-None-clause-told : goal.returns-in-None-clause-told
returns-in-None-clause-told c = λ x z r e f p.
    let one : Node.AsRole x r ≡ Node.AsRole c.in-AsRole.a c.in-AsRole.role = same_Some (Node.AsRole x r) (Node.AsRole c.in-AsRole.a c.in-AsRole.role) (sym e ∙ c.in-AsRole.ensures.stands) in
    let two : Node.AsRole z r ≡ Node.AsRole c.in-AsRole-node.c c.in-AsRole-node.other = same_Some (Node.AsRole z r) (Node.AsRole c.in-AsRole-node.c c.in-AsRole-node.other) (sym f ∙ c.in-AsRole-node.ensures.stands) in
    let qx : x ≡ c.in-AsRole.a = cc in
    let qz : z ≡ c.in-AsRole-node.c = cc in
    absurd (c.in-None.ensures (c.tell_same.ensures.told (rw (qx, qz) at p)))
