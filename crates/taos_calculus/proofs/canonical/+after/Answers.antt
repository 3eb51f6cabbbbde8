use Rattle.std.proofs.Common.{◌<◌, ◌≤◌, [], ◌∷◌, arith, lit<}
use Rattle.taos_calculus.proofs.Walks.{reaches_old, reaches_none, reaches_then, strays_first, strays_then, no_operands, one_operand, two_operands, operands_earlier, due_after, strays_after}
use Rattle.taos_calculus.proofs.canonical.+after.Goals as goal

pub returns-then-id-due-clause-reached : goal.returns-then-id-due-clause-reached
returns-then-id-due-clause-reached t c = reaches_old c.args.nodes.now c.requires.table c.args.id c.args.due c.if-id-due.true c.requires.due_in

-- an operand stands before its node
pub after-requires-in-And : goal.after-requires-in-And
after-requires-in-And t c =
    let has = two_operands c.args.nodes.now c.args.id c.requires.id_in c.in-And.a c.in-And.b c.in-And.is in
    let low : c.in-And.a < c.args.id = operands_earlier c.args.nodes.now c.requires.table c.args.id (c.in-And.a ∷ c.in-And.b ∷ []) has 0 c.in-And.a (lit< tt) in
    (omega arith, (c.requires.table, (c.requires.fits, (omega arith, c.requires.due_in))))

pub after-requires-in-And-2 : goal.after-requires-in-And-2
after-requires-in-And-2 t c =
    let has = two_operands c.args.nodes.now c.args.id c.requires.id_in c.in-And.a c.in-And.b c.in-And.is in
    let low : c.in-And.b < c.args.id = operands_earlier c.args.nodes.now c.requires.table c.args.id (c.in-And.a ∷ c.in-And.b ∷ []) has 1 c.in-And.b (lit< tt) in
    let next_in : c.in_ok-next-in-And.next ≤ _ = c.in_ok-next-in-And.ensures.reached.within in
    (omega arith, (c.requires.table, (c.requires.fits, (omega arith, next_in))))

pub after-requires : goal.after-requires
after-requires t c =
    let has = one_operand c.args.nodes.now c.args.id c.requires.id_in c.in-AsRole.a c.in-AsRole.field-1 c.in-AsRole.is in
    let low : c.in-AsRole.a < c.args.id = operands_earlier c.args.nodes.now c.requires.table c.args.id (c.in-AsRole.a ∷ []) has 0 c.in-AsRole.a (lit< tt) in
    (omega arith, (c.requires.table, (c.requires.fits, (omega arith, c.requires.due_in))))

-- where an operand leads nowhere, so does its node
pub returns-in_err-next-in-AsRole-clause-reached : goal.returns-in_err-next-in-AsRole-clause-reached
returns-in_err-next-in-AsRole-clause-reached t c =
    let has = one_operand c.args.nodes.now c.args.id c.requires.id_in c.in-AsRole.a c.in-AsRole.field-1 c.in-AsRole.is in
    rw c.from_residual.ensures (strays_after c.args.nodes.now c.requires.table c.args.id (c.in-AsRole.a ∷ []) has c.args.due c.in_err-next-in-AsRole.ensures.reached)

pub returns-in_err-next-in-And-clause-reached : goal.returns-in_err-next-in-And-clause-reached
returns-in_err-next-in-And-clause-reached t c =
    let has = two_operands c.args.nodes.now c.args.id c.requires.id_in c.in-And.a c.in-And.b c.in-And.is in
    rw c.from_residual-in_err-next-in-And.ensures (strays_after c.args.nodes.now c.requires.table c.args.id (c.in-And.a ∷ c.in-And.b ∷ []) has c.args.due
    (strays_first c.args.nodes.now c.requires.table c.args.due (c.in-And.a ∷ []) (c.in-And.b ∷ []) c.in_err-next-in-And.ensures.reached))

pub returns-in_err-last-in-And-clause-reached : goal.returns-in_err-last-in-And-clause-reached
returns-in_err-last-in-And-clause-reached t c =
    let has = two_operands c.args.nodes.now c.args.id c.requires.id_in c.in-And.a c.in-And.b c.in-And.is in
    rw c.from_residual-in_err-last-in-And.ensures (strays_after c.args.nodes.now c.requires.table c.args.id (c.in-And.a ∷ c.in-And.b ∷ []) has c.args.due
    (strays_then c.args.nodes.now c.requires.table c.args.due c.in_ok-next-in-And.next (c.in-And.a ∷ []) (c.in-And.b ∷ [])
    c.in_ok-next-in-And.ensures.reached c.in_err-last-in-And.ensures.reached))

-- once the operands are met, the node is the one due or it is not
pub returns-in-Key-clause-reached : goal.returns-in-Key-clause-reached
returns-in-Key-clause-reached t c =
    let has = no_operands c.args.nodes.now c.args.id c.requires.id_in c.in-Key.is in
    due_after c.args.nodes.now c.requires.table c.args.id [] has c.args.due c.args.due c.if_due.result
    (reaches_none c.args.nodes.now c.requires.table c.args.due c.requires.due_in) c.if-id-due.false c.if_due.ensures

pub returns-in_ok-next-in-AsRole-clause-reached : goal.returns-in_ok-next-in-AsRole-clause-reached
returns-in_ok-next-in-AsRole-clause-reached t c =
    let has = one_operand c.args.nodes.now c.args.id c.requires.id_in c.in-AsRole.a c.in-AsRole.field-1 c.in-AsRole.is in
    let low : c.in-AsRole.a < c.args.id = operands_earlier c.args.nodes.now c.requires.table c.args.id (c.in-AsRole.a ∷ []) has 0 c.in-AsRole.a (lit< tt) in
    let bounded : c.in_ok-next-in-AsRole.next ≤ _ = c.in_ok-next-in-AsRole.ensures.bounded in
    due_after c.args.nodes.now c.requires.table c.args.id (c.in-AsRole.a ∷ []) has c.args.due c.in_ok-next-in-AsRole.next c.if_due-in-AsRole.result
    c.in_ok-next-in-AsRole.ensures.reached (omega arith) c.if_due-in-AsRole.ensures

pub returns-in_ok-last-in-And-clause-reached : goal.returns-in_ok-last-in-And-clause-reached
returns-in_ok-last-in-And-clause-reached t c =
    let has = two_operands c.args.nodes.now c.args.id c.requires.id_in c.in-And.a c.in-And.b c.in-And.is in
    let earlier = operands_earlier c.args.nodes.now c.requires.table c.args.id (c.in-And.a ∷ c.in-And.b ∷ []) has in
    let low : c.in-And.a < c.args.id = earlier 0 c.in-And.a (lit< tt) in
    let low' : c.in-And.b < c.args.id = earlier 1 c.in-And.b (lit< tt) in
    let bounded : c.in_ok-next-in-And.next ≤ _ = c.in_ok-next-in-And.ensures.bounded in
    let bounded' : c.in_ok-last-in-And.last ≤ _ = c.in_ok-last-in-And.ensures.bounded in
    due_after c.args.nodes.now c.requires.table c.args.id (c.in-And.a ∷ c.in-And.b ∷ []) has c.args.due c.in_ok-last-in-And.last c.if_due-in-And.result
    (reaches_then c.args.nodes.now c.requires.table c.args.due c.in_ok-next-in-And.next c.in_ok-last-in-And.last (c.in-And.a ∷ []) (c.in-And.b ∷ [])
    c.in_ok-next-in-And.ensures.reached c.in_ok-last-in-And.ensures.reached) (omega arith) c.if_due-in-And.ensures
