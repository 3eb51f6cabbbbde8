use Rattle.std.proofs.Common.{[], ◌∷◌}
use Rattle.taos_calculus.proofs.Walks.{strays_first, strays_then, then_answer}
use Rattle.taos_calculus.proofs.canonical.after_fact.Goals as goal

pub returns-in_err-next-in-Speaks : goal.returns-in_err-next-in-Speaks
returns-in_err-next-in-Speaks c =
    rw (c.from_residual.ensures, c.in-Speaks.is)
    (strays_first c.args.nodes.now c.requires.table c.args.due (c.in-Speaks.left ∷ []) (c.in-Speaks.right ∷ []) c.in_err-next-in-Speaks.ensures)

pub returns-in_ok-next-in-Speaks : goal.returns-in_ok-next-in-Speaks
returns-in_ok-next-in-Speaks c =
    rw c.in-Speaks.is
    (then_answer c.args.nodes.now c.requires.table c.args.due c.in_ok-next-in-Speaks.next (c.in-Speaks.left ∷ []) (c.in-Speaks.right ∷ [])
    c.after_term-in-Speaks.result c.in_ok-next-in-Speaks.ensures c.after_term-in-Speaks.ensures)

pub returns-in_err-next-in-Says : goal.returns-in_err-next-in-Says
returns-in_err-next-in-Says c =
    rw (c.from_residual-in_err-next-in-Says.ensures, c.in-Says.is)
    (strays_first c.args.nodes.now c.requires.table c.args.due (c.in-Says.who ∷ []) (c.in-Says.left ∷ c.in-Says.right ∷ []) c.in_err-next-in-Says.ensures)

pub returns-in_err-later-in-Says : goal.returns-in_err-later-in-Says
returns-in_err-later-in-Says c =
    rw (c.from_residual-in_err-later-in-Says.ensures, c.in-Says.is)
    (strays_then c.args.nodes.now c.requires.table c.args.due c.in_ok-next-in-Says.next (c.in-Says.who ∷ []) (c.in-Says.left ∷ c.in-Says.right ∷ [])
    c.in_ok-next-in-Says.ensures
    (strays_first c.args.nodes.now c.requires.table c.in_ok-next-in-Says.next (c.in-Says.left ∷ []) (c.in-Says.right ∷ []) c.in_err-later-in-Says.ensures))

pub returns-in_ok-later-in-Says : goal.returns-in_ok-later-in-Says
returns-in_ok-later-in-Says c =
    rw c.in-Says.is
    (then_answer c.args.nodes.now c.requires.table c.args.due c.in_ok-next-in-Says.next (c.in-Says.who ∷ []) (c.in-Says.left ∷ c.in-Says.right ∷ [])
    c.after_term-in-Says-3.result c.in_ok-next-in-Says.ensures
    (then_answer c.args.nodes.now c.requires.table c.in_ok-next-in-Says.next c.in_ok-later-in-Says.later (c.in-Says.left ∷ []) (c.in-Says.right ∷ [])
    c.after_term-in-Says-3.result c.in_ok-later-in-Says.ensures c.after_term-in-Says-3.ensures))
