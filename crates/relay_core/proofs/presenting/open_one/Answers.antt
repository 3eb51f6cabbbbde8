use Rattle.std.proofs.Common.{arith, sym, subst}
use Rattle.relay_core.specs.Presenting.{IsOneRefused}
use Rattle.relay_core.proofs.Opening.{is_one_refused}
use Rattle.relay_core.proofs.presenting.open_one.Goals as goal

pub returns-in-Err-clause-refused : goal.returns-in-Err-clause-refused
returns-in-Err-clause-refused c =
    let key = c.args.opened.now in
    let text = c.args.text.now in
    subst (IsOneRefused key text) (sym c.refused_as.ensures) (is_one_refused key text c.in-Err.fault (λ i. omega (arith, c.type_inv.text i)) c.requires c.in-Err.ensures.exact)
