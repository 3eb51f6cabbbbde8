-- what is found is kept for these
use Rattle.std.proofs.Common.{◌∙◌, sym, ap, Some}
use Rattle.proof_cache.proofs.Lists.{found_at}
use Rattle.proof_cache.proofs.One.{found_none}
use Rattle.proof_cache.proofs.Rows.{same_kept}
use Rattle.proof_cache.proofs.cache.Cache.peek.Goals as goal

pub returns-in-Some : goal.returns-in-Some
returns-in-Some c =
    let found = rw c.deref.ensures.value at c.in-Some.ensures in
    let rows = c.self.inside.rows.items in
    let place = c.in-Some.place in
    let row = same_kept rows place c.index.result.now found.0 c.index.ensures found.1 in
    rw (sym c.self.view_is) (ap Some row
    ∙ sym (found_at _ _ _ place found.0 c.self.invariant.0 found.1 found.2))

pub returns-in-None : goal.returns-in-None
returns-in-None c =
    let none = rw c.deref.ensures.value at c.in-None.ensures in
    rw (sym c.self.view_is) (sym (found_none _ _ none))
