use Rattle.std.proofs.Common.{sym, arith, [], subst}
use Rattle.std.proofs.lemmas.List.{get_or_default}
use Rattle.keyed_seal.specs.Keys.{IsAscending, Keys}
use Rattle.byte_fields.proofs.RowPlaces.{value_of-at, value_of-in_gap}
use Rattle.keyed_seal.proofs.key_table.KeyTable.sealer.Goals as goal

-- the key is that of the entry at the place that was found
pub returns-in-Ok : goal.returns-in-Ok
returns-in-Ok c =
    let value = value_of-at (λ e. e.0) (λ e. e.1) (0, []) _ (subst (λ (k : Keys). IsAscending k.entries) c.self.view_is c.self.invariant.sound.ascending) _ _ c.in-Ok.ensures.found in
    let read = get_or_default _ _ c.index.result.now (0, []) c.in-Ok.ensures.found.in_range in
    grind (arith, c.self.view_is)

pub returns-in-Err : goal.returns-in-Err
returns-in-Err c = sym (value_of-in_gap (λ e. e.0) (λ e. e.1) (0, []) _ _ _ c.in-Err.ensures.absent)
