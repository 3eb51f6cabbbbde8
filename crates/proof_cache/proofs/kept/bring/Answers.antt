-- the row that was found goes to the front, and no other is kept for the same
use Rattle.std.proofs.Common.{◌≡◌, ◌∙◌, ◌∷◌, map, sym, ap, ap₂, arith}
use Rattle.std.proofs.lemmas.List.{length-map}
use Rattle.std.proofs.lemmas.Option.{slice_get_within}
use Rattle.proof_cache.specs.Cache.{kept}
use Rattle.proof_cache.proofs.Lists.{any_at, front_at}
use Rattle.proof_cache.proofs.One.{any_none, none_moved}
use Rattle.proof_cache.proofs.Rows.{kept_but_one, same_kept}
use Rattle.proof_cache.proofs.kept.bring.Goals as goal

pub returns-in_default-clause-found : goal.returns-in_default-clause-found
returns-in_default-clause-found c =
    let none = rw c.deref.ensures.value at c.in_default.ensures in sym (any_none _ _ none)

pub returns-in_default-clause-moved : goal.returns-in_default-clause-moved
returns-in_default-clause-moved c =
    let none = rw c.deref.ensures.value at c.in_default.ensures in sym (none_moved _ _ none)

pub remove-row-requires : goal.remove-row-requires
remove-row-requires c =
    let found = rw c.deref.ensures.value at c.in-Some.ensures in
    let within = slice_get_within (map kept c.args.rows.now.items) c.in-Some.place found.0 found.1 in
    omega (arith, within, length-map c.args.rows.now.items kept)

pub returns-clause-found : goal.returns-clause-found
returns-clause-found c =
    let found = rw c.deref.ensures.value at c.in-Some.ensures in
    sym (any_at _ _ _ c.in-Some.place found.0 c.requires found.1 found.2)

pub returns-clause-moved : goal.returns-clause-moved
returns-clause-moved c =
    let found = rw c.deref.ensures.value at c.in-Some.ensures in
    let rows = c.args.rows.now.items in
    let place = c.in-Some.place in
    let inserted : c.insert.new.self.items ≡ c.remove-row.result ∷ c.remove-row.new.self.items =
    grind (arith, c.insert.ensures.items, c.unwrap.ensures) in
    let row : kept c.remove-row.result ≡ found.0 =
    same_kept rows place c.remove-row.result found.0 c.remove-row.ensures.value found.1 in
    ap (map kept) inserted
    ∙ ap₂ (λ x xs. x ∷ xs) row
    (ap (map kept) c.remove-row.ensures.by_index.2 ∙ kept_but_one rows place)
    ∙ sym (front_at _ _ _ place found.0 c.requires found.1 found.2)
