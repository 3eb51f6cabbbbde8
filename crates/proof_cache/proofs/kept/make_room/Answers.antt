-- one that is kept for the same goes, or else the last of as many as can be
use Rattle.std.proofs.Common.{◌∙◌, ◌≤◌, ◌+◌, ◌++◌, length, map, take, drop, sym, ap, arith}
use Rattle.std.proofs.lemmas.List.{length-append, length-drop, length-take, take-map, take_all}
use Rattle.std.proofs.lemmas.Option.{slice_get_within}
use Rattle.proof_cache.specs.Cache.{kept}
use Rattle.proof_cache.proofs.Lists.{others_at}
use Rattle.proof_cache.proofs.One.{leaves_all}
use Rattle.proof_cache.proofs.Rows.{kept_but_one}
use Rattle.proof_cache.proofs.kept.make_room.Goals as goal

pub returns-in-Some-clause-left : goal.returns-in-Some-clause-left
returns-in-Some-clause-left c =
    let found = rw c.deref.ensures.value at c.in-Some.ensures in
    let xs = map kept c.args.rows.now.items in
    let k = c.in-Some.place in
    let others = take k xs ++ drop (k + 1) xs in
    let few : length others ≤ 63 = omega (
      arith,
      length-append (take k xs) (drop (k + 1) xs),
      length-take k xs,
      length-drop (k + 1) xs,
      slice_get_within xs k found.0 found.1,
      c.requires.few,
    ) in
    ap (map kept) c.remove.ensures.by_index.2 ∙ kept_but_one c.args.rows.now.items k
    ∙ sym (ap (take 63) (others_at _ _ _ k found.0 c.requires found.1 found.2)
    ∙ take_all 63 others few)

pub returns-in-None-clause-left : goal.returns-in-None-clause-left
returns-in-None-clause-left c =
    let none = rw c.deref.ensures.value at c.in-None.ensures in
    ap (map kept) c.truncate.ensures.items
    ∙ sym (ap (take 63) (leaves_all _ _ none) ∙ take-map kept 63 c.args.rows.now.items)
