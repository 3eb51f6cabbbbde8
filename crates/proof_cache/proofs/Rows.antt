-- What rows keep, after one of them was moved.
use Rattle.std.proofs.Common.{◌≡◌, ◌∙◌, ℕ, ◌+◌, ◌<◌, ◌≤◌, List, ◌++◌, length, get_or, map, take, drop, Some, refl, sym, ap, ap₂, arith}
use Rattle.std.proofs.lemmas.List.{length-map, length-take, map-append, take-map}
use Rattle.std.proofs.lemmas.Option.{slice_get-map, slice_get_read, slice_get_within}
use Rattle.std.specs.Option.{option_map, unwrap_or}
use Rattle.std.specs.List.{drop-map, slice_get}
use Rattle.proof_cache.specs.Cached.{Cached}
use Rattle.proof_cache.specs.Cache.{kept}
use Rattle.proof_cache.specs.declared.row.Row.{Row}

-- all but one
pub kept_but_one : (rows : List Row) (k : ℕ) → map kept (take k rows ++ drop (k + 1) rows) ≡
    take k (map kept rows) ++ drop (k + 1) (map kept rows)
kept_but_one rows k =
    map-append kept (take k rows) (drop (k + 1) rows)
    ∙ ap₂ (λ xs ys. xs ++ ys) (sym (take-map kept k rows)) (sym (drop-map kept (k + 1) rows))

-- equal elements that are there
some_is : {X : Type 0} {x y : X} → Some x ≡ Some y → x ≡ y
some_is {X} {x} {y} h = ap (λ o. unwrap_or o x) h

-- what stands at a place is what the row there keeps
pub same_kept : (rows : List Row) (k : ℕ) (row : Row) (c : Cached) → row ≡ get_or rows k row →
    slice_get (map kept rows) k ≡ Some c → kept row ≡ c
same_kept rows k row c is at =
    let within : k < length rows =
    omega (arith, slice_get_within (map kept rows) k c at, length-map rows kept) in
    let there : slice_get rows k ≡ Some row =
    slice_get_read rows (length rows) k row refl within is in
    let seen = slice_get-map kept rows k ∙ ap (option_map kept) there in
    some_is (sym seen ∙ at)

-- so many at most
pub few_taken : {X : Type 0} (n : ℕ) (xs ys : List X) → xs ≡ take n ys → length xs ≤ n
few_taken n xs ys h = omega (arith, ap length h, length-take n ys)
