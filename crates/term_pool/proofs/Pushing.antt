-- A vector behind a push that had room.
use Rattle.std.proofs.Common.{◌≡◌, Bool, cond, true, List}

-- a push that succeeds gives the longer list
pub longer : {X : Type 0} (ok : Bool) (xs ys zs : List X) → ys ≡ cond ok xs zs → ok ≡ true → ys ≡ xs
longer ok xs ys zs e t = rw t at e
