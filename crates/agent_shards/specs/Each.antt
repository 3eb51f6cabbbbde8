-- What holds of the items of several lists, place by place.
use Rattle.std.specs.Prelude.{List, [], ◌∷◌}

-- the same of three lists
abbrev pub Each3 : {A B C : Type 0} → (A → B → C → Type 0) → List A → List B → List C → Type 0
Each3 R [] [] [] = Unit {0}
Each3 R (x ∷ xs) (y ∷ ys) (z ∷ zs) = R x y z × Each3 R xs ys zs
Each3 R _ _ _ = ⊥

-- the same of four lists
abbrev pub Each4 : {A B C D : Type 0} → (A → B → C → D → Type 0) →
    List A → List B → List C → List D → Type 0
Each4 R [] [] [] [] = Unit {0}
Each4 R (x ∷ xs) (y ∷ ys) (z ∷ zs) (w ∷ ws) = R x y z w × Each4 R xs ys zs ws
Each4 R _ _ _ _ = ⊥
