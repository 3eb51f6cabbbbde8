-- Each principal of a list once.
use Rattle.std.specs.Prelude.{Bool, false, not, ◌&&◌, ◌==◌, if◌then◌else◌, List, [], ◌∷◌, ◌++◌}
use Rattle.std.specs.Prelude.{filter}
use Rattle.std.specs.List.{list_any}
use Rattle.prin_term.specs.Principal.{Principal, Key, Name, And, Quoting, InRole, For}

-- whether two principals are equal
abbrev pub same_principal : Principal → Principal → Bool
same_principal (Key k) (Key l) = k == l
same_principal (Name m) (Name n) = m == n
same_principal (And a b) (And c d) = same_principal a c && same_principal b d
same_principal (Quoting a b) (Quoting c d) = same_principal a c && same_principal b d
same_principal (InRole a r) (InRole b s) = same_principal a b && (r == s)
same_principal (For a b) (For c d) = same_principal a c && same_principal b d
same_principal _ _ = false

-- each principal of the list, where it stands first
abbrev pub first_of_each : List Principal → List Principal
first_of_each [] = []
first_of_each (p ∷ rest) = p ∷ filter (λ q. not (same_principal q p)) (first_of_each rest)

-- a table without repetitions, and after it each principal of ps that was not yet there
abbrev pub met : List Principal → List Principal → List Principal
met table [] = table
met table (p ∷ ps) = met (if list_any (same_principal p) table then table else table ++ p ∷ []) ps
