-- A principal as a list of numbers, so that a model may hold principals.
use Rattle.std.specs.Prelude.{◌≡◌, ℕ, zero, suc, List, [], ◌∷◌, ◌++◌, refl}
use Rattle.std.specs.Coded.{Coded, code_by, coded×, coded_ℕ, coded_list}
use Rattle.std.proofs.Common.{append_assoc}
use Rattle.std.proofs.lemmas.List.{append-nil}
use Rattle.prin_term.specs.Principal.{Principal, Key, Name, And, Quoting, InRole, For}

-- the principal's nodes in post-order, each with its kind and its number
abbrev pub written : Principal → List (ℕ × ℕ)
written (Key k) = (0, k) ∷ []
written (Name n) = (1, n) ∷ []
written (And a b) = written a ++ (written b ++ (2, 0) ∷ [])
written (Quoting a b) = written a ++ (written b ++ (3, 0) ∷ [])
written (InRole a r) = written a ++ (4, r) ∷ []
written (For a b) = written a ++ (written b ++ (5, 0) ∷ [])

-- one node on a stack, whose operands are on top of it
abbrev pub pushed : ℕ → ℕ → List Principal → List Principal
pushed zero n stack = Key n ∷ stack
pushed (suc zero) n stack = Name n ∷ stack
pushed (suc (suc zero)) n (b ∷ a ∷ stack) = And a b ∷ stack
pushed (suc (suc (suc zero))) n (b ∷ a ∷ stack) = Quoting a b ∷ stack
pushed (suc (suc (suc (suc zero)))) n (a ∷ stack) = InRole a n ∷ stack
pushed (suc (suc (suc (suc (suc k))))) n (b ∷ a ∷ stack) = For a b ∷ stack
pushed k n stack = stack

-- the principals that nodes in post-order build on a stack
abbrev pub read : List (ℕ × ℕ) → List Principal → List Principal
read [] stack = stack
read (x ∷ rest) stack = read rest (pushed x.0 x.1 stack)

-- the principal on top of the stack
abbrev pub top : List Principal → Principal
top [] = Key 0
top (p ∷ rest) = p

-- reading what was written of a principal puts it on the stack
pub read-written : (p : Principal) (rest : List (ℕ × ℕ)) (stack : List Principal)
    → read (written p ++ rest) stack ≡ read rest (p ∷ stack)
read-written (Key k) rest stack = refl
read-written (Name n) rest stack = refl
read-written (And a b) rest stack =
    rw (append_assoc, append_assoc, read-written a, read-written b) refl
read-written (Quoting a b) rest stack =
    rw (append_assoc, append_assoc, read-written a, read-written b) refl
read-written (InRole a r) rest stack = rw (append_assoc, read-written a) refl
read-written (For a b) rest stack =
    rw (append_assoc, append_assoc, read-written a, read-written b) refl

-- what is read of what was written of a principal is the principal
pub gives_back : (p : Principal) → top (read (written p) []) ≡ p
gives_back p = rw (← append-nil (written p)) (rw read-written refl)

-- principals as lists of numbers
abbrev pub principal_code : Coded Principal
principal_code =
    code_by (List (ℕ × ℕ)) (coded_list (coded× coded_ℕ coded_ℕ)) written
    (λ xs. top (read xs [])) gives_back
