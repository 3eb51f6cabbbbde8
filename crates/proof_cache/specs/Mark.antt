-- A number by which most keys of kept proofs are told apart without looking at their terms.
use Rattle.std.specs.Prelude.{ℕ, ◌+◌, ◌*◌, ◌%◌, ◌^◌}
use Rattle.prin_term.specs.Principal.{Principal, Key, Name, And, Quoting, InRole, For}

-- two numbers in one of 64 bits
unfoldable pub mixed : ℕ → ℕ → ℕ
mixed a b = (a * 6364136223846793005 % 2 ^ 64 + b) % 2 ^ 64

-- the number of a principal
abbrev pub mark : Principal → ℕ
mark (Key k) = mixed 1 k
mark (Name n) = mixed 2 n
mark (And a b) = mixed (mixed 3 (mark a)) (mark b)
mark (Quoting a b) = mixed (mixed 4 (mark a)) (mark b)
mark (InRole a r) = mixed (mixed 5 (mark a)) r
mark (For a b) = mixed (mixed 6 (mark a)) (mark b)

-- the number of a subject and a principal
abbrev pub mark_of : Principal → Principal → ℕ
mark_of subject who = mixed (mark subject) (mark who)
