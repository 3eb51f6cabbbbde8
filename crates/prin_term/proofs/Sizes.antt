-- How long a spelling is at most.
use Rattle.std.proofs.Common.{◌*◌, ◌≤◌, length, arith, length-append}
use Rattle.std.specs.Int.{w32, to_be_bytes}
use Rattle.prin_term.specs.Principal.{Principal, Key, Name, And, Quoting, InRole, For, node_count, spelling}

-- five bytes a node
pub spelling_short : (t : Principal) → length (spelling t) ≤ 5 * node_count t
spelling_short (Key k) = omega arith
spelling_short (Name n) = omega arith
spelling_short (And a b) = omega (arith, length-append (spelling a) (spelling b), spelling_short a, spelling_short b)
spelling_short (Quoting a b) = omega (arith, length-append (spelling a) (spelling b), spelling_short a, spelling_short b)
spelling_short (InRole a r) = omega (arith, length-append (spelling a) (to_be_bytes w32 r), spelling_short a)
spelling_short (For a b) = omega (arith, length-append (spelling a) (spelling b), spelling_short a, spelling_short b)
