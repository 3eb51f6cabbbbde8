-- A body within the limits has a short spelling.
use Rattle.std.proofs.Common.{◌≡◌, ℕ, ◌≤◌, List, ◌∷◌, ◌++◌, length, refl, arith, None, Some, length-append}
use Rattle.std.specs.Prelude.{Option, IfSome}
use Rattle.std.specs.Int.{w32, w64, to_be_bytes}
use Rattle.prin_term.specs.Principal.{Principal, spelling}
use Rattle.byte_fields.specs.Steps.{optional}
use Rattle.prin_term.proofs.Sizes.{spelling_short}
use Rattle.stmt_codec.specs.Certificates.{Certificate, body_spelling, from_bytes, version_of, IsSmall, IsWithinLimits}
use Rattle.stmt_codec.proofs.Beginnings.{from_short}

small_spelling : (p : Principal) → IsSmall p → length (spelling p) ≤ 320
small_spelling p small = omega (arith, spelling_short p, small.0)

optional_spelling : (o : Option Principal) → IfSome o IsSmall → length (optional spelling o) ≤ 321
optional_spelling None fits = omega arith
optional_spelling (Some p) fits = omega (arith, small_spelling p fits)

parts_length : (h q l r f u s : List ℕ) → length h ≡ 5 → length q ≤ 321 → length l ≤ 320 → length r ≤ 320 → length f ≤ 8 → length u ≡ 8 → length s ≡ 8 → length ((((((h ++ q) ++ l) ++ r) ++ f) ++ u) ++ s) ≤ 990
parts_length h q l r f u s fh fq fl fr ff fu fs =
    omega (arith, length-append (((((h ++ q) ++ l) ++ r) ++ f) ++ u) s, length-append ((((h ++ q) ++ l) ++ r) ++ f) u, length-append (((h ++ q) ++ l) ++ r) f, length-append ((h ++ q) ++ l) r, length-append (h ++ q) l, length-append h q)

pub short_body : (c : Certificate) → IsWithinLimits c → length (body_spelling c) ≤ 990
short_body c limits =
    parts_length (version_of c.from ∷ to_be_bytes w32 c.issuer) (optional spelling c.quoted) (spelling c.left) (spelling c.right) (from_bytes c.from) (to_be_bytes w64 c.until) (to_be_bytes w64 c.serial) refl (optional_spelling c.quoted limits.quoted_fits)
    (small_spelling c.left limits.left_fits) (small_spelling c.right limits.right_fits) (from_short c.from) refl refl
