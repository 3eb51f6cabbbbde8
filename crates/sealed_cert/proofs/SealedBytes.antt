-- A sealed certificate is made of bytes.
use Rattle.std.proofs.Common.{ℕ, ◌==◌, Bool, true, false, cond, List, [], ◌∷◌, ◌++◌, All, Option, Some, None, sym, subst, append-nil, arith}
use Rattle.std.specs.Int.{w32, w64, to_be_bytes}
use Rattle.byte_fields.specs.Steps.{IsByte, optional}
use Rattle.byte_fields.proofs.FieldLaws.{IsBytes, IsBytes-append, IsBytes-cons, IsBytes-number, bytes_are}
use Rattle.byte_fields.proofs.ReaderLaws.{IsBytes-front}
use Rattle.keyed_seal.specs.Tag.{tag_of}
use Rattle.keyed_seal.proofs.Tags.{bytes-tag_of}
use Rattle.prin_term.specs.Principal.{Principal, spelling}
use Rattle.prin_term.proofs.Terms.{spelling_bytes}
use Rattle.stmt_codec.specs.Certificates.{Certificate, body_spelling, from_bytes, version_of}
use Rattle.stmt_codec.proofs.Beginnings.{version_within}
use Rattle.sealed_cert.specs.Seals.{sealed, sealed_after, text_after}

pub no_bytes : IsBytes []
no_bytes i = omega arith

optional_bytes : (o : Option Principal) → IsBytes (optional spelling o)
optional_bytes None = IsBytes-cons 0 [] (omega arith) no_bytes
optional_bytes (Some p) = IsBytes-cons 1 (spelling p) (omega arith) (spelling_bytes p)

from_is_bytes : (n : ℕ) → IsBytes (from_bytes n)
from_is_bytes n = by (n == 0)
  where
    by : (b : Bool) → IsBytes (cond b [] (to_be_bytes w64 n))
    by true = no_bytes
    by false = IsBytes-number w64 n

body_bytes : (c : Certificate) → IsBytes (body_spelling c)
body_bytes c =
    let one = version_of c.from ∷ [] ++ to_be_bytes w32 c.issuer in
    let two = one ++ optional spelling c.quoted in
    let three = two ++ spelling c.left in
    let four = three ++ spelling c.right in
    let five = four ++ from_bytes c.from in
    let first : IsBytes one = IsBytes-cons (version_of c.from) (to_be_bytes w32 c.issuer) (omega (arith, (version_within c.from).1)) (IsBytes-number w32 c.issuer) in
    let second : IsBytes two = IsBytes-append one (optional spelling c.quoted) first (optional_bytes c.quoted) in
    let third : IsBytes three = IsBytes-append two (spelling c.left) second (spelling_bytes c.left) in
    let fourth : IsBytes four = IsBytes-append three (spelling c.right) third (spelling_bytes c.right) in
    let fifth : IsBytes five = IsBytes-append four (from_bytes c.from) fourth (from_is_bytes c.from) in
    IsBytes-append (five ++ to_be_bytes w64 c.until) (to_be_bytes w64 c.serial) (IsBytes-append five (to_be_bytes w64 c.until) fifth (IsBytes-number w64 c.until)) (IsBytes-number w64 c.serial)

-- after a front that is made of bytes
pub sealed_bytes : (front key : List ℕ) (c : Certificate) → IsBytes front → IsBytes (sealed_after front key c)
sealed_bytes front key c is =
    let tag = tag_of key (text_after front c) in
    IsBytes-append (text_after front c) tag (IsBytes-append front (body_spelling c) is (body_bytes c)) (bytes_are tag (bytes-tag_of key (text_after front c)))

-- as a relay seals it for a node
pub relayed_bytes : (key : List ℕ) (c : Certificate) → All IsByte (sealed 2 key c)
relayed_bytes key c =
    IsBytes-front (sealed 2 key c) [] (subst IsBytes (sym (append-nil (sealed 2 key c))) (sealed_bytes (2 ∷ []) key c (IsBytes-cons 2 [] (omega arith) no_bytes)))
