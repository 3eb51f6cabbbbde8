-- The bytes of a plain line are ASCII, and so are those behind its words; and what such a line says.
use Rattle.std.proofs.Common.{◌≡◌, ℕ, ◌<◌, zero, suc, Bool, true, false, cond, ◌&&◌, List, [], ◌∷◌, Result, Ok, Err, refl, arith}
use Rattle.std.specs.Str.{IsAscii, IsUtf8}
use Rattle.std.proofs.lemmas.Bool.{false≢true}
use Rattle.std.proofs.lemmas.Bool.Decides.{nat_tests}
use Rattle.std.proofs.lemmas.Str.{IsUtf8-from_ascii}
use Rattle.prin_text.specs.Tokens.{is_blank}
use Rattle.prin_text.specs.declared.lines.fault.FileCause.{FileCause}
use Rattle.prin_text.specs.declared.lines.fault.FileCause.TheVariants.{Words}
use Rattle.prin_text.specs.Fields.{if_plain}
use Rattle.prin_text.specs.Lines.{behind_word, is_plain, is_plain_byte, unblanked, word_off}

plain_byte : (b : ℕ) → is_plain_byte b ≡ true → b < 128
plain_byte b e = grind (arith, nat_tests, e)

both : (a b : Bool) → (a && b) ≡ true → (a ≡ true) × (b ≡ true)
both true b e = (refl, e)
both false b e = absurd (false≢true e)

plain_ascii : (t : List ℕ) → is_plain t ≡ true → IsAscii t
plain_ascii [] all i = omega arith
plain_ascii (b ∷ t) all zero = plain_byte b (both (is_plain_byte b) (is_plain t) all).0
plain_ascii (b ∷ t) all (suc i) = plain_ascii t (both (is_plain_byte b) (is_plain t) all).1 i

pub plain_utf8 : (t : List ℕ) → is_plain t ≡ true → IsUtf8 t
plain_utf8 t all = IsUtf8-from_ascii t (plain_ascii t all)

either_plain : (b : Bool) (x y : List ℕ) → is_plain x ≡ true → is_plain y ≡ true → is_plain (cond b x y) ≡ true
either_plain true x y first second = first
either_plain false x y first second = second

plain_unblanked : (t : List ℕ) → is_plain t ≡ true → is_plain (unblanked t) ≡ true
plain_unblanked [] all = all
plain_unblanked (b ∷ t) all = either_plain (is_blank b) (unblanked t) (b ∷ t) (plain_unblanked t (both (is_plain_byte b) (is_plain t) all).1) all

plain_behind : (t : List ℕ) → is_plain t ≡ true → is_plain (behind_word t) ≡ true
plain_behind [] all = all
plain_behind (b ∷ t) all = either_plain (is_blank b) (b ∷ t) (behind_word t) all (plain_behind t (both (is_plain_byte b) (is_plain t) all).1)

-- what stands behind the first word of a plain line
pub plain_rest : (t : List ℕ) → is_plain t ≡ true → is_plain (word_off t).1 ≡ true
plain_rest t all = plain_behind (unblanked t) (plain_unblanked t all)

-- ---- what a line says

pub plain_says : {A : Type 0} (line : List ℕ) (says : Result A FileCause) → is_plain line ≡ true → if_plain line says ≡ says
plain_says line says plain = rw plain refl

pub plain_ok : {A : Type 0} (line : List ℕ) (says : Result A FileCause) (x : A) → if_plain line says ≡ Ok x → says ≡ Ok x
plain_ok {A} line says x e = by (is_plain line) e
  where
    by : (b : Bool) → cond b says (Err Words) ≡ Ok x → says ≡ Ok x
    by true e = e
    by false e = absurd cc
