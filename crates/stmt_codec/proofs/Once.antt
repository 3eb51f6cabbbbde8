-- No body's spelling begins another's.
use Rattle.std.proofs.Common.{◌≡◌, ℕ, zero, suc, ◌^◌, ◌<◌, List, [], ◌∷◌, ◌++◌, Option, Some, None, refl, sym, ap, ◌∙◌, append_assoc, arith}
use Rattle.std.specs.Prelude.{IfSome}
use Rattle.std.specs.Int.{Width, w32, w64, to_be_bytes}
use Rattle.prin_term.specs.declared.fault.TermFault.{TermFault}
use Rattle.prin_term.specs.declared.fault.TermFault.TheVariants.{NoMemory}
use Rattle.prin_term.specs.Principal.{Principal, spelling, HasSpelling}
use Rattle.byte_fields.specs.Steps.{front_number, optional}
use Rattle.byte_fields.proofs.Results.{ok_is}
use Rattle.byte_fields.proofs.FieldLaws.{IsWide, wide32, wide64, front_number_again}
use Rattle.prin_term.proofs.Whole.{spelled_once}
use Rattle.stmt_codec.specs.Certificates.{Certificate, body_spelling, from_bytes, version_of, HasBodySpelling}
use Rattle.stmt_codec.proofs.Beginnings.{from_bytes-suc, version_of-suc}
use Rattle.stmt_codec.proofs.Equal.{from_parts}

number_once : (w : Width) (limit : ℕ) (wide : IsWide w limit) (m n : ℕ) (x y : List ℕ) → m < limit → n < limit → to_be_bytes w m ++ x ≡ to_be_bytes w n ++ y → (m ≡ n) × (x ≡ y)
number_once w limit wide m n x y mf nf e =
    let first = front_number_again NoMemory w limit wide m x mf in
    let second = front_number_again NoMemory w limit wide n y nf in
    let same : (m, x) ≡ (n, y) = ok_is TermFault (m, x) (n, y) (sym first ∙ ap (front_number NoMemory w) e ∙ second) in
    (ap (λ (o : ℕ × List ℕ). o.0) same, ap (λ (o : ℕ × List ℕ). o.1) same)

optional_once : (o p : Option Principal) (x y : List ℕ) → IfSome o HasSpelling → IfSome p HasSpelling → optional spelling o ++ x ≡ optional spelling p ++ y → (o ≡ p) × (x ≡ y)
optional_once None None x y ho hp e = (refl, cc)
optional_once None (Some q) x y ho hp e = absurd (flags_differ e)
  where
    flags_differ : 0 ∷ x ≡ 1 ∷ (spelling q ++ y) → ⊥
    flags_differ e = absurd cc
optional_once (Some p) None x y ho hp e = absurd (flags_differ e)
  where
    flags_differ : 1 ∷ (spelling p ++ x) ≡ 0 ∷ y → ⊥
    flags_differ e = absurd cc
optional_once (Some p) (Some q) x y ho hp e =
    let rest : spelling p ++ x ≡ spelling q ++ y = cc in
    let same = spelled_once p q x y ho hp rest in
    (ap Some same.0, same.1)

-- two versions differ where one beginning is 0 and the other is not
from_once : (m n : ℕ) (x y : List ℕ) → m < 2 ^ 64 → n < 2 ^ 64 → version_of m ≡ version_of n → from_bytes m ++ x ≡ from_bytes n ++ y → (m ≡ n) × (x ≡ y)
from_once zero zero x y hm hn v e = (refl, e)
from_once zero (suc n) x y hm hn v e = absurd (omega (arith, v, version_of-suc n))
from_once (suc m) zero x y hm hn v e = absurd (omega (arith, v, version_of-suc m))
from_once (suc m) (suc n) x y hm hn v e =
    number_once w64 (2 ^ 64) wide64 (suc m) (suc n) x y hm hn (ap (λ (l : List ℕ). l ++ x) (sym (from_bytes-suc m)) ∙ e ∙ ap (λ (l : List ℕ). l ++ y) (from_bytes-suc n))

regrouped : (a b c d e f g h r : List ℕ) → (a ++ b ++ c ++ d ++ e ++ f ++ g ++ h) ++ r ≡ a ++ (b ++ (c ++ (d ++ (e ++ (f ++ (g ++ (h ++ r)))))))
regrouped a b c d e f g h r = simp append_assoc

text : (c : Certificate) (x : List ℕ) → body_spelling c ++ x ≡ version_of c.from ∷ (to_be_bytes w32 c.issuer ++ (optional spelling c.quoted ++ (spelling c.left ++ (spelling c.right ++ (from_bytes c.from ++ (to_be_bytes w64 c.until ++ (to_be_bytes w64 c.serial ++ x)))))))
text c x = regrouped (version_of c.from ∷ []) (to_be_bytes w32 c.issuer) (optional spelling c.quoted) (spelling c.left) (spelling c.right) (from_bytes c.from) (to_be_bytes w64 c.until) (to_be_bytes w64 c.serial) x

behind_one : (v w : ℕ) (x y : List ℕ) → v ∷ x ≡ w ∷ y → (v ≡ w) × (x ≡ y)
behind_one v w x y e = (cc, cc)

pub body_once : (a b : Certificate) (x y : List ℕ) → HasBodySpelling a → HasBodySpelling b → body_spelling a ++ x ≡ body_spelling b ++ y → (a ≡ b) × (x ≡ y)
body_once a b x y ha hb e =
    let (v, e0) = behind_one _ _ _ _ (sym (text a x) ∙ e ∙ text b y) in
    let i = number_once w32 (2 ^ 32) wide32 a.issuer b.issuer _ _ ha.issuer hb.issuer e0 in
    let q = optional_once a.quoted b.quoted _ _ ha.quoted hb.quoted i.1 in
    let l = spelled_once a.left b.left _ _ ha.left hb.left q.1 in
    let r = spelled_once a.right b.right _ _ ha.right hb.right l.1 in
    let f = from_once a.from b.from _ _ ha.from hb.from v r.1 in
    let u = number_once w64 (2 ^ 64) wide64 a.until b.until _ _ ha.until hb.until f.1 in
    let s = number_once w64 (2 ^ 64) wide64 a.serial b.serial x y ha.serial hb.serial u.1 in
    (from_parts a b i.0 q.0 l.0 r.0 f.0 u.0 s.0, s.1)
