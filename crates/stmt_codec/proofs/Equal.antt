-- The test of equality of certificates decides it.
use Rattle.std.proofs.Common.{◌≡◌, ◌↔◌, Bool, true, false, ◌==◌, Option, Some, None, refl, sym, subst, ap, ◌∙◌}
use Rattle.std.specs.Prelude.{IsTrue}
use Rattle.std.proofs.lemmas.Bool.{and_parts, and_from, eqb-true, eq-eqb, false≢true}
use Rattle.prin_term.specs.Principal.{Principal}
use Rattle.stmt_codec.specs.Certificates.{Certificate}
use Rattle.stmt_codec.specs.Distinct.{same_principal}
use Rattle.stmt_codec.specs.Equality.{same_quoted, same_certificate}
use Rattle.stmt_codec.proofs.Same.{same_principal-true, same_principal-itself}

same_quoted-true : (o p : Option Principal) → same_quoted o p ≡ true → o ≡ p
same_quoted-true None None h = refl
same_quoted-true (Some p) (Some q) h = ap Some (same_principal-true p q h)
same_quoted-true None (Some q) h = absurd (false≢true h)
same_quoted-true (Some p) None h = absurd (false≢true h)

same_quoted-itself : (o : Option Principal) → same_quoted o o ≡ true
same_quoted-itself None = refl
same_quoted-itself (Some p) = same_principal-itself p

-- seven equal parts
pub from_parts : (c d : Certificate) → c.issuer ≡ d.issuer → c.quoted ≡ d.quoted → c.left ≡ d.left → c.right ≡ d.right → c.from ≡ d.from → c.until ≡ d.until → c.serial ≡ d.serial → c ≡ d
from_parts c d issuer quoted left right from until serial = λ k. record { issuer = issuer k; quoted = quoted k; left = left k; right = right k; from = from k; until = until k; serial = serial k }

pub same_certificate-true : (c d : Certificate) → same_certificate c d ≡ true → c ≡ d
same_certificate-true c d h =
    let a = and_parts (c.issuer == d.issuer) _ h in
    let b = and_parts (same_quoted c.quoted d.quoted) _ a.1 in
    let e = and_parts (same_principal c.left d.left) _ b.1 in
    let f = and_parts (same_principal c.right d.right) _ e.1 in
    let g = and_parts (c.from == d.from) _ f.1 in
    let h = and_parts (c.until == d.until) (c.serial == d.serial) g.1 in
    from_parts c d (eqb-true c.issuer d.issuer a.0) (same_quoted-true c.quoted d.quoted b.0) (same_principal-true c.left d.left e.0) (same_principal-true c.right d.right f.0)
    (eqb-true c.from d.from g.0) (eqb-true c.until d.until h.0) (eqb-true c.serial d.serial h.1)

pub same_certificate-itself : (c : Certificate) → same_certificate c c ≡ true
same_certificate-itself c =
    and_from (c.issuer == c.issuer) _ (eq-eqb c.issuer c.issuer refl)
    (and_from (same_quoted c.quoted c.quoted) _ (same_quoted-itself c.quoted)
    (and_from (same_principal c.left c.left) _ (same_principal-itself c.left)
    (and_from (same_principal c.right c.right) _ (same_principal-itself c.right)
    (and_from (c.from == c.from) _ (eq-eqb c.from c.from refl)
    (and_from (c.until == c.until) (c.serial == c.serial) (eq-eqb c.until c.until refl) (eq-eqb c.serial c.serial refl))))))

pub same_certificate-false : (c d : Certificate) → (c ≡ d → ⊥) → same_certificate c d ≡ false
same_certificate-false c d differ = by (same_certificate c d) refl
  where
    by : (b : Bool) → same_certificate c d ≡ b → b ≡ false
    by true e = absurd (differ (same_certificate-true c d e))
    by false e = refl

pub same_certificate-apart : (c d : Certificate) → same_certificate c d ≡ false → c ≡ d → ⊥
same_certificate-apart c d h same = false≢true (sym h ∙ subst (λ (x : Certificate). same_certificate c x ≡ true) same (same_certificate-itself c))

-- the test, as a fact on what it answers
pub tested : (r : Bool) (c d : Certificate) → r ≡ same_certificate c d → IsTrue r ↔ (c ≡ d)
tested r c d is = (
  (λ yes. same_certificate-true c d (sym is ∙ yes)),
  (λ same. is ∙ subst (λ (x : Certificate). same_certificate c x ≡ true) same (same_certificate-itself c)),
)
