-- The test of equality decides it.
use Rattle.std.proofs.Common.{◌≡◌, ◌↔◌, Bool, true, false, ◌&&◌, ◌==◌, refl, sym, subst, ap, ap₂}
use Rattle.std.specs.Prelude.{IsTrue}
use Rattle.std.proofs.lemmas.Bool.{and_parts, and_from, eqb-true, eq-eqb, false≢true}
use Rattle.prin_term.specs.Principal.{Principal, Key, Name, And, Quoting, InRole, For}
use Rattle.stmt_codec.specs.Distinct.{same_principal}

-- two parts that are the same by their tests
both : {A B : Type 0} (s : A → A → Bool) (t : B → B → Bool) (C : A → B → Principal) (a c : A) (b d : B) →
    (s a c ≡ true → a ≡ c) → (t b d ≡ true → b ≡ d) → (s a c && t b d) ≡ true → C a b ≡ C c d
both s t C a c b d f g h = let parts : (s a c ≡ true) × (t b d ≡ true) = and_parts (s a c) (t b d) h in ap₂ C (f parts.0) (g parts.1)

pub same_principal-true : (p q : Principal) → same_principal p q ≡ true → p ≡ q
same_principal-true (Key k) (Key l) h = ap Key (eqb-true k l h)
same_principal-true (Name m) (Name n) h = ap Name (eqb-true m n h)
same_principal-true (And a b) (And c d) h = both same_principal same_principal And a c b d (same_principal-true a c) (same_principal-true b d) h
same_principal-true (Quoting a b) (Quoting c d) h = both same_principal same_principal Quoting a c b d (same_principal-true a c) (same_principal-true b d) h
same_principal-true (InRole a r) (InRole b s) h = both same_principal ◌==◌ InRole a b r s (same_principal-true a b) (eqb-true r s) h
same_principal-true (For a b) (For c d) h = both same_principal same_principal For a c b d (same_principal-true a c) (same_principal-true b d) h
same_principal-true _ _ h = absurd (false≢true h)

pub same_principal-itself : (p : Principal) → same_principal p p ≡ true
same_principal-itself (Key k) = eq-eqb k k refl
same_principal-itself (Name n) = eq-eqb n n refl
same_principal-itself (And a b) = and_from (same_principal a a) (same_principal b b) (same_principal-itself a) (same_principal-itself b)
same_principal-itself (Quoting a b) = and_from (same_principal a a) (same_principal b b) (same_principal-itself a) (same_principal-itself b)
same_principal-itself (InRole a r) = and_from (same_principal a a) (r == r) (same_principal-itself a) (eq-eqb r r refl)
same_principal-itself (For a b) = and_from (same_principal a a) (same_principal b b) (same_principal-itself a) (same_principal-itself b)

-- an answer that is true exactly where two principals are one
pub test_is : (r : Bool) (p q : Principal) → (IsTrue r ↔ (p ≡ q)) → r ≡ same_principal p q
test_is true p q h = sym (subst (λ (x : Principal). same_principal p x ≡ true) (h.0 refl) (same_principal-itself p))
test_is false p q h = by (same_principal p q) refl
  where
    by : (b : Bool) → same_principal p q ≡ b → false ≡ b
    by true e = absurd (false≢true (h.1 (same_principal-true p q e)))
    by false e = refl
