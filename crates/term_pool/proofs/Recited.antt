-- The numbers that lines cite, one number more.
use Rattle.std.proofs.Common.{◌≡◌, ◌⊎◌, inl, inr, ℕ, zero, suc, ◌+◌, ◌<◌, ◌≤◌, List, [], ◌∷◌, ◌++◌, Some, slice_get, get_or, length, Contains, refl, sym, ap, subst, ◌∙◌, arith}
use Rattle.std.proofs.lemmas.List.{length-append}
use Rattle.std.proofs.lemmas.Option.{none-some, slice_get_within, get_or_from_slice_get}
use Rattle.taos_calculus.specs.declared.line.Line.{Line}
use Rattle.taos_calculus.specs.declared.line.Step.{Step}
use Rattle.taos_calculus.specs.Tidy.{cites_of, moved}
use Rattle.taos_calculus.proofs.Building.{slice_get-front, slice_get-back}
use Rattle.term_pool.specs.Citing.{IsCite, HasPlace, UsedBelow, IsRecited}
use Rattle.term_pool.proofs.Orders.{same_or_not}
use Rattle.term_pool.proofs.Interned.{pushed_at}

pub used_none : (lines : List Line) → UsedBelow lines 0 []
used_none lines = record {
  all = λ m h. absurd (omega arith);
  below = λ j m e. absurd (none-some m e);
  only = λ j m e. absurd (none-some m e);
  apart = λ i j m e. absurd (none-some m e);
  few = omega arith;
}

module _ (lines : List Line) (k : ℕ) (used : List ℕ) (u : UsedBelow lines k used) where
  pub used_skip : (IsCite lines k → ⊥) → UsedBelow lines (k + 1) used
  used_skip none = record {
    all = λ m h c. skip m h c (same_or_not m k);
    below = λ j m e. omega (arith, u.below j m e);
    only = u.only;
    apart = u.apart;
    few = omega (arith, u.few);
  }
    where
      skip : (m : ℕ) → m < k + 1 → IsCite lines m → (m ≡ k) ⊎ (m ≡ k → ⊥) → HasPlace used m
      skip m h c (inl q) = absurd (none (subst (IsCite lines) q c))
      skip m h c (inr n) = u.all m (omega arith) c

  pub used_more : IsCite lines k → UsedBelow lines (k + 1) (used ++ k ∷ [])
  used_more here = record {
    all = λ m h c. more m h c (same_or_not m k);
    below = λ j m e. elim (pushed_at used k m j e) [ inl f ↦ omega (arith, u.below j m f) | inr q ↦ omega (arith, q.1) ];
    only = λ j m e. elim (pushed_at used k m j e) [ inl f ↦ u.only j m f | inr q ↦ subst (IsCite lines) q.1 here ];
    apart = λ i j m e f. once i j m (pushed_at used k m i e) (pushed_at used k m j f);
    few = omega (arith, u.few, length-append used (k ∷ []));
  }
    where
      more : (m : ℕ) → m < k + 1 → IsCite lines m → (m ≡ k) ⊎ (m ≡ k → ⊥) → HasPlace (used ++ k ∷ []) m
      more m h c (inl q) = (length used, slice_get-back used (k ∷ []) 0 (length used) (omega arith) ∙ ap (λ (n : ℕ). Some n) (sym q))
      more m h c (inr n) = let (j, e) = u.all m (omega arith) c in (j, slice_get-front used (k ∷ []) j m e)

      once : (i j m : ℕ) → (slice_get used i ≡ Some m) ⊎ ((i ≡ length used) × (k ≡ m)) → (slice_get used j ≡ Some m) ⊎ ((j ≡ length used) × (k ≡ m)) → i ≡ j
      once i j m (inl e) (inl f) = u.apart i j m e f
      once i j m (inl e) (inr q) = absurd (omega (arith, u.below i m e, q.1))
      once i j m (inr q) (inl f) = absurd (omega (arith, u.below j m f, q.1))
      once i j m (inr q) (inr r) = q.0 ∙ sym r.0

pub recited_said : (used : List ℕ) (k place : ℕ) → slice_get used place ≡ Some k → IsRecited used (Step.Said k) (Step.Said place)
recited_said used k place e = record { cite = λ i. place; is = refl; stands = λ m c. only c.0 m c.1 c.2 }
  where
    only : (i m : ℕ) → i < 1 → get_or (k ∷ []) i m ≡ m → slice_get used place ≡ Some m
    only zero m h q = e ∙ ap (λ (n : ℕ). Some n) q
    only (suc i) m h q = absurd (omega arith)

pub recited_same : (used : List ℕ) (step : Step) → ((k : ℕ) → Contains (cites_of step) k → ⊥) → moved (λ i. i) (λ i. i) step ≡ step → IsRecited used step step
recited_same used step none e = record { cite = λ i. i; is = sym e; stands = λ k c. absurd (none k c) }

pub moved-same : (step : Step) → moved (λ i. i) (λ i. i) step ≡ step
moved-same Step.Same = refl
moved-same (Step.Chain i j) = refl
moved-same Step.Left = refl
moved-same Step.Right = refl
moved-same (Step.Both i j) = refl
moved-same (Step.Quote i j) = refl
moved-same (Step.For i j) = refl
moved-same Step.Role = refl
moved-same (Step.RoleUnder i) = refl
moved-same (Step.Anchor i) = refl
moved-same (Step.Said i) = refl
moved-same (Step.Lift i j) = refl
moved-same (Step.Join i j) = refl
moved-same (Step.HandOff i) = refl
moved-same (Step.Delegate i) = refl

pub none_in : (k : ℕ) → Contains [] k → ⊥
none_in k c = let h : c.0 < 0 = c.1 in omega arith

pub cites_nothing : (step : Step) → ((c : ℕ) → step ≡ Step.Said c → ⊥) → (k : ℕ) → Contains (cites_of step) k → ⊥
cites_nothing (Step.Said i) n k c = n i refl
cites_nothing step n k c = none_in k c

pub said_cites : (k m : ℕ) → Contains (cites_of (Step.Said k)) m → k ≡ m
said_cites k m c = go c.0 c.1 c.2
  where
    go : (i : ℕ) → i < 1 → get_or (k ∷ []) i m ≡ m → k ≡ m
    go zero h q = q
    go (suc i) h q = absurd (omega arith)

abbrev pub LacksCite : List Line → ℕ → ℕ → Type 0
LacksCite lines number m = (x : Line) → slice_get lines m ≡ Some x → Contains (cites_of x.step) number → ⊥

pub lacks_at : (lines : List Line) (number i : ℕ) (d : Line) → i < length lines → (Contains (cites_of (get_or lines i d).step) number → ⊥) → LacksCite lines number i
lacks_at lines number i d h none x e c =
    let same : get_or lines i d ≡ x = get_or_from_slice_get lines i x d e in
    none (rw same c)

pub no_cite_at_all : (lines : List Line) (number k : ℕ) → length lines ≤ k → ((m : ℕ) → m < k → LacksCite lines number m) → IsCite lines number → ⊥
no_cite_at_all lines number k h none c = none c.at (omega (arith, slice_get_within lines c.at c.line c.stands)) c.line c.stands c.names
