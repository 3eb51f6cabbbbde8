-- What a reason tells of a row, case by case.
use Rattle.std.proofs.Common.{◌≡◌, inl, ℕ, ◌+◌, ◌<◌, Some, slice_get, length, sym, ◌∙◌, ap, subst, arith}
use Rattle.taos_calculus.specs.declared.line.Fact.{Fact}
use Rattle.taos_calculus.specs.declared.line.Node.{Node}
use Rattle.term_pool.specs.declared.cited.Cited.{Cited}
use Rattle.term_pool.specs.declared.found.Found.{Found}
use Rattle.goal_search.specs.Reasons.{IsAlike, IsEdge, IsReason, itself, speaker, both, onward}
use Rattle.goal_search.specs.Searching.{Core, about, IsReady}
use Rattle.goal_search.specs.Telling.{IsTold, TellsOf, TellsPassed, of_number, of_statement}
use Rattle.goal_search.proofs.Told.{told_speaks, told_says, same_cited}

module _ (s : Core) (ready : IsReady s) (f : Found) (row number reason : ℕ) where
  abbrev GivenBy : Type 0
  GivenBy = IsReason (about s) (TellsOf s f) row number reason

  pub no_reason : (reason ≡ 1296 → ⊥) → (reason ≡ 1297 → ⊥) → (reason < length s.nodes → ⊥) → GivenBy → ⊥
  no_reason n m k (itself h e w) = n w
  no_reason n m k (speaker i j e g alike p q w) = n w
  no_reason n m k (both e h g w) = m w
  no_reason n m k (onward h g e) = k h

  -- in the row of a number
  module _ (inside : row < length s.nodes) where
    pub at_once_number : reason ≡ 1296 → GivenBy → TellsPassed s f row number
    at_once_number r (itself h e w) = inl (sym e)
    at_once_number r (speaker i j e g alike p q w) = absurd (omega (arith, p, inside))
    at_once_number r (both e h g w) = absurd (omega (arith, r, w))
    at_once_number r (onward h g e) = absurd (omega (arith, r, h, ready.few_nodes))

    pub both_number : (g : Found) → reason ≡ 1297 → GivenBy →
        ((a b : ℕ) → slice_get s.nodes number ≡ Some (Node.And a b) → IsTold f (Fact.Speaks row a) → IsTold f (Fact.Speaks row b) → IsTold g (Fact.Speaks row number)) → IsTold g (Fact.Speaks row number)
    both_number g r (itself h e w) then = absurd (omega (arith, r, w))
    both_number g r (speaker i j e k alike p q w) then = absurd (omega (arith, r, w))
    both_number g r (both {a} {b} e h k w) then = then a b e (told_speaks s f row a inside h) (told_speaks s f row b inside k)
    both_number g r (onward h k e) then = absurd (omega (arith, r, h, ready.few_nodes))

    pub onward_number : (g : Found) → (reason ≡ 1296 → ⊥) → (reason ≡ 1297 → ⊥) → GivenBy →
        (IsTold f (Fact.Speaks row reason) → IsEdge (about s) (TellsOf s f) reason number → IsTold g (Fact.Speaks row number)) → IsTold g (Fact.Speaks row number)
    onward_number g n m (itself h e w) then = absurd (n w)
    onward_number g n m (speaker i j e k alike p q w) then = absurd (n w)
    onward_number g n m (both e h k w) then = absurd (m w)
    onward_number g n m (onward h k e) then = then (told_speaks s f row reason inside k) e

    pub told_of_number : (g : Found) → IsTold g (Fact.Speaks row number) → TellsOf s g row number
    told_of_number g t fact (of_number h e) = subst (λ (x : Fact). IsTold g x) (sym e) t
    told_of_number g t fact (of_statement i e p q) = absurd (omega (arith, p, inside))

  -- in the row of a statement
  module _ (place : ℕ) (row_is : row ≡ length s.nodes + place) (c : Cited) (stands : slice_get s.cited place ≡ Some c) where
    in_row : (i : ℕ) → TellsOf s f row i → IsTold f (Fact.Says i c.left c.right)
    in_row i t = told_says s f place i c stands (subst (λ (r : ℕ). TellsOf s f r i) row_is t)

    pub at_once_statement : (g : Found) → reason ≡ 1296 → GivenBy →
        ((i : ℕ) (x y : Cited) → slice_get s.cited i ≡ Some x → slice_get s.cited place ≡ Some y → IsAlike x y → number ≡ x.speaker → IsTold g (Fact.Says number y.left y.right)) →
        IsTold g (Fact.Says number c.left c.right)
    at_once_statement g r (itself h e w) then = absurd (omega (arith, row_is, h))
    at_once_statement g r (speaker {c = x} {d} i k e h alike p q w) then =
        let there : k ≡ place = omega (arith, p, row_is) in
        let same : d ≡ c = same_cited s place d c (ap (slice_get s.cited) (sym there) ∙ h) stands in
        then i x c e stands (subst (λ (y : Cited). IsAlike x y) same alike) q
    at_once_statement g r (both e h k w) then = absurd (omega (arith, r, w))
    at_once_statement g r (onward h k e) then = absurd (omega (arith, r, h, ready.few_nodes))

    pub both_statement : (g : Found) → reason ≡ 1297 → GivenBy →
        ((a b : ℕ) → slice_get s.nodes number ≡ Some (Node.And a b) → IsTold f (Fact.Says a c.left c.right) → IsTold f (Fact.Says b c.left c.right) → IsTold g (Fact.Says number c.left c.right)) →
        IsTold g (Fact.Says number c.left c.right)
    both_statement g r (itself h e w) then = absurd (omega (arith, r, w))
    both_statement g r (speaker i j e k alike p q w) then = absurd (omega (arith, r, w))
    both_statement g r (both {a} {b} e h k w) then = then a b e (in_row a h) (in_row b k)
    both_statement g r (onward h k e) then = absurd (omega (arith, r, h, ready.few_nodes))

    pub onward_statement : (g : Found) → (reason ≡ 1296 → ⊥) → (reason ≡ 1297 → ⊥) → GivenBy →
        (IsTold f (Fact.Says reason c.left c.right) → IsEdge (about s) (TellsOf s f) reason number → IsTold g (Fact.Says number c.left c.right)) → IsTold g (Fact.Says number c.left c.right)
    onward_statement g n m (itself h e w) then = absurd (n w)
    onward_statement g n m (speaker i j e k alike p q w) then = absurd (n w)
    onward_statement g n m (both e h k w) then = absurd (m w)
    onward_statement g n m (onward h k e) then = then (in_row reason k) e

  -- the row of a statement tells what is said
  pub told_of_statement : (g : Found) (place : ℕ) → row ≡ length s.nodes + place →
      ((c : Cited) → slice_get s.cited place ≡ Some c → IsTold g (Fact.Says number c.left c.right)) → TellsOf s g row number
  told_of_statement g place row_is t fact (of_number h e) = absurd (omega (arith, row_is, h))
  told_of_statement g place row_is t fact (of_statement {c} i e p q) =
      let there : i ≡ place = omega (arith, p, row_is) in
      subst (λ (x : Fact). IsTold g x) (sym q) (t c (ap (slice_get s.cited) (sym there) ∙ e))
