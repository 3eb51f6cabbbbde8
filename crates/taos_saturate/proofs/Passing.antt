-- What a row knows, and what passes through it.
use Rattle.std.proofs.Common.{◌≡◌, ◌≢◌, ℕ, ◌+◌, ◌*◌, ◌<◌, Some, slice_get, slice_index, refl, sym, ◌∙◌, subst}
use Rattle.std.proofs.lemmas.Option.{same_Some}
use Rattle.taos_calculus.specs.declared.line.Step.{Step}
use Rattle.taos_calculus.specs.declared.line.Fact.{Fact}
use Rattle.taos_calculus.specs.Numbered.{chain, lift}
use Rattle.term_pool.specs.declared.found.Pair.{Pair}
use Rattle.taos_saturate.specs.declared.saturation.Saturation.{Saturation}
use Rattle.term_pool.specs.Finding.{of_speaks, of_says, IsFirstOf, Covers, IsGap}
use Rattle.taos_saturate.specs.Saturating.{facts_of, IsNumber, IsReady, IsKnown, IsNew, ChainFull, LiftFull}
use Rattle.term_pool.proofs.Adding.{empty_cell, set_cell, cell_known}
use Rattle.taos_saturate.proofs.Steps.{speaks_in, new_speaks, new_says}

module _ (s : Saturation) (ready : IsReady s) where
  in_width : (i : ℕ) → IsNumber s i → i < s.found.width
  in_width i h = rw ready.width_is h

  -- the cell of a fact of each kind
  speaks_set : (j m r : ℕ) → slice_get (facts_of s) j ≡ Some (Fact.Speaks m r) → slice_index s.found.numbers.items (m * s.found.width + r) ≢ 0
  speaks_set j m r e =
      let h : IsNumber s m × IsNumber s r = speaks_in s ready j m r e in
      set_cell s.found.width s.found.statements.items s.found.numbers.items s.found.lines.items ready.found.index j (Fact.Speaks m r) (m * s.found.width + r) e
      (of_speaks (in_width m h.0) (in_width r h.1) refl)

  speaks_known : (m r : ℕ) → m < s.found.width → r < s.found.width → slice_index s.found.numbers.items (m * s.found.width + r) ≢ 0 → IsKnown s (Fact.Speaks m r)
  speaks_known m r hm hr n =
      cell_known s.found.width s.found.statements.items s.found.numbers.items s.found.lines.items ready.found.index (Fact.Speaks m r) (m * s.found.width + r) (of_speaks hm hr refl) n

  says_known : (w l r k : ℕ) → w < s.found.width → IsFirstOf s.found.statements.items l r k →
      slice_index s.found.numbers.items ((s.found.width + k) * s.found.width + w) ≢ 0 → IsKnown s (Fact.Says w l r)
  says_known w l r k hw is n =
      cell_known s.found.width s.found.statements.items s.found.numbers.items s.found.lines.items ready.found.index (Fact.Says w l r) ((s.found.width + k) * s.found.width + w) (of_says k hw is refl) n

  pub chain_none : (l m : ℕ) → ((i : ℕ) → slice_get (facts_of s) i ≡ Some (Fact.Speaks l m) → ⊥) → ChainFull s l m
  chain_none l m none i j r e f = absurd (none i e)

  pub chain_covered : (l m : ℕ) → IsNumber s l → Covers s.found l m → ChainFull s l m
  chain_covered l m hl covers i j r e f =
      let h : IsNumber s m × IsNumber s r = speaks_in s ready j m r f in
      speaks_known l r (in_width l hl) (in_width r h.1) (covers r (in_width r h.1) (speaks_set j m r f))

  pub gap_known : (l m r : ℕ) → IsNumber s m → IsGap s.found l m r → ((j : ℕ) → slice_get (facts_of s) j ≡ Some (Fact.Speaks m r) → ⊥) → ⊥
  gap_known l m r hm gap none = let (j, e) = speaks_known m r (in_width m hm) gap.within gap.through_it in none j e

  pub says_gap_known : (w k b : ℕ) → IsNumber s w → IsGap s.found (s.found.width + k) w b → ((j : ℕ) → slice_get (facts_of s) j ≡ Some (Fact.Speaks w b) → ⊥) → ⊥
  says_gap_known w k b hw gap none = let (j, e) = speaks_known w b (in_width w hw) gap.within gap.through_it in none j e

  pub gap_new : (l m r i j : ℕ) → IsNumber s l → IsGap s.found l m r →
      slice_get (facts_of s) i ≡ Some (Fact.Speaks l m) → slice_get (facts_of s) j ≡ Some (Fact.Speaks m r) →
      IsNew s record { fact = Fact.Speaks l r; step = Step.Chain i j }
  gap_new l m r i j hl gap e f =
      let h : IsNumber s m × IsNumber s r = speaks_in s ready j m r f in
      new_speaks s ready l r (Step.Chain i j) hl h.1 (chain e f)
      (empty_cell s.found.width s.found.statements.items s.found.numbers.items s.found.lines.items ready.found.index (Fact.Speaks l r) (l * s.found.width + r)
      (of_speaks (in_width l hl) gap.within refl) gap.not_yet)

  pub lift_none : (w k : ℕ) (q : Pair) → slice_get s.found.statements.items k ≡ Some q → ((i : ℕ) → slice_get (facts_of s) i ≡ Some (Fact.Says w q.left q.right) → ⊥) →
      (p : Pair) → slice_get s.found.statements.items k ≡ Some p → LiftFull s w p
  lift_none w k q stands none p e i j b f g =
      let same : q ≡ p = same_Some q p (sym stands ∙ e) in
      absurd (none i (rw same f))

  pub lift_covered : (w k m : ℕ) (q : Pair) → slice_get s.found.statements.items k ≡ Some q → IsFirstOf s.found.statements.items q.left q.right m →
      Covers s.found (s.found.width + m) w → (p : Pair) → slice_get s.found.statements.items k ≡ Some p → LiftFull s w p
  lift_covered w k m q stands is covers p e i j b f g =
      let same : q ≡ p = same_Some q p (sym stands ∙ e) in
      let h : IsNumber s w × IsNumber s b = speaks_in s ready j w b g in
      let first : IsFirstOf s.found.statements.items p.left p.right m = subst (λ (x : Pair). IsFirstOf s.found.statements.items x.left x.right m) same is in
      says_known b p.left p.right m (in_width b h.1) first (covers b (in_width b h.1) (speaks_set j w b g))

  pub lift_new : (w k b i j : ℕ) (q : Pair) → IsFirstOf s.found.statements.items q.left q.right k → IsGap s.found (s.found.width + k) w b →
      slice_get (facts_of s) i ≡ Some (Fact.Says w q.left q.right) → slice_get (facts_of s) j ≡ Some (Fact.Speaks w b) →
      IsNew s record { fact = Fact.Says b q.left q.right; step = Step.Lift i j }
  lift_new w k b i j q is gap f g =
      let h : IsNumber s w × IsNumber s b = speaks_in s ready j w b g in
      new_says s ready b q.left q.right k (Step.Lift i j) h.1 is.stands (lift f g)
      (empty_cell s.found.width s.found.statements.items s.found.numbers.items s.found.lines.items ready.found.index (Fact.Says b q.left q.right) ((s.found.width + k) * s.found.width + b)
      (of_says k gap.within is refl) gap.not_yet)
