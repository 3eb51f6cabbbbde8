-- The places of cells, put in the order of their stamps.
use Rattle.std.proofs.Common.{◌≡◌, ◌≢◌, ◌⊎◌, inl, inr, ℕ, ◌+◌, ◌-◌, ◌<◌, ◌≤◌, List, slice_index, set, length, sym, ◌∙◌, ap, subst, arith}
use Rattle.std.proofs.lemmas.List.{get_or-replicate, get_or-set_same, get_or-set_other, length-replicate, length-set}
use Rattle.std.specs.Prelude.{replicate}
use Rattle.term_pool.proofs.Orders.{same_or_not}
use Rattle.goal_search.specs.declared.cells.Cells.{Cells}
use Rattle.goal_search.specs.Cells.{AreCells, stamp_of}
use Rattle.goal_search.specs.Replaying.{IsOrder}

-- what a cell holds, and the stamp of that
abbrev pub at_place : Cells → ℕ → ℕ
at_place t place = slice_index t.cells.items place

module _ (t : Cells) (cells : AreCells t) (last : ℕ) (order : List ℕ) (n : ℕ) (before : IsOrder t last order n) where
  -- one more has its place
  placed : 0 < stamp_of (at_place t n) → stamp_of (at_place t n) ≤ last → (place : ℕ) → place < n + 1 → at_place t place ≢ 0 → stamp_of (at_place t place) ≤ last →
      slice_index (set order (stamp_of (at_place t n) - 1) n) (stamp_of (at_place t place) - 1) ≡ place
  placed some low place h filled within = go (same_or_not place n)
    where
      here : at_place t n ≢ 0
      here e = absurd (omega (arith, some, ap stamp_of e))

      go : (place ≡ n) ⊎ (place ≢ n) → slice_index (set order (stamp_of (at_place t n) - 1) n) (stamp_of (at_place t place) - 1) ≡ place
      go (inl e) =
          subst (λ (p : ℕ). slice_index (set order (stamp_of (at_place t n) - 1) n) (stamp_of (at_place t p) - 1) ≡ p) (sym e)
          (get_or-set_same order (stamp_of (at_place t n) - 1) n 0 (omega (arith, some, low, before.long)))
      go (inr ne) =
          get_or-set_other order (stamp_of (at_place t n) - 1) (stamp_of (at_place t place) - 1) n 0 other ∙ before.placed place (below_else ne) filled within
        where
          below_else : place ≢ n → place < n
          below_else m = omega (arith, h, m)

          other : stamp_of (at_place t place) - 1 ≢ stamp_of (at_place t n) - 1
          other q = ne (cells.apart place n filled here (omega (arith, q, some, (cells.stamped place filled).0)))

  -- what is put among places is one
  within : n < length t.cells.items → (at k : ℕ) → k < last → slice_index (set order at n) k < length t.cells.items
  within inside at k b = go (same_or_not k at)
    where
      go : (k ≡ at) ⊎ (k ≢ at) → slice_index (set order at n) k < length t.cells.items
      go (inl e) = rw e (rw (get_or-set_same order at n 0 (omega (arith, b, e, before.long))) inside)
      go (inr ne) = rw (get_or-set_other order at k n 0 ne) (before.within k b)

  pub placed_then : n < length t.cells.items → 0 < stamp_of (at_place t n) → stamp_of (at_place t n) ≤ last → IsOrder t last (set order (stamp_of (at_place t n) - 1) n) (n + 1)
  placed_then inside some low = record {
    long = length-set order (stamp_of (at_place t n) - 1) n ∙ before.long;
    within = within inside (stamp_of (at_place t n) - 1);
    placed = placed some low;
  }

  -- one more has none, since it is empty or too late
  pub placed_else : (0 < stamp_of (at_place t n) → stamp_of (at_place t n) ≤ last → ⊥) → IsOrder t last order (n + 1)
  placed_else none = record { long = before.long; within = before.within; placed = more }
    where
      more : (place : ℕ) → place < n + 1 → at_place t place ≢ 0 → stamp_of (at_place t place) ≤ last → slice_index order (stamp_of (at_place t place) - 1) ≡ place
      more place h filled late = go (same_or_not place n)
        where
          go : (place ≡ n) ⊎ (place ≢ n) → slice_index order (stamp_of (at_place t place) - 1) ≡ place
          go (inl e) = absurd (none (subst (λ (p : ℕ). 0 < stamp_of (at_place t p)) e (cells.stamped place filled).0) (subst (λ (p : ℕ). stamp_of (at_place t p) ≤ last) e late))
          go (inr ne) = before.placed place (below_else ne) filled late
            where
              below_else : place ≢ n → place < n
              below_else m = omega (arith, h, m)

-- no place stands in order yet
pub placed_none : (t : Cells) (last : ℕ) (order : List ℕ) → 0 < length t.cells.items → order ≡ replicate last 0 → IsOrder t last order 0
placed_none t last order some e = record {
  long = ap length e ∙ length-replicate last 0;
  within = λ k b. rw e (rw (get_or-replicate {A = ℕ} last k 0 0 b) some);
  placed = λ place h. absurd (omega (arith, h));
}
