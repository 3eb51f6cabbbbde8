-- One line more is looked at, from the last one down.
use Rattle.std.proofs.Common.{◌≡◌, ◌⊎◌, inl, inr, ℕ, ◌+◌, ◌<◌, ◌≤◌, Bool, List, Some, slice_get, length, Contains, sym, ◌∙◌, ap, arith}
use Rattle.std.proofs.lemmas.Option.{same_Some}
use Rattle.taos_calculus.specs.declared.line.Line.{Line}
use Rattle.taos_calculus.specs.Tidy.{premises_of}
use Rattle.term_pool.specs.Extract.{Marked, HasPremises, IsWanted, IsMarkedFrom}
use Rattle.term_pool.proofs.Orders.{same_or_not}

module _ (lines : List Line) (last k : ℕ) (old new : List Bool) (l : Line)
    (stands : slice_get lines k ≡ Some l) (ordered : (i : ℕ) → Contains (premises_of l.step) i → i < k) (inside : k ≤ last) (here : Marked old k)
    (same_length : length new ≡ length old) (kept : (m : ℕ) → Marked old m → Marked new m)
    (set : (i : ℕ) → Contains (premises_of l.step) i → Marked new i)
    (only : (m : ℕ) → Marked new m → Marked old m ⊎ Contains (premises_of l.step) m)
    (before : IsMarkedFrom lines last (k + 1) old) where
  -- at or above k nothing is marked anew
  unmarked : (m : ℕ) → k ≤ m → Marked new m → Marked old m
  unmarked m h n = go (only m n)
    where
      go : Marked old m ⊎ Contains (premises_of l.step) m → Marked old m
      go (inl o) = o
      go (inr c) = absurd (let q : m < k = ordered m c in omega arith)

  closed_now : (m : ℕ) → k ≤ m → Marked new m → HasPremises lines new m
  closed_now m h n x i e c = go (same_or_not m k)
    where
      go : (m ≡ k) ⊎ (m ≡ k → ⊥) → Marked new i
      go (inl q) =
          let same : x ≡ l = same_Some x l (sym e ∙ (ap (slice_get lines) q ∙ stands)) in
          set i (rw same at c)
      go (inr ne) = kept i (before.closed m (omega arith) (unmarked m h n) x i e c)

  wanted_still : (m : ℕ) → IsWanted lines last old m → IsWanted lines last new m
  wanted_still m w = record { by = w.by; line = w.line; later = w.later; within = w.within; marked = kept w.by w.marked; stands = w.stands; names = w.names }

  wanted_now : (m : ℕ) → m < last → Marked new m → IsWanted lines last new m
  wanted_now m h n = go (only m n)
    where
      go : Marked old m ⊎ Contains (premises_of l.step) m → IsWanted lines last new m
      go (inl o) = wanted_still m (before.wanted m h o)
      go (inr c) = record { by = k; line = l; later = ordered m c; within = inside; marked = kept k here; stands = stands; names = c }

  pub marked_from : IsMarkedFrom lines last k new
  marked_from = record {
    long = same_length ∙ before.long;
    goal = kept last before.goal;
    closed = closed_now;
    wanted = wanted_now;
  }
